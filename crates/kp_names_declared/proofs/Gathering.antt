-- Names that are gathered one by one: which there are, and where they stand.
use Rattle.std.proofs.Common.{◌≡◌, suc, ◌+◌, Bool, true, false, not, ◌||◌, if◌then◌else◌, cond, List, [], ◌∷◌, ◌++◌, length, map, filter, fold, position, nat_lt, Some, None, refl, sym, ap, ap₂, ◌∙◌, arith, true≢false, one-add, lt-ltb, le-ltb}
use Rattle.std.specs.List.{position_or_len}
use Rattle.std.proofs.Math.Bool.{or-false, or_assoc}
use Rattle.std.proofs.lemmas.List.{length-map, map-append}
use Rattle.std.proofs.lemmas.List.Sums.{fold-append}
use Rattle.kp_tree_grammar.specs.declared.tree.Word.{Word}
use Rattle.kp_tree_grammar.specs.Trees.{Typed}
use Rattle.kp_base.proofs.Once.{any-added, all_added, once_by_one}
use Rattle.kp_names_semantics.specs.Types.{declared}
use Rattle.kp_names_semantics.specs.Names.{Name, same, is_among, distinct}
use Rattle.kp_names_semantics.specs.Numbering.{index_of}
use Rattle.kp_base.specs.Lists.{Member}
use Rattle.kp_base.proofs.Lists.{same_member, same-true}
use Rattle.kp_names_semantics.proofs.Public.{same_name_equivalence, same_name-sym, member_is_among, index_below}
use Rattle.kp_names_declared.specs.Steps.{with_name}
use Rattle.kp_names_declared.specs.NameTables.{number_of}

-- ---- each once

-- what comes to some names is what isn't among them, each once
pub gathers : (done xs : List Name) → fold with_name done xs ≡ done ++ filter (λ y. not (is_among done y)) (distinct xs)
gathers done xs = all_added same same_name_equivalence xs done

-- from none on
pub all_gathered : (xs : List Name) → fold with_name [] xs ≡ distinct xs
all_gathered = once_by_one same same_name_equivalence

-- the objects of two lists of lines
pub objects_gathered : (xs ys : List (Typed Word)) → fold with_name (fold with_name [] (declared xs)) (declared ys) ≡ distinct (declared (xs ++ ys))
objects_gathered xs ys =
    sym (fold-append with_name [] (declared xs) (declared ys)) ∙ ap (fold with_name []) (sym (map-append (λ x. x.word.text) xs ys)) ∙ all_gathered (declared (xs ++ ys))

-- ---- which there are

pub among_with : (xs : List Name) (x y : Name) → is_among (with_name xs x) y ≡ (is_among xs y || same y x)
among_with xs x y = any-added same same_name_equivalence (λ z. z) xs x y

-- a name is among those gathered where it was there or came
pub among_gathered : (xs more : List Name) (y : Name) → is_among (fold with_name xs more) y ≡ (is_among xs y || is_among more y)
among_gathered xs [] y = sym (or-false (is_among xs y))
among_gathered xs (x ∷ more) y =
    among_gathered (with_name xs x) more y
    ∙ (ap (λ b. b || is_among more y) (among_with xs x y) ∙ or_assoc (is_among xs y) (same y x) (is_among more y))

pub among_all : (xs : List Name) (y : Name) → is_among (fold with_name [] xs) y ≡ is_among xs y
among_all xs y = among_gathered [] xs y

pub gathered_member : (xs : List Name) (y : Name) → Member (fold with_name [] xs) y → Member xs y
gathered_member xs y m = same_member same same-true xs y (sym (among_all xs y) ∙ member_is_among (fold with_name [] xs) y m)

pub member_gathered : (xs : List Name) (y : Name) → Member xs y → Member (fold with_name [] xs) y
member_gathered xs y m = same_member same same-true (fold with_name [] xs) y (among_all xs y ∙ member_is_among xs y m)

-- a name is among the objects where some line declares it
pub among_objects : (xs : List Name) (y : Name) → is_among (distinct xs) y ≡ is_among xs y
among_objects xs y = ap (λ l. is_among l y) (sym (all_gathered xs)) ∙ among_all xs y

-- ---- where they stand

place_is : {K : Type 0} (now : K → Name) (ks : List K) (x : Name) → position_or_len (λ k. same x (now k)) ks ≡ index_of (map now ks) x
place_is now [] x = refl
place_is now (k ∷ ks) x = by (same x (now k)) (same_name-sym (now k) x) (place_is now ks x)
  where
    by : (b : Bool) → same (now k) x ≡ b → position_or_len (λ k. same x (now k)) ks ≡ index_of (map now ks) x
        → cond (not b) (1 + position_or_len (λ k. same x (now k)) ks) 0 ≡ (if same (now k) x then 0 else suc (index_of (map now ks) x))
    by true e rest = sym (ap (λ c. if c then 0 else suc (index_of (map now ks) x)) e)
    by false e rest = one-add (position_or_len (λ k. same x (now k)) ks) ∙ ap suc rest ∙ sym (ap (λ c. if c then 0 else suc (index_of (map now ks) x)) e)

past : (xs : List Name) (x : Name) → is_among xs x ≡ false → index_of xs x ≡ length xs
past [] x h = refl
past (y ∷ ys) x h = by (same x y) (same_name-sym y x) h (past ys x)
  where
    by : (b : Bool) → same y x ≡ b → (b || is_among ys x) ≡ false → (is_among ys x ≡ false → index_of ys x ≡ length ys) → (if same y x then 0 else suc (index_of ys x)) ≡ suc (length ys)
    by true e h rest = absurd (true≢false h)
    by false e h rest = ap (λ c. if c then 0 else suc (index_of ys x)) e ∙ ap suc (rest h)

within : (xs : List Name) (x : Name) → nat_lt (index_of xs x) (length xs) ≡ is_among xs x
within xs x = by (is_among xs x) refl
  where
    by : (b : Bool) → is_among xs x ≡ b → nat_lt (index_of xs x) (length xs) ≡ b
    by true h = lt-ltb (index_of xs x) (length xs) (index_below xs x h)
    by false h = le-ltb (index_of xs x) (length xs) (let e = past xs x h in omega arith)

-- the place among references is the number of the name
pub position_is : {K : Type 0} (now : K → Name) (ks : List K) (x : Name) → position (λ k. same x (now k)) ks ≡ number_of (map now ks) x
position_is now ks x =
    ap₂ (λ i len. cond (nat_lt i len) (Some i) None) (place_is now ks x) (sym (length-map ks now))
    ∙ ap (λ b. cond b (Some (index_of (map now ks) x)) None) (within (map now ks) x)
