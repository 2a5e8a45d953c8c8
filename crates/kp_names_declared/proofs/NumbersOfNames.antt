-- Numbers of names, also of those that are none.
use Rattle.std.proofs.Common.{◌≡◌, ℕ, suc, Bool, true, false, if◌then◌else◌, cond, List, [], ◌∷◌, length, map, find, Option, Some, None, refl, sym, ap, ◌∙◌}
use Rattle.std.specs.Option.{option_map}
use Rattle.std.proofs.lemmas.Bool.{or_parts}
use Rattle.kp_tree_grammar.specs.declared.tree.Word.{Word}
use Rattle.kp_tree_grammar.specs.Trees.{Pred, Domain}
use Rattle.kp_names_semantics.specs.Names.{Name, same, is_among}
use Rattle.kp_names_semantics.specs.Types.{names}
use Rattle.kp_names_semantics.specs.Numbering.{index_of, heads}
use Rattle.kp_names_semantics.proofs.Public.{same_name-sym}
use Rattle.kp_names_declared.specs.declared.predicates.Declared.{Declared}
use Rattle.kp_names_declared.specs.NameTables.{number_of, declared_as, declaration_of}

-- ---- of a list of names

absent : (xs : List Name) (x : Name) → is_among xs x ≡ false → length xs ≡ index_of xs x
absent [] x h = refl
absent (y ∷ ys) x h =
    let parts = or_parts (same x y) (is_among ys x) h in
    ap suc (absent ys x parts.1) ∙ sym (ap (λ b. if b then 0 else suc (index_of ys x)) (same_name-sym y x ∙ parts.0))

pub found_number : (xs : List Name) (x : Name) (n : ℕ) → Some n ≡ number_of xs x → n ≡ index_of xs x
found_number xs x n = by (is_among xs x)
  where
    by : (b : Bool) → Some n ≡ (if b then Some (index_of xs x) else None) → n ≡ index_of xs x
    by true h = cc
    by false h = cc

-- what isn't there comes after all
pub missing_number : (xs : List Name) (x : Name) → None ≡ number_of xs x → length xs ≡ index_of xs x
missing_number xs x = by (is_among xs x) refl
  where
    by : (b : Bool) → is_among xs x ≡ b → None ≡ (if b then Some (index_of xs x) else None) → length xs ≡ index_of xs x
    by true e h = cc
    by false e h = absent xs x e

-- ---- of predicates

pub found_predicate : (d : Domain Word) (x : Name) (e : Declared) → Some e ≡ declaration_of d x → e.number ≡ index_of (heads d) x
found_predicate d x e = by (find (λ q. same q.head.text x) d.predicates)
  where
    by : (o : Option (Pred Word)) → Some e ≡ option_map (declared_as (index_of (heads d) x)) o → e.number ≡ index_of (heads d) x
    by None h = cc
    by (Some q) h = let same_entry : e ≡ declared_as (index_of (heads d) x) q = cc in ap (λ z. z.number) same_entry

none_found : (qs : List (Pred Word)) (x : Name) → find (λ q. same q.head.text x) qs ≡ None → length qs ≡ index_of (names (map (λ q. q.head) qs)) x
none_found [] x h = refl
none_found (q ∷ qs) x h = by (same q.head.text x) h (none_found qs x)
  where
    by : (b : Bool) → cond b (Some q) (find (λ q. same q.head.text x) qs) ≡ None → (find (λ q. same q.head.text x) qs ≡ None → length qs ≡ index_of (names (map (λ q. q.head) qs)) x) → suc (length qs) ≡ (if b then 0 else suc (index_of (names (map (λ q. q.head) qs)) x))
    by true h rest = cc
    by false h rest = ap suc (rest h)

pub missing_predicate : (d : Domain Word) (x : Name) → None ≡ declaration_of d x → length d.predicates ≡ index_of (heads d) x
missing_predicate d x = by (find (λ q. same q.head.text x) d.predicates) refl
  where
    by : (o : Option (Pred Word)) → find (λ q. same q.head.text x) d.predicates ≡ o → None ≡ option_map (declared_as (index_of (heads d) x)) o → length d.predicates ≡ index_of (heads d) x
    by None e h = none_found d.predicates x e
    by (Some q) e h = cc
