-- Numbers of names: where a name stands, and names that stand once.
use Rattle.std.proofs.Common.{◌≡◌, ◌<◌, ℕ, zero, suc, Bool, true, false, if◌then◌else◌, List, [], ◌∷◌, refl, sym, ap, subst, ◌∙◌, inl, inr, length, arith}
use Rattle.std.proofs.lemmas.Bool.{or_parts, or_cases, or_left, or_right, false≢true, both_ways, false_from_ne_true}
use Rattle.kp_tree_grammar.specs.declared.tree.Word.{Word}
use Rattle.kp_base.specs.Lists.{only_if}
use Rattle.kp_names_semantics.specs.Names.{Name, same, is_among, distinct}
use Rattle.kp_names_semantics.specs.Types.{names}
use Rattle.kp_names_semantics.specs.Faults.{declared_twice, repeated}
use Rattle.kp_names_semantics.specs.Numbering.{index_of, name_at, variable_number}
use Rattle.kp_base.proofs.Once.{Once, any-each_once, each_once_is_once}
use Rattle.kp_names_semantics.proofs.Lists.{append_empty, same-true, same-refl, same-sym}

pub only_if_empty : {X : Type 0} (b : Bool) (x : X) → only_if b (x ∷ []) ≡ [] → b ≡ false
only_if_empty true x h = cc
only_if_empty false x h = refl

-- ---- where a name stands

-- among a name and others, but not that name
among_rest : (x y : Name) (ys : List Name) → is_among (y ∷ ys) x ≡ true → same y x ≡ false → is_among ys x ≡ true
among_rest x y ys h is = elim (or_cases (same x y) (is_among ys x) h) [
  | inl e ↦ absurd (both_ways (same x y) (same-sym x y ∙ is) e)
  | inr e ↦ e
]

pub at_index : (xs : List Name) (x : Name) → is_among xs x ≡ true → name_at xs (index_of xs x) ≡ x
at_index [] x h = absurd (false≢true h)
at_index (y ∷ ys) x h = pick (same y x) refl (λ g. at_index ys x g)
  where
    pick : (t : Bool) → same y x ≡ t → (is_among ys x ≡ true → name_at ys (index_of ys x) ≡ x) → name_at (y ∷ ys) (if t then 0 else suc (index_of ys x)) ≡ x
    pick true is rest = same-true y x is
    pick false is rest = rest (among_rest x y ys h is)

pub index_below : (xs : List Name) (x : Name) → is_among xs x ≡ true → index_of xs x < length xs
index_below [] x h = absurd (false≢true h)
index_below (y ∷ ys) x h = pick (same y x) refl (λ g. index_below ys x g)
  where
    pick : (t : Bool) → same y x ≡ t → (is_among ys x ≡ true → index_of ys x < length ys) → (if t then 0 else suc (index_of ys x)) < length (y ∷ ys)
    pick true is rest = omega arith
    pick false is rest = let lt = rest (among_rest x y ys h is) in omega arith

pub among_at : (xs : List Name) (n : ℕ) → n < length xs → is_among xs (name_at xs n) ≡ true
among_at [] n h = absurd (omega arith)
among_at (x ∷ xs) zero h = or_left (same x x) (is_among xs x) (same-refl x)
among_at (x ∷ xs) (suc n) h = or_right (same (name_at xs n) x) (is_among xs (name_at xs n)) (among_at xs n (omega arith))

pub variable_below : (scope : List Name) (v : Name) → is_among scope v ≡ true → variable_number scope v < length scope
variable_below [] v h = absurd (false≢true h)
variable_below (w ∷ ws) v h = pick (same w v) refl (λ g. variable_below ws v g)
  where
    pick : (t : Bool) → same w v ≡ t → (is_among ws v ≡ true → variable_number ws v < length ws) → (if t then length ws else variable_number ws v) < length (w ∷ ws)
    pick true is rest = omega arith
    pick false is rest = let lt = rest (among_rest v w ws h is) in omega arith

-- ---- names that stand once

-- no name stands twice
abbrev pub Distinct : List Name → Type 0
Distinct = Once same

pub index_at : (xs : List Name) → Distinct xs → (n : ℕ) → n < length xs → index_of xs (name_at xs n) ≡ n
index_at [] d n h = absurd (omega arith)
index_at (x ∷ xs) d zero h = rw (same-refl x) refl
index_at (x ∷ xs) d (suc n) h = pick (same x (name_at xs n)) refl (index_at xs d.1 n (omega arith))
  where
    pick : (t : Bool) → same x (name_at xs n) ≡ t → index_of xs (name_at xs n) ≡ n → (if t then 0 else suc (index_of xs (name_at xs n))) ≡ suc n
    pick true is rest =
        let e = same-true x (name_at xs n) is in
        absurd (both_ways (is_among xs x) d.0 (subst (λ z. is_among xs z ≡ true) (sym e) (among_at xs n (omega arith))))
    pick false is rest = ap suc rest

pub distinct_once : (xs : List Name) → Distinct (distinct xs)
distinct_once = each_once_is_once same

pub among_distinct : (xs : List Name) (x : Name) → is_among xs x ≡ true → is_among (distinct xs) x ≡ true
among_distinct xs x h = any-each_once same (same x) (λ y z e. ap (same x) (same-true y z e)) xs ∙ h

-- words that don't repeat
repeated_none : (earlier : List Name) (ws : List Word) → repeated earlier ws ≡ [] → Distinct (names ws) × ((x : Name) → is_among (names ws) x ≡ true → is_among earlier x ≡ false)
repeated_none earlier [] h = (tt, λ x g. absurd (false≢true g))
repeated_none earlier (w ∷ ws) h =
    let parts = append_empty (only_if (is_among earlier w.text) (declared_twice w.byte ∷ [])) (repeated (w.text ∷ earlier) ws) h in
    let new = only_if_empty (is_among earlier w.text) (declared_twice w.byte) parts.0 in
    let rest = repeated_none (w.text ∷ earlier) ws parts.1 in (
      (false_from_ne_true (is_among (names ws) w.text) (λ g. both_ways (is_among (w.text ∷ earlier) w.text) (rest.1 w.text g) (or_left (same w.text w.text) (is_among earlier w.text) (same-refl w.text))), rest.0),
      λ x g. elim (or_cases (same x w.text) (is_among (names ws) x) g) [
        | inl e ↦ subst (λ z. is_among earlier z ≡ false) (sym (same-true x w.text e)) new
        | inr e ↦ (or_parts (same x w.text) (is_among earlier x) (rest.1 x e)).1
      ],
    )

pub repeated_distinct : (ws : List Word) → repeated [] ws ≡ [] → Distinct (names ws)
repeated_distinct ws h = (repeated_none [] ws h).0
