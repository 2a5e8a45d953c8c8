-- The fact of a literal under a tag stands for that literal and tag alone.
use Rattle.std.proofs.Common.{◌≡◌, ◌<◌, ◌^◌, ℕ, zero, suc, Bool, true, false, List, [], ◌∷◌, ◌++◌, Some, length, slice_get, refl, sym, ap, subst, ◌∙◌, arith}
use Rattle.std.proofs.lemmas.Bool.{false≢true}
use Rattle.std.specs.List.{AllByRecursion, IsDistinct}
use Rattle.kp_base.specs.declared.lit.Lit.{Lit}
use Rattle.kp_base.specs.declared.ground.GroundName.{GroundName}
use Rattle.kp_base.specs.Lit.{same_lit}
use Rattle.kp_base.proofs.Each.{each_member}
use Rattle.kp_base.proofs.Lists.{bool_same, member_at, same-true, same-refl}
use Rattle.kp_base.proofs.Lits.{same_lit-true, same_lit-refl}
use Rattle.kp_names_semantics.specs.Names.{same}
use Rattle.kp_names_semantics.specs.GroundNames.{IsGroundName, same_name}
use Rattle.kp_write.specs.Facts.{sign_word, encoded_or_none, tag_word, atom_fact, fact_of}
use Rattle.kp_write.specs.Grounds.{IsOfAtom}
use Rattle.kp_write.proofs.Public.{facts_tell_apart, same_name-refl}

-- the name of an atom by its number
pub record IsNamed (atoms : List GroundName) (i : ℕ) : Type 0 where
  pub name : GroundName
  pub at : slice_get atoms i ≡ Some name
  pub is_name : IsGroundName name

pub named : (atoms : List GroundName) → AllByRecursion IsGroundName atoms → (i : ℕ) → i < length atoms → IsNamed atoms i
named [] h i below = absurd (omega arith)
named (n ∷ ns) h zero below = record { name = n; at = refl; is_name = h.0 }
named (n ∷ ns) h (suc i) below = let r = named ns h.1 i (omega arith) in record { name = r.name; at = r.at; is_name = r.is_name }

-- an atom from which all these differ is none of them
not_later : (x : GroundName) (xs : List GroundName) → AllByRecursion (λ y. same_name x y ≡ false) xs → (j : ℕ) → slice_get xs j ≡ Some x → ⊥
not_later x xs all j at = false≢true (sym (each_member (λ y. same_name x y ≡ false) xs x all (member_at xs j x at)) ∙ same_name-refl x)

-- an atom stands in one place
pub one_place : (atoms : List GroundName) → IsDistinct same_name atoms → (i j : ℕ) (n : GroundName) → slice_get atoms i ≡ Some n → slice_get atoms j ≡ Some n → i ≡ j
unfolding IsDistinct
one_place [] d i j n e f = absurd cc
one_place (x ∷ xs) d zero zero n e f = refl
one_place (x ∷ xs) d zero (suc j) n e f = absurd (not_later x xs d.0 j (f ∙ sym e))
one_place (x ∷ xs) d (suc i) zero n e f = absurd (not_later x xs d.0 i (e ∙ sym f))
one_place (x ∷ xs) d (suc i) (suc j) n e f = ap suc (one_place xs d.1 i j n e f)

module _ (atoms : List GroundName) (names : AllByRecursion IsGroundName atoms) (differ : IsDistinct same_name atoms) where
  -- the fact of a literal is that of its atom
  pub fact_is : (t : ℕ) (l : Lit) (n : GroundName) → slice_get atoms l.atom.0 ≡ Some n → fact_of atoms t l ≡ atom_fact t l.positive n
  fact_is t l n at = ap (λ o. sign_word l.positive ++ (encoded_or_none o ++ tag_word t)) at

  one_literal : (l m : Lit) → l.positive ≡ m.positive → l.atom.0 ≡ m.atom.0 → l ≡ m
  one_literal l m e f = λ i. record { atom = record { 0 = f i }; positive = e i }

  -- facts with one name have one tag and one literal
  pub one_fact : (s t : ℕ) → s < 2 ^ 64 → t < 2 ^ 64 → (l m : Lit) → IsOfAtom atoms l → IsOfAtom atoms m → fact_of atoms s l ≡ fact_of atoms t m → (s ≡ t) × (l ≡ m)
  one_fact s t p q l m h k e =
      let x = named atoms names l.atom.0 h in
      let y = named atoms names m.atom.0 k in
      let r = facts_tell_apart s t l.positive m.positive x.name y.name p q x.is_name y.is_name (sym (fact_is s l x.name x.at) ∙ e ∙ fact_is t m y.name y.at) in
      (r.0, one_literal l m r.1 (one_place atoms differ l.atom.0 m.atom.0 x.name x.at (y.at ∙ ap Some (sym r.2))))

  -- the same tag, the same literal
  pub same_fact : (t : ℕ) → t < 2 ^ 64 → (l m : Lit) → IsOfAtom atoms l → IsOfAtom atoms m → same (fact_of atoms t l) (fact_of atoms t m) ≡ same_lit l m
  same_fact t p l m h k =
      bool_same (same (fact_of atoms t l) (fact_of atoms t m)) (same_lit l m)
      (λ e. subst (λ x. same_lit l x ≡ true) (one_fact t t p p l m h k (same-true (fact_of atoms t l) (fact_of atoms t m) e)).1 (same_lit-refl l))
      (λ e. subst (λ (x : Lit). same (fact_of atoms t l) (fact_of atoms t x) ≡ true) (same_lit-true l m e) (same-refl (fact_of atoms t l)))

  -- and with the other literal first
  pub same_fact-turned : (t : ℕ) → t < 2 ^ 64 → (l m : Lit) → IsOfAtom atoms l → IsOfAtom atoms m → same (fact_of atoms t l) (fact_of atoms t m) ≡ same_lit m l
  same_fact-turned t p l m h k =
      bool_same (same (fact_of atoms t l) (fact_of atoms t m)) (same_lit m l)
      (λ e. subst (λ x. same_lit x l ≡ true) (one_fact t t p p l m h k (same-true (fact_of atoms t l) (fact_of atoms t m) e)).1 (same_lit-refl l))
      (λ e. subst (λ (x : Lit). same (fact_of atoms t l) (fact_of atoms t x) ≡ true) (sym (same_lit-true m l e)) (same-refl (fact_of atoms t l)))

  -- another tag, another fact
  pub other_fact : (s t : ℕ) → s < 2 ^ 64 → t < 2 ^ 64 → (s ≡ t → ⊥) → (l m : Lit) → IsOfAtom atoms l → IsOfAtom atoms m → same (fact_of atoms s l) (fact_of atoms t m) ≡ false
  other_fact s t p q apart l m h k = go (same (fact_of atoms s l) (fact_of atoms t m)) refl where
    go : (b : Bool) → same (fact_of atoms s l) (fact_of atoms t m) ≡ b → same (fact_of atoms s l) (fact_of atoms t m) ≡ false
    go false e = e
    go true e = absurd (apart (one_fact s t p q l m h k (same-true (fact_of atoms s l) (fact_of atoms t m) e)).0)
