-- Formulas of which each clause is one literal: where they have a model, the atoms that stand in clauses are one.
use mathlib.Core.Path.{fun_ext}
use Rattle.std.proofs.Common.{◌≡◌, ◌↔◌, ◌∙◌, ℕ, Bool, true, false, not, ◌||◌, List, [], ◌∷◌, length, nat_eq, arith, refl, sym, ap, subst}
use Rattle.std.specs.List.{list_any, list_all}
use Rattle.std.proofs.lemmas.Bool.{and_parts, and_from, eqb-true, false≢true, false_from_ne_true}
use Rattle.kp_base.specs.declared.lit.AtomId.{AtomId}
use Rattle.kp_base.specs.declared.lit.Lit.{Lit}
use Rattle.kp_base.specs.declared.ground.Initial.{Initial}
use Rattle.kp_base.specs.Entailed.{HasModel}
use Rattle.kp_base.specs.Lists.{Member, signed}
use Rattle.kp_base.specs.Lit.{positive, same_lit, has}
use Rattle.kp_base.specs.Steps as on_atoms
use Rattle.kp_base.proofs.Lists.{all_member, any_member, any_from, all_from}
use Rattle.kp_base.proofs.Lits.{same_lit-true, same_lit-refl}
use Rattle.kp_classic.specs.Grounded.{is_said}
use Rattle.kp_run_classical.specs.Certain.{has_units}

or_none : (b : Bool) → (b || false) ≡ true → b ≡ true
or_none true h = refl
or_none false h = h

or_first : (b : Bool) → b ≡ true → (b || false) ≡ true
or_first true h = refl
or_first false h = h

module _ (i : Initial) (units : has_units i ≡ true) (m : HasModel i) where
  parts : (list_all (list_any (on_atoms.holds m.state)) i.clauses ≡ true) × (list_all (λ p. not (m.state p.0)) i.closed ≡ true)
  parts = and_parts (list_all (list_any (on_atoms.holds m.state)) i.clauses) (list_all (λ (p : AtomId). not (m.state p.0)) i.closed) m.model

  alone : (c : List Lit) → Member i.clauses c → length c ≡ 1
  alone c at = eqb-true (length c) 1 (all_member (λ (d : List Lit). nat_eq (length d) 1) i.clauses c at units)

  -- a literal that is alone in its clause holds in the model
  said_holds : (c : List Lit) → length c ≡ 1 → list_any (on_atoms.holds m.state) c ≡ true → (l : Lit) → has c l ≡ true → on_atoms.holds m.state l ≡ true
  said_holds [] e t l h = absurd cc
  said_holds (x ∷ []) e t l h = subst (λ y. on_atoms.holds m.state y ≡ true) (sym (same_lit-true l x (or_none _ h))) (or_none _ t)
  said_holds (x ∷ y ∷ c) e t l h = absurd (omega (arith, e))

  -- what stands in a clause holds in the model
  said_true : (p : ℕ) → is_said i p ≡ true → m.state p ≡ true
  said_true p h =
      let r = any_member (λ c. has c (positive p)) i.clauses h in
      said_holds r.0 (alone r.0 r.1) (all_member (list_any (on_atoms.holds m.state)) i.clauses r.0 r.1 parts.0) (positive p) r.2

  unsaid : (p : ℕ) → m.state p ≡ false → is_said i p ≡ false
  unsaid p h = false_from_ne_true (is_said i p) (λ said. false≢true (sym h ∙ said_true p said))

  -- a clause of one literal holds where the said atoms do
  unit_holds : (x : Lit) (b : Bool) → x.positive ≡ b → Member i.clauses (x ∷ []) → on_atoms.holds m.state x ≡ true → on_atoms.holds (is_said i) x ≡ true
  unit_holds x true sign at t =
      let said : is_said i x.atom.0 ≡ true = any_from (λ c. has c (positive x.atom.0)) i.clauses (x ∷ []) at (or_first (same_lit (positive x.atom.0) x) (subst (λ (y : Bool). same_lit (record { atom = x.atom; positive = y }) x ≡ true) sign (same_lit-refl x))) in
      subst (λ b. signed b (is_said i x.atom.0) ≡ true) (sym sign) said
  unit_holds x false sign at t =
      let gone : not (m.state x.atom.0) ≡ true = subst (λ b. signed b (m.state x.atom.0) ≡ true) sign t in
      subst (λ b. signed b (is_said i x.atom.0) ≡ true) (sym sign) (ap not (unsaid x.atom.0 (let no : (b : Bool) → not b ≡ true → b ≡ false = (λ b h. by b h) in no (m.state x.atom.0) gone)))
    where
      by : (b : Bool) → not b ≡ true → b ≡ false
      by true h = absurd (false≢true h)
      by false h = refl

  clause_holds : (c : List Lit) → length c ≡ 1 → Member i.clauses c → list_any (on_atoms.holds m.state) c ≡ true → list_any (on_atoms.holds (is_said i)) c ≡ true
  clause_holds [] e at t = absurd cc
  clause_holds (x ∷ []) e at t = or_first _ (unit_holds x x.positive refl at (or_none _ t))
  clause_holds (x ∷ y ∷ c) e at t = absurd (omega (arith, e))

  said_is_model : on_atoms.is_model i (is_said i) ≡ true
  said_is_model =
      and_from (list_all (list_any (on_atoms.holds (is_said i))) i.clauses) (list_all (λ (p : AtomId). not (is_said i p.0)) i.closed)
      (all_from (list_any (on_atoms.holds (is_said i))) i.clauses (λ c at. clause_holds c (alone c at) at (all_member (list_any (on_atoms.holds m.state)) i.clauses c at parts.0)))
      (all_from (λ (p : AtomId). not (is_said i p.0)) i.closed (λ p at. ap not (unsaid p.0 (by (m.state p.0) (all_member (λ (q : AtomId). not (m.state q.0)) i.closed p at parts.1)))))
    where
      by : (b : Bool) → not b ≡ true → b ≡ false
      by true h = absurd (false≢true h)
      by false h = refl

-- states that are one are models alike
pub model_test : (i : Initial) → has_units i ≡ true → (s : ℕ → Bool) → ((p : ℕ) → s p ≡ is_said i p) → (b : Bool) → b ≡ on_atoms.is_model i s → (b ≡ true) ↔ HasModel i
model_test i units s same b is = (
  λ yes'. record { state = s; model = sym is ∙ yes'; all_true = refl },
  λ m. is ∙ (ap (on_atoms.is_model i) (fun_ext same) ∙ said_is_model i units m),
)
