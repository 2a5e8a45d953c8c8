-- What is gathered: each atom once, those of the literals and no others, and all of them where the limit isn't passed.
use Rattle.std.proofs.Common.{◌≡◌, ℕ, ◌≤◌, Bool, true, false, ◌||◌, if◌then◌else◌, List, [], ◌∷◌, ◌++◌, length, map, nat_lt, refl, sym, ap, subst, ◌∙◌, inl, inr, arith}
use Rattle.std.specs.List.{IsDistinct}
use Rattle.std.proofs.lemmas.Bool.{or_cases, or_left, or_right, ltb-true}
use Rattle.std.proofs.lemmas.Map.Keys.{IsDistinct-push}
use Rattle.std.proofs.Math.Bool.{or-false, or_assoc}
use Rattle.kp_names_semantics.specs.declared.lifted.GroundLit.{GroundLit}
use Rattle.kp_base.specs.Atoms.{Atom, same_atom, has_atom, with_atom}
use Rattle.kp_ground_semantics.specs.Ground.{atom_of}
use Rattle.kp_base.proofs.Once.{any-added}
use Rattle.kp_base.proofs.AtomOrder.{same_atoms}
use Rattle.kp_ground.specs.Gathered.{with_literal, gather}

-- ---- one more atom

has-with : (atoms : List Atom) (a x : Atom) → has_atom (with_atom atoms a) x ≡ (has_atom atoms x || same_atom x a)
has-with = any-added same_atom same_atoms (λ a. a)

-- ---- all atoms

-- beyond the limit nothing more comes
pub gathers_no_more_over_limit : (limit : ℕ) (atoms : List Atom) (ms : List GroundLit) → nat_lt limit (length atoms) ≡ true → gather limit atoms ms ≡ atoms
gathers_no_more_over_limit limit atoms [] over = refl
gathers_no_more_over_limit limit atoms (m ∷ ms) over = ap (λ t. gather limit (if t then atoms else with_atom atoms (atom_of m)) ms) over ∙ gathers_no_more_over_limit limit atoms ms over

pub gathered_are_distinct : (limit : ℕ) (ms : List GroundLit) (atoms : List Atom) → IsDistinct same_atom atoms → IsDistinct same_atom (gather limit atoms ms)
gathered_are_distinct limit [] atoms d = d
gathered_are_distinct limit (m ∷ ms) atoms d = gathered_are_distinct limit ms (with_literal limit atoms m) (step (nat_lt limit (length atoms)) (has_atom atoms (atom_of m)) refl)
  where
    step : (t u : Bool) → has_atom atoms (atom_of m) ≡ u → IsDistinct same_atom (if t then atoms else (if u then atoms else atoms ++ atom_of m ∷ []))
    step true u is = d
    step false true is = d
    step false false is = IsDistinct-push same_atoms atoms (atom_of m) d is

-- no other atom comes
pub gathered_are_no_others : (limit : ℕ) (ms : List GroundLit) (atoms : List Atom) (x : Atom) → has_atom (gather limit atoms ms) x ≡ true → (has_atom atoms x || has_atom (map atom_of ms) x) ≡ true
gathered_are_no_others limit [] atoms x h = or_left (has_atom atoms x) false h
gathered_are_no_others limit (m ∷ ms) atoms x h =
    elim (or_cases (has_atom (with_literal limit atoms m) x) (has_atom (map atom_of ms) x) (gathered_are_no_others limit ms (with_literal limit atoms m) x h)) [
      | inl e ↦ step (nat_lt limit (length atoms)) e
      | inr e ↦ or_right (has_atom atoms x) (same_atom x (atom_of m) || has_atom (map atom_of ms) x) (or_right (same_atom x (atom_of m)) (has_atom (map atom_of ms) x) e)
    ]
  where
    step : (t : Bool) → has_atom (if t then atoms else with_atom atoms (atom_of m)) x ≡ true → (has_atom atoms x || (same_atom x (atom_of m) || has_atom (map atom_of ms) x)) ≡ true
    step true e = or_left (has_atom atoms x) (same_atom x (atom_of m) || has_atom (map atom_of ms) x) e
    step false e = elim (or_cases (has_atom atoms x) (same_atom x (atom_of m)) (sym (has-with atoms (atom_of m) x) ∙ e)) [
      | inl f ↦ or_left (has_atom atoms x) (same_atom x (atom_of m) || has_atom (map atom_of ms) x) f
      | inr f ↦ or_right (has_atom atoms x) (same_atom x (atom_of m) || has_atom (map atom_of ms) x) (or_left (same_atom x (atom_of m)) (has_atom (map atom_of ms) x) f)
    ]

-- where there are no more than the limit in the end, all came
pub gathered_are_all : (limit : ℕ) (ms : List GroundLit) (atoms : List Atom) (x : Atom) → length (gather limit atoms ms) ≤ limit → (has_atom atoms x || has_atom (map atom_of ms) x) ≡ true → has_atom (gather limit atoms ms) x ≡ true
gathered_are_all limit [] atoms x few h = sym (or-false (has_atom atoms x)) ∙ h
gathered_are_all limit (m ∷ ms) atoms x few h = step (nat_lt limit (length atoms)) refl (gathered_are_all limit ms (with_atom atoms (atom_of m)) x) few
  where
    step : (t : Bool) → nat_lt limit (length atoms) ≡ t
        → (length (gather limit (with_atom atoms (atom_of m)) ms) ≤ limit → (has_atom (with_atom atoms (atom_of m)) x || has_atom (map atom_of ms) x) ≡ true → has_atom (gather limit (with_atom atoms (atom_of m)) ms) x ≡ true)
        → length (gather limit (if t then atoms else with_atom atoms (atom_of m)) ms) ≤ limit → has_atom (gather limit (if t then atoms else with_atom atoms (atom_of m)) ms) x ≡ true
    step true over rest few =
        let within : length atoms ≤ limit = subst (λ z. length z ≤ limit) (gathers_no_more_over_limit limit atoms ms over) few in
        let beyond = ltb-true limit (length atoms) over in
        absurd (omega arith)
    step false within rest few = rest few (ap (λ t. t || has_atom (map atom_of ms) x) (has-with atoms (atom_of m) x) ∙ (or_assoc (has_atom atoms x) (same_atom x (atom_of m)) (has_atom (map atom_of ms) x) ∙ h))

pub no_atoms_are_distinct : IsDistinct same_atom []
unfolding IsDistinct
no_atoms_are_distinct = tt
