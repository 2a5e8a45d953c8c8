-- Names at fault, and the size of a problem.
use Rattle.std.proofs.Common.{◌≡◌, ◌⊎◌, inl, inr, refl, ap, List, [], ◌∷◌, length}
use Rattle.std.proofs.lemmas.Bool.{cases_lt}
use Rattle.kp_base.specs.declared.refused.Refused.{Refused}
use Rattle.kp_base.specs.declared.refused.Refused.TheVariants as refusals
use Rattle.kp_names_semantics.specs.Faults.{Fault, domain_faults, problem_faults, HasNoFault}
use Rattle.kp_names.specs.Resolved.{first_fault, earlier, RefusesNames, in_domain, in_problem}
use Rattle.kp_ground_semantics.specs.Ground.{ground_atoms, ground_of, kept_instances}
use Rattle.kp_ground_semantics.specs.Weights.{total_weight}
use Rattle.kp_ground_semantics.specs.Partial.{looked_at}
use Rattle.kp_ground_joins.specs.Limits.{IsWithinLimits, bindings_over, actions_over, effects_over}
use Rattle.kp_ground.specs.Grounded.{IsGrounded, RefusesGround, counts_over, atoms_over}
use Rattle.kp_law_decidable.specs.Laws.{NamesAreDecided, SizesAreDecided}

-- a list of faults is empty, or has a first one
pub names_decided : NamesAreDecided
names_decided x y d p = go (domain_faults d p) refl (problem_faults d p) refl
  where
    go : (fs : List Fault) → domain_faults d p ≡ fs → (gs : List Fault) → problem_faults d p ≡ gs → HasNoFault d p ⊎ ((r : Refused) × RefusesNames x y d p r)
    go (f ∷ fs) is gs at = inr (_, in_domain (earlier f (first_fault fs)) (ap first_fault is))
    go [] is (g ∷ gs) at = inr (_, in_problem (earlier g (first_fault gs)) is (ap first_fault at))
    go [] is [] at = inl (record { domain = is; problem = at })

pub sizes_decided : SizesAreDecided
sizes_decided l limits = elim (cases_lt limits.bindings (looked_at l)) [
  | inl over ↦ inl (refusals.BindingsOver, counts_over refusals.BindingsOver (bindings_over over))
  | inr few ↦ elim (cases_lt limits.actions (length (kept_instances l))) [
    | inl over ↦ inl (refusals.ActionsOver, counts_over refusals.ActionsOver (actions_over few over))
    | inr kept ↦ elim (cases_lt limits.weight (total_weight l)) [
      | inl over ↦ inl (refusals.EffectsOver, counts_over refusals.EffectsOver (effects_over few kept over))
      | inr light ↦ atoms (record { bindings = few; actions = kept; weight = light })
    ]
  ]
]
  where
    atoms : IsWithinLimits l limits → ((r : Refused) × RefusesGround l limits r) ⊎ IsGrounded l limits (ground_of l)
    atoms within = elim (cases_lt limits.atoms (length (ground_atoms l))) [
      | inl over ↦ inl (refusals.AtomsOver, atoms_over within over)
      | inr few ↦ inr (record { counts = within; atoms = few; ground = refl })
    ]
