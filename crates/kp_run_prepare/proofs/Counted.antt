-- A ground problem within the limits has few actions, and few effects of each.
use Rattle.std.proofs.Common.{◌≤◌, ℕ, List, [], ◌∷◌, length, inl, inr, sym, ap, subst, arith}
use Rattle.std.specs.Prelude.{sum_by}
use Rattle.std.proofs.lemmas.List.{length-map}
use Rattle.std.proofs.lemmas.List.Sums.{sum_by-cons}
use Rattle.kp_base.specs.declared.ground.Action.{Action}
use Rattle.kp_base.specs.declared.ground.Effect.{Effect}
use Rattle.kp_base.specs.declared.ground.Ground.{Ground}
use Rattle.kp_base.specs.Lists.{Member}
use Rattle.kp_base.specs.Implicates.{IsOfItsAtoms}
use Rattle.kp_base.proofs.Lists.{member_at}
use Rattle.kp_names_semantics.specs.Numbered.{Lifted}
use Rattle.kp_ground_semantics.specs.Ground.{kept_instances, ground_atoms, atom_name, ground_of}
use Rattle.kp_ground_joins.specs.Limits.{IsWithinLimits}
use Rattle.kp_ground.specs.Grounded.{IsGrounded}
use Rattle.kp_ground.specs.Passes.{action_at}
use Rattle.kp_ground.proofs.Public.{actions_of_schemas_in_order}
use Rattle.kp_base.specs.Counted.{IsCounted}
use Rattle.kp_law_translation.proofs.Public.{actions_light, ground_is_of_its_atoms}
use Rattle.kp_law_ktask.specs.Weight.{both_weight, action_weight}
use Rattle.kp_run_prepare.specs.Prepared.{usual}

-- a term of a sum is within it
term_within : {X : Type 0} (f : X → ℕ) (xs : List X) (x : X) → Member xs x → f x ≤ sum_by f xs
term_within f [] x m = absurd m
term_within f (y ∷ ys) x (inl e) = let a = sum_by-cons f y ys in let b = ap f e in omega (arith, a, b)
term_within f (y ∷ ys) x (inr m) = let a = sum_by-cons f y ys in let b = term_within f ys x m in omega (arith, a, b)

-- effects are as many as they weigh, at most
effects_within : (es : List Effect) → length es ≤ sum_by both_weight es
effects_within [] = omega arith
effects_within (e ∷ es) = let a = sum_by-cons both_weight e es in let b = effects_within es in omega (arith, a, b)

module _ (l : Lifted) (w : IsWithinLimits l usual) where
  pub few_actions : length (ground_of l).actions ≤ 20000
  few_actions =
      let a = ap (λ (as' : List Action). length as') (actions_of_schemas_in_order l (ground_atoms l)) in
      let m = length-map (kept_instances l) (action_at l (ground_atoms l)) in
      let n = w.actions in
      omega (arith, a, m, n)

  few_of : (a : Action) → Member (ground_of l).actions a → length a.effects ≤ 8000000
  few_of a m =
      let e = effects_within a.effects in
      let t = term_within (action_weight 1) (ground_of l).actions a m in
      let s = actions_light l in
      let n = w.weight in
      omega (arith, e, t, s, n)

pub is_counted : (l : Lifted) (g : Ground) → IsGrounded l usual g → IsCounted g
is_counted l g w = subst IsCounted (sym w.ground) (record {
  actions = (let n = few_actions l w.counts in omega (arith, n));
  effects = λ n a at. (let m = few_of l w.counts a (member_at (ground_of l).actions n a at) in omega (arith, m));
})

-- it speaks of its atoms alone
pub is_of_atoms : (l : Lifted) (g : Ground) → IsGrounded l usual g → IsOfItsAtoms g
is_of_atoms l g w = subst IsOfItsAtoms (sym w.ground) (ground_is_of_its_atoms l
    (let a = length-map (ground_atoms l) (atom_name l) in let b = w.atoms in omega (arith, a, b))
    (let n = few_actions l w.counts in omega (arith, n)))
