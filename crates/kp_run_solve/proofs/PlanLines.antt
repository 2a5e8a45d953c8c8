-- The lines that are printed of a plan read as its steps.
use Rattle.std.proofs.Common.{◌≡◌, ℕ, zero, suc, List, [], ◌∷◌, Option, Some, None, option_map, map, length, slice_get, refl, subst, arith}
use Rattle.std.specs.List.{AllByRecursion}
use Rattle.std.proofs.lemmas.Option.{slice_get_within}
use Rattle.kp_base.specs.declared.ground.Action.{Action}
use Rattle.kp_base.specs.declared.ground.Ground.{Ground}
use Rattle.kp_base.specs.declared.ground.GroundName.{GroundName}
use Rattle.kp_base.specs.declared.ground.Merge.{Merge}
use Rattle.kp_base.specs.declared.ground.TagTable.{TagTable}
use Rattle.kp_base.specs.Machine.{MachineStep}
use Rattle.kp_names_semantics.specs.Steps.{Step}
use Rattle.kp_names_semantics.specs.GroundNames.{IsGroundName}
use Rattle.kp_plans.specs.Printed.{plan_text, IsTextOf}
use Rattle.kp_plans.proofs.Public.{printed_plans_read}
use Rattle.kp_write.specs.Grounds.{IsGroundAction, IsWritable}
use Rattle.kp_write.specs.Tasks.{op_step}
use Rattle.kp_write.proofs.Public.{operator_is_name}
use Rattle.kp_law_ktask.specs.Task.{op_of, merge_op}
use Rattle.kp_law_ktask.specs.Writable.{IsWritableTask}
use Rattle.kp_base.specs.ActionNames.{action_name}
use Rattle.kp_law_ktask.specs.Accepted.{step_at}
use Rattle.kp_law_ktask.proofs.Public.{merge_is_name}

each_at : {X : Type 0} (P : X → Type 0) (xs : List X) → AllByRecursion P xs → (n : ℕ) (x : X) → slice_get xs n ≡ Some x → P x
each_at P [] all n x at = absurd cc
each_at P (y ∷ ys) all zero x at = let same : y ≡ x = cc in subst P same all.0
each_at P (y ∷ ys) all (suc n) x at = each_at P ys all.1 n x at

-- names that each are fine are all fine
all_fine : {A : Type 0} (f : A → Option GroundName) → ((a : A) (x : GroundName) → f a ≡ Some x → IsGroundName x) → (names : List A) (xs : List GroundName) → map f names ≡ map Some xs → AllByRecursion IsGroundName xs
all_fine f each [] [] e = tt
all_fine f each [] (x ∷ xs) e = absurd cc
all_fine f each (a ∷ names) [] e = absurd cc
all_fine f each (a ∷ names) (x ∷ xs) e = let here : f a ≡ Some x = cc in let rest : map f names ≡ map Some xs = cc in (each a x here, all_fine f each names xs rest)

-- ---- actions

action_fine : (g : Ground) → IsWritable g → (n : ℕ) (x : GroundName) → action_name g n ≡ Some x → IsGroundName x
action_fine g w n x e = go (slice_get g.actions n) refl e
  where
    go : (o : Option Action) → slice_get g.actions n ≡ o → option_map (λ (a : Action). a.name) o ≡ Some x → IsGroundName x
    go None at e = absurd cc
    go (Some a) at e = let same : a.name ≡ x = cc in subst IsGroundName same (each_at (IsGroundAction g.atoms) g.actions w.actions n a at).name

-- the lines of actions read as their names
pub actions_read : (g : Ground) → IsWritable g → (ns : List ℕ) (plan : List Step) → map (action_name g) ns ≡ map Some plan → IsTextOf (plan_text plan) plan
actions_read g w ns plan e = printed_plans_read plan (all_fine (action_name g) (action_fine g w) ns plan e)

-- ---- steps of the machine

step_fine : (g : Ground) (table : TagTable) → IsWritableTask g table → (m : MachineStep) (x : GroundName) → step_at g table m ≡ Some x → IsGroundName x
step_fine g table w (MachineStep.act n) x e = go (slice_get g.actions n) refl e
  where
    go : (o : Option Action) → slice_get g.actions n ≡ o → option_map op_step (option_map (op_of (length g.atoms) (length table.tags)) o) ≡ Some x → IsGroundName x
    go None at e = absurd cc
    go (Some a) at e =
        let same : op_step (op_of (length g.atoms) (length table.tags) a) ≡ x = cc in
        subst IsGroundName same (record { head = operator_is_name a.name (each_at (IsGroundAction g.atoms) g.actions w.ground.actions n a at).name; objects = tt })
step_fine g table w (MachineStep.merge m) x e = go (slice_get table.merges m) refl e
  where
    go : (o : Option Merge) → slice_get table.merges m ≡ o → option_map op_step (option_map (merge_op (length g.atoms) m) o) ≡ Some x → IsGroundName x
    go None at e = absurd cc
    go (Some y) at e =
        let same : op_step (merge_op (length g.atoms) m y) ≡ x = cc in
        let below = slice_get_within table.merges m y at in
        let fit = w.merges_fit in
        subst IsGroundName same (record { head = merge_is_name m (omega (arith, below, fit)); objects = tt })

-- the lines of steps of the machine read as their names
pub steps_read : (g : Ground) (table : TagTable) → IsWritableTask g table → (ms : List MachineStep) (written : List Step) → map (step_at g table) ms ≡ map Some written → IsTextOf (plan_text written) written
steps_read g table w ms written e = printed_plans_read written (all_fine (step_at g table) (step_fine g table w) ms written e)
