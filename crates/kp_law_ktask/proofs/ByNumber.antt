-- The operators by number do the steps of the machine.
use Rattle.std.proofs.Common.{◌≡◌, ◌+◌, ℕ, zero, suc, List, [], ◌∷◌, Some, option_map, map, length, slice_get, refl, sym, ap, subst, ◌∙◌, arith}
use Rattle.std.proofs.lemmas.List.{length-map}
use Rattle.std.proofs.lemmas.Option.{slice_get-map}
use Rattle.kp_base.specs.declared.ground.Ground.{Ground}
use Rattle.kp_base.specs.declared.ground.TagTable.{TagTable}
use Rattle.kp_base.specs.declared.ground.Merge.{Merge}
use Rattle.kp_base.specs.Machine.{MachineStep}
use Rattle.kp_base.proofs.Places.{get_left, get_right}
use Rattle.kp_write.specs.Operators.{Op}
use Rattle.kp_write.specs.Named.{named_op, named_start}
use Rattle.kp_write.specs.Runs.{runs}
use Rattle.kp_names_semantics.specs.Names.{is_among}
use Rattle.kp_write.proofs.Public.{named_run_is_success}
use Rattle.kp_law_ktask.specs.Task.{facts_of, task_of}
use Rattle.kp_law_ktask.specs.ByName.{names_of, goal_of, op_of, merge_op, merge_ops_from, ops_of, op_at}
use Rattle.kp_law_ktask.specs.Writable.{IsWritableTask}
use Rattle.kp_law_ktask.specs.Accepted.{op_number}
use Rattle.kp_law_ktask.specs.Laws.{OperatorsDoSteps}
use Rattle.kp_law_ktask.proofs.Named.{tasks_are_named, tasks_can_be_written}
use Rattle.kp_law_ktask.proofs.Runs.{AreAt, runs_accepted}

-- the merge of this number, in a list of which the first has number first
merge_at : (g : Ground) (first : ℕ) (xs : List Merge) (d : ℕ) (o : Op) → option_map (merge_op g.atoms (first + d)) (slice_get xs d) ≡ Some o → slice_get (merge_ops_from g.atoms first xs) d ≡ Some o
merge_at g first [] d o e = absurd cc
merge_at g first (x ∷ xs) zero o e = let same : first ≡ first + 0 = omega arith in ap (λ n. Some (merge_op g.atoms n x)) same ∙ e
merge_at g first (x ∷ xs) (suc d) o e =
    let same : first + suc d ≡ suc first + d = omega arith in
    merge_at g (suc first) xs d o (subst (λ n. option_map (merge_op g.atoms n) (slice_get xs d) ≡ Some o) same e)

-- by name, the operator of a step stands at its number
at_number : (g : Ground) (table : TagTable) (m : MachineStep) (o : Op) → op_at g table m ≡ Some o → slice_get (ops_of g table) (op_number g m) ≡ Some o
at_number g table (MachineStep.act n) o e =
    get_left (map (op_of g.atoms (length table.tags)) g.actions) (merge_ops_from g.atoms 0 table.merges) n o (slice_get-map (op_of g.atoms (length table.tags)) g.actions n ∙ e)
at_number g table (MachineStep.merge n) o e =
    let size = length-map g.actions (op_of g.atoms (length table.tags)) in
    let same : n ≡ 0 + n = omega arith in
    get_right (map (op_of g.atoms (length table.tags)) g.actions) (merge_ops_from g.atoms 0 table.merges) n (length g.actions + n) (omega (arith, size))
    ∙ merge_at g 0 table.merges n o (subst (λ i. option_map (merge_op g.atoms i) (slice_get table.merges n) ≡ Some o) same e)

module _ (g : Ground) (table : TagTable) (w : IsWritableTask g table) where
  -- and so by number, read by name
  named_at : (m : MachineStep) (o : Op) → op_at g table m ≡ Some o → option_map (named_op (names_of g (facts_of g table))) (slice_get (task_of g table).ops (op_number g m)) ≡ Some o
  named_at m o e =
      sym (slice_get-map (named_op (names_of g (facts_of g table))) (task_of g table).ops (op_number g m))
      ∙ ap (λ os. slice_get os (op_number g m)) (tasks_are_named g table w).operators ∙ at_number g table m o e

  all_at : (ms : List MachineStep) (os : List Op) → AreAt g table ms os → map (λ n. option_map (named_op (names_of g (facts_of g table))) (slice_get (task_of g table).ops n)) (map (op_number g) ms) ≡ map Some os
  all_at [] [] at = refl
  all_at [] (o ∷ os) at = absurd cc
  all_at (m ∷ ms) [] at = absurd cc
  all_at (m ∷ ms) (o ∷ os) at =
      let here : op_at g table m ≡ Some o = cc in
      let rest : AreAt g table ms os = cc in
      rw (named_at m o here, all_at ms os rest) refl

pub operators_do_steps : OperatorsDoSteps
operators_do_steps g table w ms os at =
    sym (named_run_is_success (task_of g table) (tasks_can_be_written g table w) (map (op_number g) ms) os (all_at g table w ms os at))
    ∙ ap (λ goal. runs goal os (is_among (named_start (task_of g table)))) (tasks_are_named g table w).goal
    ∙ ap (λ init. runs (names_of g (goal_of g)) os (is_among init)) (tasks_are_named g table w).start
    ∙ runs_accepted g table w ms os at
