-- Moves between two places: each premise of the laws on trees and texts is met, and a plan of what is written strips to one of the texts.
use Rattle.std.proofs.Common.{◌≡◌, List, [], ◌∷◌, ◌++◌, Some, codes, length, refl, sym, subst}
use Rattle.kp_base.specs.declared.lit.Lit.{Lit}
use Rattle.kp_base.specs.Clashes.{NeverClashes}
use Rattle.kp_lex.specs.Bytes.{class_of}
use Rattle.kp_lex.specs.Scanning.{cut_from}
use Rattle.kp_tree_grammar.specs.Symbols.{symbol_of}
use Rattle.kp_tree_grammar.specs.Parsing.{some_at, next_at}
use Rattle.kp_names_semantics.specs.Problems.{Step, do_front, strip, StripsToSolution, StripsToPlan, Lifted, HasProblem, encoded}
use Rattle.kp_names_semantics.specs.Plans.{IsPlan}
use Rattle.kp_names_semantics.proofs.Public.{domain_of_text as domain_of, problem_of_text as problem_of, computes_a_problem, moves_domain, from_a_to_b_problem, move_step, moves_by_number, moves_are_numbered, moves_have_no_fault, moves_goal_is_plain}
use Rattle.kp_ground_semantics.specs.Ground.{ground_of}
use Rattle.kp_init.specs.Initial.{initial_of}
use Rattle.kp_base.specs.Closure.{closure}
use Rattle.kp_law_translation.specs.OfTrees as given
use Rattle.kp_law_translation.specs.Tables.{empty_tag}
use Rattle.kp_law_translation.specs.Written.{translation_of}
use Rattle.kp_law_translation.proofs.Tables.{tables_written as tables_can_be_written, empty_tag_is_table as empty_tag_is_table_for_trees}
use Rattle.kp_write.specs.Named as texts
use Rattle.kp_law_tagged_machine.proofs.Public.{one_sided_actions_never_clash}
use Rattle.kp_base.specs.Machine.{MachineStep, one_tag_table}
use Rattle.kp_base.specs.declared.ground.GroundName.{GroundName}
use Rattle.kp_law_ktask.specs.Task.{task_of}
use Rattle.kp_law_ktask.specs.Writable.{IsWritableTask}
use Rattle.kp_law_ktask.specs.Accepted.{IsAccepted}
use Rattle.kp_law_ktask.proofs.Public.{tagged_plans_are_accepted}
use Rattle.kp_law_translation.specs.Laws.{IsSafelyWritten}
use Rattle.kp_law_translation.proofs.Trees.{plans_solve, translations_sound}

-- ---- the ground problem can be written

-- what is known at the start of a problem by number
abbrev known_of : Lifted → List Lit
known_of l = closure (initial_of l) (length (ground_of l).atoms) []

its_problem : HasProblem moves_domain from_a_to_b_problem
unfolding cut_from class_of symbol_of some_at next_at
its_problem = computes_a_problem moves_domain from_a_to_b_problem (record { domain_cut = refl; problem_cut = refl; domain_read = refl; problem_read = refl; domain_faults = refl; problem_faults = refl })

trees_can_be_written : IsWritableTask (given.ground_of (domain_of moves_domain) (problem_of from_a_to_b_problem)) (empty_tag (domain_of moves_domain) (problem_of from_a_to_b_problem))
unfolding its_problem
trees_can_be_written = tables_can_be_written moves_domain from_a_to_b_problem its_problem (empty_tag (domain_of moves_domain) (problem_of from_a_to_b_problem)) (empty_tag_is_table_for_trees (domain_of moves_domain) (problem_of from_a_to_b_problem))

can_be_written : IsWritableTask (ground_of moves_by_number) (one_tag_table (known_of moves_by_number))
can_be_written = subst (λ l. IsWritableTask (ground_of l) (one_tag_table (known_of l))) moves_are_numbered trees_can_be_written

-- ---- the premises

no_clash : NeverClashes (ground_of moves_by_number) (initial_of moves_by_number)
no_clash = one_sided_actions_never_clash (ground_of moves_by_number) (initial_of moves_by_number) refl

safe : IsSafelyWritten (domain_of moves_domain) (problem_of from_a_to_b_problem) (empty_tag (domain_of moves_domain) (problem_of from_a_to_b_problem))
safe = record {
  writable = trees_can_be_written;
  table_for = empty_tag_is_table_for_trees (domain_of moves_domain) (problem_of from_a_to_b_problem);
  no_clash = subst (λ l. NeverClashes (ground_of l) (initial_of l)) (sym moves_are_numbered) no_clash;
}

-- ---- a plan

-- the step that takes an action in the written files
abbrev operator_step : GroundName → Step
operator_step n = record { head = do_front ++ encoded n; objects = [] }

-- from a to a, and then from a to b
abbrev two_steps : List Step
two_steps = operator_step (move_step (codes "a") (codes "a")) ∷ operator_step (move_step (codes "a") (codes "b")) ∷ []

accepted : IsAccepted (ground_of moves_by_number) (one_tag_table (known_of moves_by_number)) two_steps (MachineStep.act 0 ∷ MachineStep.act 1 ∷ [])
accepted = record { steps_are = refl; accepted = refl }

written_plan : IsPlan (texts.domain_of (task_of (ground_of moves_by_number) (one_tag_table (known_of moves_by_number)))) (texts.problem_of (task_of (ground_of moves_by_number) (one_tag_table (known_of moves_by_number)))) two_steps
written_plan = (tagged_plans_are_accepted (ground_of moves_by_number) (one_tag_table (known_of moves_by_number)) can_be_written two_steps).1 (MachineStep.act 0 ∷ MachineStep.act 1 ∷ [], accepted)

-- as a plan of what is written for the trees
plan_of_translation : IsPlan (translation_of (domain_of moves_domain) (problem_of from_a_to_b_problem) (empty_tag (domain_of moves_domain) (problem_of from_a_to_b_problem))).domain (translation_of (domain_of moves_domain) (problem_of from_a_to_b_problem) (empty_tag (domain_of moves_domain) (problem_of from_a_to_b_problem))).problem two_steps
plan_of_translation = subst (λ l. IsPlan (texts.domain_of (task_of (ground_of l) (one_tag_table (known_of l)))) (texts.problem_of (task_of (ground_of l) (one_tag_table (known_of l)))) two_steps) (sym moves_are_numbered) written_plan

strips_to_solution : StripsToSolution (domain_of moves_domain) (problem_of from_a_to_b_problem) two_steps
strips_to_solution = plans_solve (domain_of moves_domain) (problem_of from_a_to_b_problem) (empty_tag (domain_of moves_domain) (problem_of from_a_to_b_problem)) moves_have_no_fault moves_goal_is_plain safe two_steps plan_of_translation

strips_to_plan : StripsToPlan moves_domain from_a_to_b_problem two_steps
unfolding its_problem
strips_to_plan = translations_sound moves_domain from_a_to_b_problem its_problem (empty_tag (domain_of moves_domain) (problem_of from_a_to_b_problem)) (empty_tag_is_table_for_trees (domain_of moves_domain) (problem_of from_a_to_b_problem)) safe.no_clash two_steps plan_of_translation

two_moves : strip two_steps ≡ Some (move_step (codes "a") (codes "a") ∷ move_step (codes "a") (codes "b") ∷ [])
two_moves = refl
