-- Three cells of which exactly one is full: they can be written, and nothing clashes, though one step adds and deletes one atom. With the empty tag alone what is written has no plan; with a tag for each cell and a merge it has one.
use Rattle.std.proofs.Common.{◌<◌, length, arith, ◌≡◌, zero, suc, true, false, List, [], ◌∷◌, Some, refl, sym, subst}
use Rattle.std.proofs.Math.Bool.{and-false}
use Rattle.std.proofs.lemmas.Bool.{false≢true}
use Rattle.kp_base.specs.declared.lit.Lit.{Lit}
use Rattle.kp_base.specs.Planning.{positive, negative, same_lit, Valuation, MachineStep, Known, start, facts_after, after_act, accepts_from, one_tag_table, IsTable, AreValid, NeverClashes}
use Rattle.kp_lex.specs.Bytes.{class_of}
use Rattle.kp_lex.specs.Scanning.{cut_from}
use Rattle.kp_tree_grammar.specs.Symbols.{symbol_of}
use Rattle.kp_tree_grammar.specs.Parsing.{some_at, next_at}
use Rattle.kp_names_semantics.specs.Problems.{HasNoFault, Step, HasProblem, is_plain_goal, StripsToPlan}
use Rattle.kp_names_semantics.specs.Plans.{IsPlan}
use Rattle.kp_names_semantics.proofs.Public.{domain_of_text as domain_of, problem_of_text as problem_of, computes_a_problem, cells_domain, one_cell_problem}
use Rattle.kp_law_translation.specs.OfTrees.{ground_of, initial_of, start_of}
use Rattle.kp_law_translation.specs.Tables.{empty_tag, IsTableFor}
use Rattle.kp_law_translation.specs.Written.{translation_of}
use Rattle.kp_law_translation.proofs.Tables.{tables_written as tables_can_be_written, empty_tag_is_table as empty_tag_is_table_for_trees}
use Rattle.kp_write.specs.Named as texts
use Rattle.kp_law_tagged_machine.proofs.Public as machine
use Rattle.kp_base.specs.declared.ground.Ground.{Ground}
use Rattle.kp_law_ktask.specs.Task.{task_of}
use Rattle.kp_law_ktask.specs.Writable.{IsWritableTask}
use Rattle.kp_law_ktask.proofs.Public.{tagged_plans_are_accepted}
use Rattle.kp_law_ktask.proofs.Public as tagged
use Rattle.kp_law_translation.specs.Laws.{IsSafelyWritten}
use Rattle.kp_law_translation.proofs.Trees.{translations_sound}

-- ---- what is computed from the texts

pub its_ground : ground_of (domain_of cells_domain) (problem_of one_cell_problem) ≡ machine.cells_ground
unfolding cut_from class_of symbol_of some_at next_at
its_ground = refl

pub its_formula : initial_of (domain_of cells_domain) (problem_of one_cell_problem) ≡ machine.one_cell_is_full
unfolding cut_from class_of symbol_of some_at next_at
its_formula = refl

-- of no cell it is known whether it is full
pub its_start : start_of (domain_of cells_domain) (problem_of one_cell_problem) ≡ []
unfolding cut_from class_of symbol_of some_at next_at
its_start = refl

-- ---- the premises

unfoldable pub its_problem : HasProblem cells_domain one_cell_problem
unfolding cut_from class_of symbol_of some_at next_at
its_problem = computes_a_problem cells_domain one_cell_problem (record { domain_cut = refl; problem_cut = refl; domain_read = refl; problem_read = refl; domain_faults = refl; problem_faults = refl })

trees_writable : IsWritableTask (ground_of (domain_of cells_domain) (problem_of one_cell_problem)) (one_tag_table (start_of (domain_of cells_domain) (problem_of one_cell_problem)))
unfolding its_problem
trees_writable = tables_can_be_written cells_domain one_cell_problem its_problem (empty_tag (domain_of cells_domain) (problem_of one_cell_problem)) (empty_tag_is_table_for_trees (domain_of cells_domain) (problem_of one_cell_problem))

cells_writable : IsWritableTask machine.cells_ground (one_tag_table [])
cells_writable = rw (its_ground, its_start) at trees_writable

no_clash : NeverClashes (ground_of (domain_of cells_domain) (problem_of one_cell_problem)) (initial_of (domain_of cells_domain) (problem_of one_cell_problem))
no_clash = rw (its_ground, its_formula) machine.cells_never_clash

safe : IsSafelyWritten (domain_of cells_domain) (problem_of one_cell_problem) (empty_tag (domain_of cells_domain) (problem_of one_cell_problem))
safe = record { writable = trees_writable; table_for = empty_tag_is_table_for_trees (domain_of cells_domain) (problem_of one_cell_problem); no_clash = no_clash }

pub no_fault : HasNoFault (domain_of cells_domain) (problem_of one_cell_problem)
unfolding cut_from class_of symbol_of some_at next_at
no_fault = record { domain = refl; problem = refl }

plain : is_plain_goal (problem_of one_cell_problem).goal ≡ true
unfolding cut_from class_of symbol_of some_at next_at
plain = refl

-- ---- without tags nothing is ever known of a cell, so no list is accepted

still_unknown : (k : Valuation) → ((l : Lit) → k l ≡ false) → (l : Lit) → facts_after machine.cells_left k l ≡ false
still_unknown k h l = rw (h (positive 2), h (positive 1), h l, and-false (same_lit (positive 1) l), and-false (same_lit (negative 2) l), and-false (same_lit (positive 0) l), and-false (same_lit (negative 1) l)) refl

pub unmet : (ms : List MachineStep) (k : Known) → ((l : Lit) → k 0 l ≡ false) → accepts_from machine.cells_ground (one_tag_table []) k ms ≡ true → ⊥
unmet [] k h e = false≢true (rw (h (positive 0)) at e)
unmet (MachineStep.act zero ∷ ms) k h e = unmet ms (after_act (Some machine.cells_left) k) (still_unknown (k 0) h) e
unmet (MachineStep.act (suc n) ∷ ms) k h e = false≢true e
unmet (MachineStep.merge zero ∷ ms) k h e = false≢true e
unmet (MachineStep.merge (suc n) ∷ ms) k h e = false≢true e

-- so no list of steps is a plan of the two texts
no_plan : (steps : List Step) → IsPlan (texts.domain_of (task_of machine.cells_ground (one_tag_table []))) (texts.problem_of (task_of machine.cells_ground (one_tag_table []))) steps → ⊥
no_plan steps plan = let found = (tagged_plans_are_accepted machine.cells_ground (one_tag_table []) cells_writable steps).0 plan in unmet found.0 (start (one_tag_table [])) (λ l. refl) found.1.accepted

-- ---- with a tag for each cell, and a merge

right : IsTable (ground_of (domain_of cells_domain) (problem_of one_cell_problem)) (initial_of (domain_of cells_domain) (problem_of one_cell_problem)) machine.cells_table
right = rw (its_ground, its_formula) machine.cells_table_is_right

valid : AreValid (initial_of (domain_of cells_domain) (problem_of one_cell_problem)) machine.cells_table
valid = rw its_formula machine.cells_merges_are_valid

pub table_for : IsTableFor (domain_of cells_domain) (problem_of one_cell_problem) machine.cells_table
table_for = record { right = right; valid = valid; targets = (subst (λ (g : Ground). 0 < length g.atoms) (sym its_ground) (omega arith), tt); tags_fit = omega arith; merges_fit = omega arith }

-- two steps and the merge are a plan of what is written
a_plan : IsPlan (translation_of (domain_of cells_domain) (problem_of one_cell_problem) machine.cells_table).domain (translation_of (domain_of cells_domain) (problem_of one_cell_problem) machine.cells_table).problem tagged.cells_steps
a_plan = subst (λ g. IsPlan (texts.domain_of (task_of g machine.cells_table)) (texts.problem_of (task_of g machine.cells_table)) tagged.cells_steps) (sym its_ground) tagged.cells_have_a_plan

-- and strip to one of the texts, from all three initial states
it_strips : StripsToPlan cells_domain one_cell_problem tagged.cells_steps
unfolding its_problem
it_strips = translations_sound cells_domain one_cell_problem its_problem machine.cells_table table_for no_clash tagged.cells_steps a_plan
