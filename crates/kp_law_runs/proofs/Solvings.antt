-- What a run of `solve` ends with, and what that says of the files.
use Rattle.std.proofs.Common.{ℕ, List, [], Some, Vec, refl}
use Rattle.std.specs.declared.alloc.Global.{Global}
use Rattle.kp_base.specs.declared.ground.TagTable.{TagTable}
use Rattle.kp_tree_grammar.specs.declared.tree.Word.{Word}
use Rattle.kp_tree_grammar.specs.Trees.{Domain, Problem}
use Rattle.kp_law_translation.specs.OfTrees.{ground_of, initial_of}
use Rattle.kp_outside.specs.Outside.{FileMap}
use Rattle.kp_run_outcome.specs.declared.outcome.Outcome.{Outcome}
use Rattle.kp_words.specs.Asked.{Asked, source_of}
use Rattle.kp_words.specs.declared.verb.Verb.TheVariants as verbs
use Rattle.kp_words.specs.Command.{IsCall}
use Rattle.kp_run_prepare.specs.Prepared.{later}
use Rattle.kp_run_inputs.specs.SourceTables.{with_table}
use Rattle.kp_run_solve.specs.Solving.{SolvesGround}
use Rattle.kp_run.specs.Outcomes.{IsDue}
use Rattle.kp_run.specs.Solved.{GoesOn, HasTask}
use Rattle.kp_run.proofs.Public.{solve_is_true, due_by, held_alone, named_merges_held}
use Rattle.kp_law_runs.specs.Solve.{SolvingsAreAnswered, SolvedIsAPlan, NoPlanIsTrue, SpentIsTrue}
use Rattle.kp_law_runs.proofs.Following.{ends_with}

-- ---- what is due

solving_due : (words : List (Vec ℕ Global)) (m : FileMap) (c : Asked) (d : Domain Word) (p : Problem Word) (table : TagTable) (o : Outcome) → IsCall verbs.Solve words c → GoesOn m c.domain c.problem c.implicates d p → HasTask m (source_of c) d p table → SolvesGround c.classical c.budget (ground_of d p) (initial_of d p) table o → IsDue words (Some m) o
solving_due words m c d p table o is g h does =
    due_by verbs.Solve c (record { domain = g.domain; problem = g.problem; merges = h.merges; plan = []; written = [] }) o is (record { domain = held_alone m c.domain g.domain g.domain_held; problem = held_alone m c.problem g.problem g.problem_held; merges = named_merges_held (Some m) c h.merges h.held; plan = refl; written = refl }) (later d p g.trees g.prepared (with_table table h.has_table does))

pub solvings_are_answered : SolvingsAreAnswered
solvings_are_answered words old new s ends m c d p table o held is g h does = ends_with words old new s ends m o held (solving_due words m c d p table o is g h does)

-- ---- the laws

pub solved_is_a_plan : SolvedIsAPlan
solved_is_a_plan words old new s ends m c held is = (solve_is_true words old new s ends m c held is).done

pub no_plan_is_true : NoPlanIsTrue
no_plan_is_true words old new s ends m c held is = (solve_is_true words old new s ends m c held is).negative

pub spent_is_true : SpentIsTrue
spent_is_true words old new s ends m c held is = (solve_is_true words old new s ends m c held is).spent
