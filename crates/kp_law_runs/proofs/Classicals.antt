-- What a run of `classical` ends with, and what that says of the files.
use Rattle.std.proofs.Common.{ℕ, List, [], Some, Vec, refl}
use Rattle.std.specs.declared.alloc.Global.{Global}
use Rattle.kp_tree_grammar.specs.declared.tree.Word.{Word}
use Rattle.kp_tree_grammar.specs.Trees.{Domain, Problem}
use Rattle.kp_law_translation.specs.OfTrees.{ground_of}
use Rattle.kp_outside.specs.Outside.{FileMap}
use Rattle.kp_run_outcome.specs.declared.outcome.Outcome.{Outcome}
use Rattle.kp_words.specs.Asked.{Asked}
use Rattle.kp_words.specs.declared.verb.Verb.TheVariants as verbs
use Rattle.kp_words.specs.Command.{IsCall}
use Rattle.kp_run_classical.specs.Classical.{later, task_of}
use Rattle.kp_run_solve.specs.Solving.{SolvesClassical}
use Rattle.kp_run.specs.Outcomes.{IsDue}
use Rattle.kp_run.specs.Solved.{IsHeldClassical}
use Rattle.kp_run.proofs.Public.{classical_is_true, due_by, held_alone}
use Rattle.kp_law_runs.specs.Solve.{ClassicalsAreAnswered, ClassicalIsAPlan, NoClassicalPlanIsTrue, ClassicalSpentIsTrue}
use Rattle.kp_law_runs.proofs.Following.{ends_with}

classical_due : (words : List (Vec ℕ Global)) (m : FileMap) (c : Asked) (d : Domain Word) (p : Problem Word) (o : Outcome) → IsCall verbs.Classical words c → IsHeldClassical m c.domain c.problem d p → SolvesClassical c.budget (ground_of d p) (task_of d p) o → IsDue words (Some m) o
classical_due words m c d p o is g does =
    due_by verbs.Classical c (record { domain = g.domain; problem = g.problem; merges = []; plan = []; written = [] }) o is (record { domain = held_alone m c.domain g.domain g.domain_held; problem = held_alone m c.problem g.problem g.problem_held; merges = refl; plan = refl; written = refl }) (later d p g.trees g.classical does)

pub classicals_are_answered : ClassicalsAreAnswered
classicals_are_answered words old new s ends m c d p o held is g does = ends_with words old new s ends m o held (classical_due words m c d p o is g does)

-- ---- the laws

pub classical_is_a_plan : ClassicalIsAPlan
classical_is_a_plan words old new s ends m c held is = (classical_is_true words old new s ends m c held is).done

pub no_classical_plan_is_true : NoClassicalPlanIsTrue
no_classical_plan_is_true words old new s ends m c held is = (classical_is_true words old new s ends m c held is).negative

pub classical_spent_is_true : ClassicalSpentIsTrue
classical_spent_is_true words old new s ends m c held is = (classical_is_true words old new s ends m c held is).spent
