-- What a run on a generated problem comes to.
use Rattle.std.specs.Prelude.{◌≡◌, ℕ, List, [], None, map, length}
use Rattle.kp_base.specs.declared.ground.Ground.{Ground}
use Rattle.kp_base.specs.declared.ground.Initial.{Initial}
use Rattle.kp_base.specs.declared.ground.TagTable.{TagTable}
use Rattle.kp_base.specs.declared.lit.Lit.{Lit}
use Rattle.kp_base.specs.declared.refused.Texts.{Texts}
use Rattle.kp_base.specs.Covering.{AreUncovered}
use Rattle.kp_base.specs.Machine.{MachineStep, stripped}
use Rattle.kp_base.specs.Steps.{IsGroundPlan}
use Rattle.kp_tree_grammar.specs.declared.tree.Word.{Word}
use Rattle.kp_tree_grammar.specs.Trees.{Domain, Problem}
use Rattle.kp_search.specs.declared.found.Found.{Found}
use Rattle.kp_search.specs.declared.found.Found.TheVariants.{Plan, NoPlan, Spent}
use Rattle.kp_law_ktask.specs.Task.{task_of}
use Rattle.kp_law_ktask.specs.Accepted.{op_number}
use Rattle.kp_law_translation.specs.OfTrees.{ground_of, initial_of}
use Rattle.kp_gen.specs.Line.{line_texts}
use Rattle.kp_gen.specs.Bombs.{bombs_texts}
use Rattle.kp_run_outcome.specs.declared.outcome.Outcome.{Outcome}
use Rattle.kp_run_outcome.specs.Printing.{prints}
use Rattle.kp_words.specs.declared.source.Family.{Family}
use Rattle.kp_words.specs.declared.source.Family.TheVariants as families
use Rattle.kp_words.specs.Asked.{of_mode, Asked}
use Rattle.kp_words.specs.Options.{usual_limit}
use Rattle.kp_run_prepare.specs.Prepared.{Comes}
use Rattle.kp_run_inputs.specs.SourceTables.{ComesByTable}
use Rattle.kp_run_inputs.specs.Tasks.{ComesByTask}
use Rattle.kp_run_solve.specs.Solving.{Searches, TellsSolved}
use Rattle.kp_run_bench.specs.Summary.{summary_text}

-- ---- the problem

-- the two texts of a family's problem of this size
abbrev pub family_texts : Family → ℕ → Texts
family_texts families.Line n = line_texts n
family_texts families.Bombs n = bombs_texts n

-- those that a run is about
abbrev pub texts_of : Asked → Texts
texts_of c = family_texts c.family c.size

-- ---- what is told

-- Of a plan that was found in the task of a ground problem and a table, given by the numbers of its operators: without its merges its actions work from each model, and the summary is printed, with the number of these actions.
pub record SumsUp (c : Asked) (g : Ground) (i : Initial) (table : TagTable) (ops : List ℕ) (expanded : ℕ) (o : Outcome) : Type 0 where
  pub machine : List MachineStep
  pub numbers : map (op_number g) machine ≡ ops
  pub works : IsGroundPlan g i (stripped machine)
  pub uncovered : List Lit
  pub are_uncovered : AreUncovered g i table uncovered
  pub told : o ≡ prints (summary_text c g table uncovered (length (stripped machine)) expanded)

-- what is told of what is found: the summary of a plan; that there is none, and whether the table is complete; or that the budget is spent
abbrev pub TellsBench : Asked → Ground → Initial → TagTable → Found → Outcome → Type 0
TellsBench c g i table (Plan ops n) o = SumsUp c g i table ops n o
TellsBench c g i table NoPlan o = TellsSolved None g i table NoPlan o
TellsBench c g i table (Spent n) o = TellsSolved None g i table (Spent n) o

-- ---- the run

-- a ground problem with a table comes to this: the refusal of its task; or what is told of what the search finds
abbrev pub BenchesGround : Asked → Ground → Initial → TagTable → Outcome → Type 0
BenchesGround c g i table o = ComesByTask g table (Searches (task_of g table) c.budget (TellsBench c g i table)) o

-- two trees do, with the table of the run's mode
abbrev pub BenchesTrees : Asked → Domain Word → Problem Word → Outcome → Type 0
BenchesTrees c d p o = ComesByTable (ground_of d p) (initial_of d p) (of_mode c.mode) [] (BenchesGround c (ground_of d p) (initial_of d p)) o

-- and the two texts of the run's family and size
abbrev pub Benches : Asked → Outcome → Type 0
Benches c o = Comes usual_limit (texts_of c).domain (texts_of c).problem (BenchesTrees c) o
