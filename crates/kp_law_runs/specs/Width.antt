-- What a run of `width` ends with, and what that says of its files.
use Rattle.std.specs.Prelude.{◌≡◌, ◌≤◌, ◌<◌, ◌++◌, ℕ, List, [], ◌∷◌, Some}
use Rattle.kp_base.specs.declared.lit.Lit.{Lit}
use Rattle.kp_base.specs.declared.ground.Ground.{Ground}
use Rattle.kp_base.specs.declared.ground.Initial.{Initial}
use Rattle.kp_base.specs.Lists.{Member}
use Rattle.kp_tree_grammar.specs.declared.tree.Word.{Word}
use Rattle.kp_tree_grammar.specs.Trees.{Domain, Problem}
use Rattle.kp_law_translation.specs.OfTrees.{ground_of, initial_of}
use Rattle.kp_cover.specs.Targets.{AreTargets}
use Rattle.kp_width.specs.declared.report.WidthRow.{WidthRow}
use Rattle.kp_width.specs.declared.report.WidthReport.{WidthReport}
use Rattle.kp_width.specs.Width.{HasWidth, IsAsWide}
use Rattle.kp_width.specs.Rows.{greatest_width}
use Rattle.kp_width.specs.Answers.{IsReport}
use Rattle.kp_width.specs.Laws.{IsRightRow}
use Rattle.kp_outside.specs.Outside.{FileMap}
use Rattle.kp_run_outcome.specs.Ends.{Outside}
use Rattle.kp_run_outcome.specs.declared.status.Status.{Status}
use Rattle.kp_run_outcome.specs.declared.status.Status.TheVariants as status
use Rattle.kp_run_messages.specs.Widths.{width_text, over_text}
use Rattle.kp_words.specs.Asked.{Asked}
use Rattle.kp_words.specs.Command.{IsCall}
use Rattle.kp_words.specs.declared.verb.Verb.TheVariants as verbs
use Rattle.kp_run_prepare.specs.Prepared.{usual}
use Rattle.kp_run.specs.Width.{tells_width}
use Rattle.kp_run.specs.Solved.{GoesOn, Tells}
use Rattle.kp_law_runs.specs.Follows.{OfRuns, EndsWith}

-- a call for the width of such files, of which this is the report: the run ends with what is told of it
abbrev pub WidthsAreAnswered : Type 0
WidthsAreAnswered = OfRuns (λ words old new s. (m : FileMap) (c : Asked) (d : Domain Word) (p : Problem Word) (report : WidthReport)
    → old.held ≡ Some m → IsCall verbs.Width words c → GoesOn m c.domain c.problem c.implicates d p → IsReport usual c.bound (ground_of d p) (initial_of d p) report
    → EndsWith (tells_width (ground_of d p) c.bound report) old new s)

-- each of these targets has its row, in order: clauses that cover it, as many as its width, and their tags
pub data AreRight (g : Ground) (i : Initial) : List Lit → List WidthRow → Type 0 where
  done : AreRight g i [] []
  more : (target : Lit) (targets : List Lit) (row : WidthRow) (rows : List WidthRow) → row.target ≡ target → IsRightRow g i target row → AreRight g i targets rows → AreRight g i (target ∷ targets) (row ∷ rows)

-- the two files have trees with which `width` goes on, and these are their targets
pub record IsTargeted (m : FileMap) (c : Asked) : Type 0 where
  pub domain_tree : Domain Word
  pub problem_tree : Problem Word
  pub goes_on : GoesOn m c.domain c.problem c.implicates domain_tree problem_tree
  pub targets : List Lit
  pub are_targets : AreTargets (ground_of domain_tree problem_tree) targets

-- their ground problem
abbrev pub ground_in : {m : FileMap} {c : Asked} → IsTargeted m c → Ground
ground_in x = ground_of x.domain_tree x.problem_tree

-- and its initial formula
abbrev pub initial_in : {m : FileMap} {c : Asked} → IsTargeted m c → Initial
initial_in x = initial_of x.domain_tree x.problem_tree

-- rows of the targets were told, each of as many clauses as the width of its target, and the greatest of them as the width of the problem; none is above the bound; nothing was put
pub record IsWidthTold (m : FileMap) (c : Asked) (old new : Outside) : Type 0 where
  pub of_targets : IsTargeted m c
  pub rows : List WidthRow
  pub right : AreRight (ground_in of_targets) (initial_in of_targets) of_targets.targets rows
  pub as_wide : IsAsWide (ground_in of_targets) (initial_in of_targets) (greatest_width rows)
  pub in_bound : greatest_width rows ≤ c.bound
  pub told : Tells old new (width_text (ground_in of_targets).atoms rows)
  pub put : new.held ≡ old.held

-- a target was told whose width is above the bound; each target before it has a width within the bound; nothing was put
pub record IsTooWide (m : FileMap) (c : Asked) (old new : Outside) : Type 0 where
  pub of_targets : IsTargeted m c
  pub earlier : List Lit
  pub target : Lit
  pub later : List Lit
  pub among : of_targets.targets ≡ earlier ++ target ∷ later
  pub within_before : (l : Lit) → Member earlier l → (width : ℕ) × HasWidth (ground_in of_targets) (initial_in of_targets) l width × (width ≤ c.bound)
  pub width : ℕ
  pub has_width : HasWidth (ground_in of_targets) (initial_in of_targets) target width
  pub wider : c.bound < width
  pub told : Tells old new (over_text (ground_in of_targets).atoms c.bound target)
  pub put : new.held ≡ old.held

-- what a run of `width` says of its files, where the shelf tells what it holds
pub record WidthIsTrue (m : FileMap) (c : Asked) (old new : Outside) (s : Status) : Type 0 where
  pub done : s ≡ status.Done → IsWidthTold m c old new
  pub negative : s ≡ status.Negative → IsTooWide m c old new

-- so it is of each run
abbrev pub WidthsAreTrue : Type 0
WidthsAreTrue = OfRuns (λ words old new s. (m : FileMap) (c : Asked) → old.held ≡ Some m → IsCall verbs.Width words c → WidthIsTrue m c old new s)
