-- What `width` comes to.
use Rattle.std.specs.Prelude.{◌≡◌, List, ℕ}
use Rattle.kp_base.specs.declared.ground.Ground.{Ground}
use Rattle.kp_base.specs.declared.ground.Initial.{Initial}
use Rattle.kp_base.specs.declared.refused.Refused.{Refused}
use Rattle.kp_tree_grammar.specs.declared.tree.Word.{Word}
use Rattle.kp_tree_grammar.specs.Trees as trees
use Rattle.kp_law_translation.specs.OfTrees.{ground_of, initial_of}
use Rattle.kp_width.specs.declared.report.WidthReport.{WidthReport}
use Rattle.kp_width.specs.declared.report.WidthReport.TheVariants.{Within, Over}
use Rattle.kp_width.specs.Answers.{IsReport, RefusesWidth}
use Rattle.kp_run_messages.specs.Widths.{width_text, over_text}
use Rattle.kp_run_outcome.specs.declared.outcome.Outcome.{Outcome}
use Rattle.kp_run_outcome.specs.Printing.{prints, denies}
use Rattle.kp_words.specs.Asked.{Asked}
use Rattle.kp_run_prepare.specs.Refusing.{refuses, named_in}
use Rattle.kp_run_prepare.specs.Prepared.{usual, Comes}

-- a report is told: the width is printed, and how each target is covered; or the answer is no, and the bound is printed, and the target that is over it
abbrev pub tells_width : Ground → ℕ → WidthReport → Outcome
tells_width g bound (Within rows) = prints (width_text g.atoms rows)
tells_width g bound (Over target) = denies (over_text g.atoms bound target)

-- a ground problem and its initial formula are measured to this: a refusal, or what is told of the report
pub data WidthGround (bound : ℕ) (g : Ground) (i : Initial) (o : Outcome) : Type 0 where
  no_report : (r : Refused) → RefusesWidth usual bound g i r → o ≡ refuses (named_in g) r → WidthGround bound g i o
  with_report : (report : WidthReport) → IsReport usual bound g i report → o ≡ tells_width g bound report → WidthGround bound g i o

-- two trees are measured to this
abbrev pub WidthTrees : Asked → trees.Domain Word → trees.Problem Word → Outcome → Type 0
WidthTrees c d p o = WidthGround c.bound (ground_of d p) (initial_of d p) o

-- two texts are measured to this
abbrev pub WidthTexts : Asked → List ℕ → List ℕ → Outcome → Type 0
WidthTexts c domain problem o = Comes c.implicates domain problem (WidthTrees c) o
