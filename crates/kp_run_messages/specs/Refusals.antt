-- How each refusal is printed: its number and its name, and then the lines of what it carries.
use Rattle.std.specs.Prelude.{List, [], ◌++◌, ◌-◌, ℕ, Option, Some, None, codes, decimal, slice_get}
use Rattle.kp_base.specs.declared.ground.GroundName.{GroundName}
use Rattle.kp_base.specs.declared.ground.Effect.{Effect}
use Rattle.kp_base.specs.declared.ground.Action.{Action}
use Rattle.kp_base.specs.declared.lit.AtomId.{AtomId}
use Rattle.kp_base.specs.declared.lit.Lit.{Lit}
use Rattle.kp_base.specs.declared.refused.ClashAt.{ClashAt}
use Rattle.kp_base.specs.declared.refused.Part.{Part}
use Rattle.kp_base.specs.declared.refused.Part.TheVariants as parts
use Rattle.kp_base.specs.declared.refused.Place.{Place}
use Rattle.kp_base.specs.declared.refused.Refused.{Refused}
use Rattle.kp_base.specs.declared.refused.Refused.TheVariants as refusals
use Rattle.kp_plans_spelling.specs.Spelling.{name_text, atom_text, atoms_text, literal_text, literals_text, number_line}

-- what a refusal may name by number: the atoms and the actions of a ground problem, and the steps of a plan
pub record Nameable : Type 0 where
  pub atoms : List GroundName
  pub actions : List Action
  pub steps : List GroundName

-- nothing can be named yet
abbrev pub nothing : Nameable
nothing = record { atoms = []; actions = []; steps = [] }

-- ---- lines

-- a file by its part in the command
abbrev pub part_text : Part → List ℕ
part_text parts.Domain = codes "domain"
part_text parts.Problem = codes "problem"
part_text parts.Merges = codes "merges"
part_text parts.Plan = codes "plan"

-- the line that names a file
abbrev pub file_line : Part → List ℕ
file_line part = codes "file " ++ (part_text part ++ codes "\n")

-- the line that names a place: lines are counted from 1, bytes from 0
abbrev pub place_line : Place → List ℕ
place_line place = codes "at " ++ (part_text place.part ++ (codes " line " ++ (decimal place.line ++ (codes " byte " ++ (decimal place.byte ++ codes "\n")))))

-- the line of a tag of a merge, both counted from 0
abbrev pub tag_line : ℕ → ℕ → List ℕ
tag_line merge tag = codes "merge " ++ (decimal merge ++ (codes " tag " ++ (decimal tag ++ codes "\n")))

-- the line of a state: the atoms that hold in it
abbrev pub state_line : List GroundName → List AtomId → List ℕ
state_line atoms state = codes "state" ++ (atoms_text atoms state ++ codes "\n")

-- the line of a step of a plan, counted from 1
abbrev pub step_line : List GroundName → ℕ → List ℕ
step_line steps n = codes "step " ++ (decimal n ++ (codes " " ++ (atom_text (slice_get steps (n - 1)) ++ codes "\n")))

-- the line of a target
abbrev pub target_line : List GroundName → Lit → List ℕ
target_line atoms target = codes "target " ++ (literal_text atoms target ++ codes "\n")

-- ---- clashes

-- the condition of an effect, if there is one
abbrev pub condition_text : List GroundName → Option Effect → List ℕ
condition_text atoms None = []
condition_text atoms (Some e) = literals_text atoms e.cond

-- the conditions of the add and of the delete of a clash
abbrev pub conditions_text : List GroundName → List Effect → ClashAt → List ℕ
conditions_text atoms es c = codes "\nadd" ++ (condition_text atoms (slice_get es c.add) ++ (codes "\ndelete" ++ (condition_text atoms (slice_get es c.delete) ++ codes "\n")))

-- the lines of a clash of this action: the action, the atom, and the conditions
abbrev pub clash_lines : List GroundName → Option Action → ClashAt → List ℕ
clash_lines atoms None c = []
clash_lines atoms (Some a) c = codes "action " ++ (name_text a.name ++ (codes "\natom " ++ (atom_text (slice_get atoms c.atom.0) ++ conditions_text atoms a.effects c)))

-- ---- all refusals

-- the number and the name of a refusal
abbrev pub title_of : Refused → List ℕ
title_of (refusals.TooLong part) = codes "refused 1 TooLong\n"
title_of (refusals.BadToken place) = codes "refused 2 BadToken\n"
title_of (refusals.Syntax place) = codes "refused 3 Syntax\n"
title_of (refusals.Unsupported place) = codes "refused 4 Unsupported\n"
title_of (refusals.UnknownName place) = codes "refused 5 UnknownName\n"
title_of (refusals.DeclaredTwice place) = codes "refused 6 DeclaredTwice\n"
title_of (refusals.WrongUse place) = codes "refused 7 WrongUse\n"
title_of refusals.BindingsOver = codes "refused 8 BindingsOver\n"
title_of refusals.AtomsOver = codes "refused 9 AtomsOver\n"
title_of refusals.ActionsOver = codes "refused 10 ActionsOver\n"
title_of refusals.EffectsOver = codes "refused 10 EffectsOver\n"
title_of (refusals.ImplicatesOver prefix) = codes "refused 11 ImplicatesOver\n"
title_of refusals.NoInitialState = codes "refused 12 NoInitialState\n"
title_of (refusals.Clash at) = codes "refused 13 Clash\n"
title_of (refusals.MergeSyntax place) = codes "refused 14 MergeSyntax\n"
title_of (refusals.TagInconsistent merge tag) = codes "refused 15 TagInconsistent\n"
title_of (refusals.MergeInvalid merge state) = codes "refused 16 MergeInvalid\n"
title_of refusals.TagsOver = codes "refused 17 TagsOver\n"
title_of refusals.FactsOver = codes "refused 18 FactsOver\n"
title_of refusals.WeightOver = codes "refused 18 WeightOver\n"
title_of (refusals.PlanSyntax place) = codes "refused 19 PlanSyntax\n"
title_of (refusals.StepUnknown step) = codes "refused 20 StepUnknown\n"
title_of (refusals.SetsOver target size) = codes "refused 21 SetsOver\n"
title_of (refusals.NotClassical place) = codes "refused 22 NotClassical\n"

-- the lines of what a refusal carries
abbrev pub lines_of : Nameable → Refused → List ℕ
lines_of n (refusals.TooLong part) = file_line part
lines_of n (refusals.BadToken place) = place_line place
lines_of n (refusals.Syntax place) = place_line place
lines_of n (refusals.Unsupported place) = place_line place
lines_of n (refusals.UnknownName place) = place_line place
lines_of n (refusals.DeclaredTwice place) = place_line place
lines_of n (refusals.WrongUse place) = place_line place
lines_of n refusals.BindingsOver = []
lines_of n refusals.AtomsOver = []
lines_of n refusals.ActionsOver = []
lines_of n refusals.EffectsOver = []
lines_of n (refusals.ImplicatesOver prefix) = number_line (codes "prefix ") prefix
lines_of n refusals.NoInitialState = []
lines_of n (refusals.Clash at) = clash_lines n.atoms (slice_get n.actions at.action) at
lines_of n (refusals.MergeSyntax place) = place_line place
lines_of n (refusals.TagInconsistent merge tag) = tag_line merge tag
lines_of n (refusals.MergeInvalid merge state) = number_line (codes "merge ") merge ++ state_line n.atoms state
lines_of n refusals.TagsOver = []
lines_of n refusals.FactsOver = []
lines_of n refusals.WeightOver = []
lines_of n (refusals.PlanSyntax place) = place_line place
lines_of n (refusals.StepUnknown step) = step_line n.steps step
lines_of n (refusals.SetsOver target size) = target_line n.atoms target ++ number_line (codes "size ") size
lines_of n (refusals.NotClassical place) = place_line place

-- a refusal
abbrev pub refusal_text : Nameable → Refused → List ℕ
refusal_text n r = title_of r ++ lines_of n r
