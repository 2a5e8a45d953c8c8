use Rattle.std.proofs.Common.{◌≡◌, ◌≤◌, ◌-◌, length}
use Rattle.kp_base.specs.declared.refused.Part.TheVariants as parts
use Rattle.kp_lex.specs.Places.{place_of}
use Rattle.kp_tree_cursor.specs.Lexemes.{from}
use Rattle.kp_plans.specs.Steps.{Ascends, StepsSoFar}
use Rattle.kp_plans.proofs.reading.steps.Given as goal

-- the steps so far, and the place behind which the others stand
abbrev pub invariant-steps : goal.invariant-steps
invariant-steps l = record {
  within : l.at ≤ length l.tokens;
  place : l.known ≡ place_of parts.Plan l.bytes l.known.byte;
  ascends : Ascends l.known.byte (from l.tokens l.at) (length l.bytes);
  so_far : StepsSoFar l.bytes l.steps (from l.tokens l.at) l.tokens;
}

abbrev pub decreases-steps : goal.decreases-steps
decreases-steps l = length l.tokens - l.at
