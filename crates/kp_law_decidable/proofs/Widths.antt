-- Each proper problem has an answer on its width, and each of its targets has a width.
use Rattle.std.proofs.Common.{List, length}
use Rattle.kp_base.specs.declared.lit.Lit.{Lit}
use Rattle.kp_base.specs.declared.ground.Ground.{Ground}
use Rattle.kp_base.specs.declared.ground.Initial.{Initial}
use Rattle.kp_cover.specs.Targets.{AreTargets}
use Rattle.kp_cover.proofs.Public.{target_is_below}
use Rattle.kp_width.specs.Laws.{IsKnown}
use Rattle.kp_width.proofs.Public.{known_problems_are_answered, every_target_has_a_width}
use Rattle.kp_law_decidable.specs.Laws.{AreProper, WidthsAreDecided, TargetsHaveWidths}
use Rattle.kp_law_decidable.proofs.Tags.{cov, all_meet}
use Rattle.kp_law_decidable.proofs.Candidates.{clauses_decided}
use Rattle.kp_law_decidable.proofs.Needed.{targets_decided}

-- what the width is made of is known
pub known : (g : Ground) (i : Initial) → AreProper g i → IsKnown g i
known g i proper = by (targets_decided g)
  where
    by : ((ts : List Lit) × AreTargets g ts) → IsKnown g i
    by (ts, are) = record {
      targets = ts;
      are_targets = are;
      clauses = λ l m. clauses_decided g i l proper (target_is_below g proper.own_atoms l ((are.exact l).0 m));
      tags = λ cs. cov (length g.atoms) i proper.over cs;
      meeting = λ tags cs. all_meet (length g.atoms) i proper.over tags cs;
    }

pub widths_decided : WidthsAreDecided
widths_decided limits bound g i proper = known_problems_are_answered limits bound g i (known g i proper)

pub targets_have_widths : TargetsHaveWidths
targets_have_widths g i proper = every_target_has_a_width g i (known g i proper)
