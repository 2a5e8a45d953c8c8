use Rattle.std.proofs.Common.{◌∙◌, length, refl}
use Rattle.kp_guide.proofs.Estimates.{rules_fit}
use Rattle.kp_guide.proofs.Placing.{below_more, longer, same_map}
use Rattle.kp_guide.proofs.relaxation.Relaxation.of.Goals as goal

pub invariant_of-result : goal.invariant_of-result
invariant_of-result c =
    let old = c.places_of_goal.new.facts.keys in
    let new = c.index_on.new.facts.keys in
    let grows = c.in_ok-index.ensures.grows in record {
      inside = below_more (length old) (length new) c.in_ok-goal.goal (longer old new grows.more grows.grows) c.in_ok-goal.ensures.inside;
      wide = c.in_ok-index.ensures.long;
    }

pub returns : goal.returns
returns c =
    let t = c.args.task.now in
    let n = length t.facts in
    let old = c.places_of_goal.new.facts.keys in
    let new = c.index_on.new.facts.keys in
    let grows = c.in_ok-index.ensures.grows in
    let placed = c.in_ok-index.ensures.placed in record {
      below = grows.below n c.in_ok-goal.ensures.below (rules_fit t n refl c.requires);
      goal_is = same_map old new grows.more c.in_ok-goal.goal grows.grows c.in_ok-goal.ensures.inside ∙ c.in_ok-goal.ensures.are;
      rules_are = placed.read;
      each = λ i q lt there is. placed.each i q lt lt there is;
    }
