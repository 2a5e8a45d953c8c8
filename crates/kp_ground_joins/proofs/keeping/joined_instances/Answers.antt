use Rattle.std.proofs.Common.{◌<◌, ◌≤◌, length, map, ap, arith}
use Rattle.std.proofs.lemmas.List.{length-map}
use Rattle.std.proofs.lemmas.Option.{MatchOption-at_none, MatchOption-at_some}
use Rattle.kp_names.specs.View.{lifted_view}
use Rattle.kp_ground_semantics.specs.Ground.{kept_instances}
use Rattle.kp_ground_semantics.specs.Weights.{total_weight}
use Rattle.kp_ground_semantics.specs.Partial.{partial_count, looked_at}
use Rattle.kp_ground_instances.specs.Counts.{kept_view}
use Rattle.kp_ground_joins.specs.Limits.{bindings_over, actions_over, effects_over}
use Rattle.kp_ground_joins.specs.Joining.{IsKeptByJoins}
use Rattle.kp_ground_joins.proofs.Levels.{few_joined, both_over}
use Rattle.kp_ground_joins.proofs.keeping.joined_instances.Goals as goal

-- both counts are over
pub returns-in_default-clause-refused : goal.returns-in_default-clause-refused
returns-in_default-clause-refused c =
    let l = lifted_view c.args.statics.now in
    let none : c.from.result < partial_count l = MatchOption-at_none (c.from.result < partial_count l) (λ k. IsKeptByJoins l c.from.result k) c.in_default.is c.in_ok-all.ensures in
    let limit = c.from.ensures in
    let over : c.args.limits.now.bindings < partial_count l = omega (arith, none, limit) in
    bindings_over (both_over l c.args.limits.now.bindings c.requires over)

pub returns-then-len-limits-clause-refused : goal.returns-then-len-limits-clause-refused
returns-then-len-limits-clause-refused c =
    let l = lifted_view c.args.statics.now in
    let all : IsKeptByJoins l c.from.result c.in-Some.all = MatchOption-at_some (c.from.result < partial_count l) (λ k. IsKeptByJoins l c.from.result k) c.in-Some.all c.in-Some.is c.in_ok-all.ensures in
    let limit = c.from.ensures in
    let few = all.few in
    let within : looked_at l ≤ c.args.limits.now.bindings = few_joined l c.args.limits.now.bindings (omega (arith, few, limit)) in
    let size = ap length all.all in
    let mapped = length-map c.in-Some.all.kept kept_view in
    let long = c.len.ensures in
    let over : c.args.limits.now.actions < length (kept_instances l) = omega (arith, size, mapped, long) in
    actions_over within over

pub returns-then-all-from-clause-refused : goal.returns-then-all-from-clause-refused
returns-then-all-from-clause-refused c =
    let l = lifted_view c.args.statics.now in
    let all : IsKeptByJoins l c.from.result c.in-Some.all = MatchOption-at_some (c.from.result < partial_count l) (λ k. IsKeptByJoins l c.from.result k) c.in-Some.all c.in-Some.is c.in_ok-all.ensures in
    let limit = c.from.ensures in
    let few = all.few in
    let within : looked_at l ≤ c.args.limits.now.bindings = few_joined l c.args.limits.now.bindings (omega (arith, few, limit)) in
    let size = ap length all.all in
    let mapped = length-map c.in-Some.all.kept kept_view in
    let long = c.len.ensures in
    let short : length (kept_instances l) ≤ c.args.limits.now.actions = omega (arith, size, mapped, long) in
    let over : c.args.limits.now.weight < total_weight l = omega (arith, all.weight) in
    effects_over within short over
