use Rattle.std.proofs.Common.{◌<◌, ◌≤◌, length, arith}
use Rattle.std.proofs.lemmas.Option.{MatchOption-at_none, MatchOption-at_some}
use Rattle.kp_names.specs.View.{lifted_view}
use Rattle.kp_ground_semantics.specs.Ground.{kept_instances}
use Rattle.kp_ground_semantics.specs.Weights.{total_weight}
use Rattle.kp_ground_semantics.specs.Partial.{looked_at}
use Rattle.kp_ground_instances.specs.StaticTables.{IsKeeping}
use Rattle.kp_ground_joins.specs.Limits.{actions_over, effects_over}
use Rattle.kp_ground_joins.proofs.Levels.{few_listed}
use Rattle.kp_ground_joins.proofs.keeping.listed_instances.Goals as goal

pub returns-in_default-clause-refused : goal.returns-in_default-clause-refused
returns-in_default-clause-refused c =
    let l = lifted_view c.args.statics.now in
    let most = c.args.limits.now.actions in
    let within : looked_at l ≤ c.args.limits.now.bindings = few_listed l c.args.limits.now.bindings c.requires in
    actions_over within (MatchOption-at_none (most < length (kept_instances l)) (λ k. IsKeeping l most k) c.in_default.is c.in_ok-all.ensures)

pub returns-then-all-from-clause-refused : goal.returns-then-all-from-clause-refused
returns-then-all-from-clause-refused c =
    let l = lifted_view c.args.statics.now in
    let most = c.args.limits.now.actions in
    let within : looked_at l ≤ c.args.limits.now.bindings = few_listed l c.args.limits.now.bindings c.requires in
    let all : IsKeeping l most c.in-Some.all = MatchOption-at_some (most < length (kept_instances l)) (λ k. IsKeeping l most k) c.in-Some.all c.in-Some.is c.in_ok-all.ensures in
    let over : c.args.limits.now.weight < total_weight l = omega (arith, all.weight) in
    effects_over within all.few over
