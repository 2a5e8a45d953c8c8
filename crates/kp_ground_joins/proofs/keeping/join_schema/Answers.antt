use Rattle.std.proofs.Common.{◌≡◌, ◌<◌, ◌+◌, ◌-◌, ◌^◌, ◌++◌, length, flat_map, map, ap, ◌∙◌, arith}
use Rattle.std.proofs.lemmas.List.{length-map}
use Rattle.std.proofs.lemmas.Option.{MatchOption-at_some}
use Rattle.kp_names.specs.View.{schema_view, lifted_view}
use Rattle.kp_ground_semantics.specs.Ground.{instance, kept_bindings}
use Rattle.kp_ground_semantics.specs.Weights.{weight}
use Rattle.kp_ground_semantics.specs.Partial.{schema_partials}
use Rattle.kp_ground_instances.specs.Counts.{kept_view}
use Rattle.kp_ground_joins.specs.Joining.{if_settled, IsJoined}
use Rattle.kp_ground_joins.proofs.Levels.{last_level, came, weighed}
use Rattle.kp_ground_joins.proofs.keeping.join_schema.Goals as goal

-- of the partial bindings of all parameters those come that are settled
pub returns-clause-kept : goal.returns-clause-kept
returns-clause-kept c fits =
    let l = lifted_view c.args.statics.now in
    let a = schema_view c.args.schema.now in
    let joined : IsJoined l a c.args.most c.args.spent.now c.join.new.spent c.in-Some.rows = MatchOption-at_some (c.args.most < c.args.spent.now + schema_partials l a) (λ rs. IsJoined l a c.args.most c.args.spent.now c.join.new.spent rs) c.in-Some.rows c.in-Some.is c.in_ok-rows.ensures in
    c.in_ok-keep_settled.ensures
    ∙ ap (λ xs. map kept_view c.args.kept.now ++ xs) (ap (flat_map (if_settled l a.pre c.args.number)) c.slice.ensures ∙ last_level l a c.args.number c.in-Some.rows joined.all)

pub returns-clause-weight : goal.returns-clause-weight
returns-clause-weight c fits =
    let l = lifted_view c.args.statics.now in
    let a = schema_view c.args.schema.now in
    let joined : IsJoined l a c.args.most c.args.spent.now c.join.new.spent c.in-Some.rows = MatchOption-at_some (c.args.most < c.args.spent.now + schema_partials l a) (λ rs. IsJoined l a c.args.most c.args.spent.now c.join.new.spent rs) c.in-Some.rows c.in-Some.is c.in_ok-rows.ensures in
    let kept : map kept_view c.keep_settled.new.kept ≡ map kept_view c.args.kept.now ++ map (instance c.args.number) (kept_bindings l a) =
    c.in_ok-keep_settled.ensures
    ∙ ap (λ xs. map kept_view c.args.kept.now ++ xs) (ap (flat_map (if_settled l a.pre c.args.number)) c.slice.ensures ∙ last_level l a c.args.number c.in-Some.rows joined.all) in
    let size = came c.args.kept.now c.keep_settled.new.kept (map (instance c.args.number) (kept_bindings l a)) kept in
    let mapped = length-map (kept_bindings l a) (instance c.args.number) in
    let now = c.len.ensures in
    let before = c.len-before.ensures in
    let more : c.len.result - c.len-before.result ≡ length (kept_bindings l a) = omega (arith, size, mapped, now, before) in
    c.saturating_add.ensures
    ∙ weighed (2 ^ 128 - 1) c.args.sum.now (c.len.result - c.len-before.result) (length (kept_bindings l a)) (weight a) c.schema_weight.result c.saturating_mul.result more c.schema_weight.ensures c.saturating_mul.ensures
