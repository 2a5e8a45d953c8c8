use Rattle.std.proofs.Common.{◌≡◌, ◌<◌, ◌-◌, ◌+◌, zero, Some, length, slice_get, ap, ap₂, subst, ◌∙◌, arith}
use Rattle.std.proofs.lemmas.Option.{MatchOption-at_none, MatchOption-at_some}
use Rattle.kp_names.specs.View.{schema_view, lifted_view}
use Rattle.kp_ground_semantics.specs.Partial.{partial_bindings, partials_to}
use Rattle.kp_ground_joins.specs.Joining.{all_tried, AreAll}
use Rattle.kp_ground_joins.proofs.Levels.{item_at, next_level, next_count, counts_grow}
use Rattle.kp_ground_joins.proofs.joining.join.Goals as goal

-- there are too many of no parameter, and so of all lengths
pub returns-in_default : goal.returns-in_default
returns-in_default c =
    let l = lifted_view c.args.statics.now in
    let a = schema_view c.args.schema.now in
    let left = c.args.most - c.args.spent.now in
    let none : left < partials_to l a zero = MatchOption-at_none (left < partials_to l a zero) (λ rs. AreAll left (partial_bindings l a zero) rs) c.in_default.is c.in_ok-rows.ensures in
    let grow = counts_grow l a zero (length a.params) (omega arith) in
    omega (arith, none, grow, c.requires)

-- there are too many of one parameter more
pub returns-in_default-2 : goal.returns-in_default-2
returns-in_default-2 c =
    let l = lifted_view c.args.statics.now in
    let a = schema_view c.args.schema.now in
    let i = c.loop-range.range-index in
    let r = c.range-item.result in
    let left = c.args.most - c.loop-range.spent in
    let all = all_tried l a.pre c.slice-objects.result.now c.slice.result.now in
    let at : slice_get a.params i ≡ Some r = subst (λ rs. slice_get rs i ≡ Some r) c.slice-range-items.ensures (item_at c.slice-range-items.result.now i r c.loop-range-test.true c.range-item.is) in
    let none : left < length all = MatchOption-at_none (left < length all) (λ rs. AreAll left all rs) c.in_default-2.is c.in_ok-more.ensures in
    let next : all ≡ partial_bindings l a (i + 1) = next_level l a i r c.loop-range.rows all at c.loop-range.invariant.level (ap₂ (λ os rows. all_tried l a.pre os rows) c.slice-objects.ensures c.slice.ensures) in
    let size = ap length next in
    let count = next_count l a i in
    let there : i < length a.params = subst (λ rs. i < length rs) c.slice-range-items.ensures c.loop-range-test.true in
    let grow = counts_grow l a (i + 1) (length a.params) (omega (arith, there)) in
    let counted = c.loop-range.invariant.counted in
    let few = c.loop-range.invariant.few in
    omega (arith, none, size, count, grow, counted, few)

-- those of one parameter more are extended ones, and are counted
pub loop-range-preserved : goal.loop-range-preserved
loop-range-preserved c =
    let l = lifted_view c.args.statics.now in
    let a = schema_view c.args.schema.now in
    let i = c.loop-range.range-index in
    let r = c.range-item.result in
    let left = c.args.most - c.loop-range.spent in
    let all = all_tried l a.pre c.slice-objects.result.now c.slice.result.now in
    let at : slice_get a.params i ≡ Some r = subst (λ rs. slice_get rs i ≡ Some r) c.slice-range-items.ensures (item_at c.slice-range-items.result.now i r c.loop-range-test.true c.range-item.is) in
    let come : AreAll left all c.in-Some-2.more = MatchOption-at_some (left < length all) (λ rs. AreAll left all rs) c.in-Some-2.more c.in-Some-2.is c.in_ok-more.ensures in
    let level : c.in-Some-2.more ≡ partial_bindings l a (i + 1) = next_level l a i r c.loop-range.rows c.in-Some-2.more at c.loop-range.invariant.level (come.same ∙ ap₂ (λ os rows. all_tried l a.pre os rows) c.slice-objects.ensures c.slice.ensures) in
    let size = ap length level in
    let same = ap length come.same in
    let within = come.few in
    let count = next_count l a i in
    let counted = c.loop-range.invariant.counted in
    let few = c.loop-range.invariant.few in
    let long = c.len-in-loop-range.ensures in
    record {
      level = level;
      counted = omega (arith, long, size, count, counted);
      few = omega (arith, long, same, within, few);
    }
