use Rattle.std.proofs.Common.{◌≡◌, ◌<◌, ◌+◌, ◌⊎◌, ◌∙◌, length, length-set, sym, ap, subst, arith}
use Rattle.kp_base.specs.Lists.{Member}
use Rattle.kp_search.proofs.Watching.{none_watched, asked_below, watched_more}
use Rattle.kp_search.proofs.watch.put_all.Goals as goal

pub put-requires : goal.put-requires
put-requires c =
    let place = c.place_for-place.result in
    let asks = subst (λ last. Member c.at.result.now.pre.yes place ⊎ (place ≡ last)) c.len-last.ensures (subst (λ facts. Member facts place ⊎ (place ≡ c.len-last.result)) c.slice.ensures c.place_for-place.ensures) in
    subst (λ n. place < n) (sym c.loop-op.invariant.0) (asked_below c.args.task.now c.loop-op.op c.at.result.now place c.requires.fit c.at.ensures asks)

pub loop-op-init : goal.loop-op-init
loop-op-init c = (c.requires.long, none_watched c.args.task.now c.args.rows.now c.requires.empty)

-- an operator more
pub loop-op-preserved : goal.loop-op-preserved
loop-op-preserved c =
    let place = c.place_for-place.result in
    let asks = subst (λ last. Member c.at.result.now.pre.yes place ⊎ (place ≡ last)) c.len-last.ensures (subst (λ facts. Member facts place ⊎ (place ≡ c.len-last.result)) c.slice.ensures c.place_for-place.ensures) in
    let inside = subst (λ n. place < n) (sym c.loop-op.invariant.0) (asked_below c.args.task.now c.loop-op.op c.at.result.now place c.requires.fit c.at.ensures asks) in
    let test = c.loop-op-test.true in
    let ops = c.len-ops.ensures in (
      ap length c.in_ok-put.ensures ∙ (length-set c.loop-op.rows place _ ∙ c.loop-op.invariant.0),
      watched_more c.args.task.now c.loop-op.op place c.at.result.now c.loop-op.rows c.put.new.rows (omega (arith, test, ops)) c.at.ensures inside asks c.in_ok-put.ensures c.loop-op.invariant.1,
    )
