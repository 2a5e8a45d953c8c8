use Rattle.std.proofs.Common.{◌≡◌, ◌<◌, ◌≤◌, ◌+◌, ◌*◌, ◌/◌, ◌∙◌, length, arith, subst, sym}
use Rattle.kp_bits.specs.Ranks.{AreCounts}
use Rattle.kp_bits.proofs.Ranks.{CountsSoFar, none_counted, one_counted, word_more, trues_fit}
use Rattle.kp_bits.proofs.ranked.counts.Goals as goal

pub loop-k-init : goal.loop-k-init
loop-k-init c = subst (λ xs. CountsSoFar c.args.bits.now xs 0 0) (sym c.new-before.ensures.items) (none_counted c.args.bits.now)

-- no more bits are set than there are
pub overflow_add-count : goal.overflow_add-count
overflow_add-count c =
    let here = c.loop-k.invariant.here in
    let more = word_more c.args.bits.now c.loop-k.k c.word.result c.word.type_inv c.word.ensures in
    let fit = trues_fit c.args.bits.now ((c.loop-k.k + 1) * 64) in
    let long = c.len.ensures in
    let counted = c.len.type_inv in
    omega (arith, here, more, fit, long, counted)

pub loop-k-preserved : goal.loop-k-preserved
loop-k-preserved c = one_counted c.args.bits.now c.loop-k.before.items c.push.new.self.items c.loop-k.count c.loop-k.k c.word.result c.word.type_inv c.word.ensures c.in_ok-push.ensures.items c.loop-k.invariant
