use Rattle.std.proofs.Common.{◌<◌, length, slice_index_or, sym, subst}
use Rattle.kp_search.proofs.Watching.{member_read, sets_more}
use Rattle.kp_search.proofs.watch.set_all.Goals as goal

pub set-requires : goal.set-requires
set-requires c = subst (λ n. slice_index_or c.args.numbers.now c.loop-number.number-index 0 < n) (sym c.loop-number.invariant.0) (c.requires _ (member_read c.args.numbers.now c.loop-number.number-index c.loop-number-test.true))

-- one number more
pub loop-number-preserved : goal.loop-number-preserved
loop-number-preserved c =
    sets_more c.args.bits.now c.loop-number.bits c.set.new.self c.args.numbers.now c.loop-number.number-index c.loop-number-test.true
    (subst (λ n. slice_index_or c.args.numbers.now c.loop-number.number-index 0 < n) (sym c.loop-number.invariant.0) (c.requires _ (member_read c.args.numbers.now c.loop-number.number-index c.loop-number-test.true))) c.set.ensures c.loop-number.invariant
