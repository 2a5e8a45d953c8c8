use Rattle.std.proofs.Common.{◌<◌, length, slice_index_or, sym, subst}
use Rattle.std.proofs.lemmas.Option.{slice_get-get_or}
use Rattle.kp_guide.proofs.Noting.{counts_left, counts_on}
use Rattle.kp_guide.proofs.Waiting.{below_at}
use Rattle.kp_guide.proofs.index.count_down.Goals as goal

-- it counts the rule once at least
pub overflow_sub-counts : goal.overflow_sub-counts
overflow_sub-counts c = counts_left c.args.numbers.now c.loop-number.number-index c.args.counts.now c.loop-number.counts c.loop-number-test.true c.requires.enough c.loop-number.invariant

-- one more is counted down
pub loop-number-preserved : goal.loop-number-preserved
loop-number-preserved c =
    let numbers = c.args.numbers.now in
    let i = c.loop-number.number-index in
    let old = c.args.counts.now in
    let mid = c.loop-number.counts in
    let number = slice_index_or numbers i 0 in
    let within : number < length mid = subst (λ n. number < n) (sym c.loop-number.invariant.long) (below_at (length old) numbers i number c.requires.numbers (slice_get-get_or numbers i 0 c.loop-number-test.true)) in
    counts_on numbers i old mid c.loop-number-test.true within c.loop-number.invariant
