use Rattle.std.proofs.Common.{◌≡◌, ◌/◌, ◌%◌}
use Rattle.std.specs.Int.{bit_at}
use Rattle.kp_clash_exclusive.specs.Paired.{is_pair}
use Rattle.kp_clash_exclusive.proofs.Joining.{left_first, put_word}
use Rattle.kp_clash_exclusive.proofs.joined.atoms_left.Goals as goal

pub loop-k-init : goal.loop-k-init
loop-k-init c = left_first (is_pair c.args.pairs.now) c.args.action.now.pre c.args.effect.now.cond

pub loop-k-preserved : goal.loop-k-preserved
loop-k-preserved c = λ q few pre own. put_word (λ w. bit_at w (q % 64) ≡ 1) c.loop-k.words c.loop-k.k (q / 64) c.left_by.result (λ e. c.left_by.ensures q e pre own) (c.loop-k.invariant q few pre own)
