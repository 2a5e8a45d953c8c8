use Rattle.std.proofs.Common.{◌≡◌, ◌%◌, ℕ, subst, slice_index_or, arith}
use Rattle.std.specs.Int.{bit_at}
use Rattle.kp_clash_exclusive.specs.Paired.{is_pair}
use Rattle.kp_clash_exclusive.proofs.Firing.{breaks_free}
use Rattle.kp_clash_exclusive.proofs.Noted.{breaks_kept}
use Rattle.kp_clash_exclusive.proofs.left.unsure.Goals as goal

pub returns : goal.returns
returns c = λ q e h.
    let free = breaks_free (is_pair c.args.pairs.now) c.args.action.now c.args.effect.now q h in
    let kept = breaks_kept (is_pair c.args.pairs.now) c.args.sure.now c.args.action.now c.args.effect.now q c.requires.sure h in
    (c.only_here.ensures (q % 64) (omega arith)).1 ((c.row_word.ensures q e).1 free.0, subst (λ (n : ℕ). bit_at (slice_index_or c.args.sure.now n 0) (q % 64) ≡ 0) e kept)
