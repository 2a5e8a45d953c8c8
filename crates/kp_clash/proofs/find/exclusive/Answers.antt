use Rattle.std.proofs.Common.{◌≡◌, length, ◌∙◌}
use Rattle.kp_primes.specs.Held.{formula}
use Rattle.kp_clash_exclusive.specs.Paired.{is_pair}
use Rattle.kp_clash.specs.Settling.{AreNeverTogether}
use Rattle.kp_clash.proofs.Initially.{left_exclusive}
use Rattle.kp_clash.proofs.find.exclusive.Goals as goal

pub returns : goal.returns
returns c =
    let atoms : c.in-Ok.atoms ≡ length c.args.ground.now.atoms = c.in-Ok.ensures.1 ∙ c.len.ensures in
    let start : AreNeverTogether (formula c.args.primes.now) (length c.args.ground.now.atoms) (is_pair c.in_ok-pairs.pairs) = rw (← atoms) c.in_ok-pairs.ensures in
    left_exclusive c.args.ground.now (formula c.args.primes.now) (length c.args.ground.now.atoms) c.in_ok-pairs.pairs c.settle.new.pairs start c.in_ok-settle.ensures
