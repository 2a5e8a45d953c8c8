use Rattle.kp_primes.specs.Held.{formula}
use Rattle.kp_cover.proofs.Inside.{wanted, outside, one_is}
use Rattle.kp_cover.proofs.tags.first_outside.Goals as goal

-- all tags are left at first
pub returns : goal.returns
returns c =
    let i = formula c.args.primes.now in
    c.first_goes_by_what_passes.ensures c.args.primes.now.atoms (wanted i c.args.tags.now c.in_ok-left.left) (outside i c.args.tags.now) c.in_ok-state.state (one_is i c.args.tags.now c.in_ok-left.left c.in_ok-left.ensures) c.in_ok-state.ensures
