use Rattle.kp_primes.proofs.Closing.{closed_is}
use Rattle.kp_primes.proofs.Questions.{consistent_free, entails_exact}
use Rattle.kp_primes.proofs.primes.Primes.all_entailed.Goals as goal

pub returns : goal.returns
returns c =
    rw (c.in_ok-add_left_near.ensures, c.slice-2.ensures, c.in_ok-add_below.ensures, c.slice.ensures.value, c.in_ok-set.ensures.value, ← c.self.view_is)
    (closed_is _ c.self.inside.holders c.self.inside.always c.args.tag.now c.self.invariant (consistent_free _ c.self.invariant.whole c.args.tag.now (rw (← c.self.view_is) at c.requires)) (entails_exact _ c.self.invariant.whole c.args.tag.now))
