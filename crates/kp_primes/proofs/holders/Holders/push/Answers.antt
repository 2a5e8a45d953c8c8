use Rattle.std.proofs.Common.{subst, sym}
use Rattle.kp_base.specs.LitSet.{IsAscending}
use Rattle.kp_primes.proofs.Placing.{put_more}
use Rattle.kp_primes.proofs.holders.Holders.push.Goals as goal

-- one literal more
pub loop-l-preserved : goal.loop-l-preserved
loop-l-preserved c =
    put_more c.slice-lits.result.now c.loop-l.l-index _ c.args.place c.args.self.now c.loop-l.self-inside.lists.items c.note.new.lists.items
    (subst IsAscending (sym c.slice-lits.ensures.value) c.slice-lits.ensures.ascending) c.loop-l-test.true c.in_ok-note.ensures.own c.in_ok-note.ensures.others c.loop-l.invariant
