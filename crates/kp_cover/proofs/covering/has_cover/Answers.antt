use Rattle.std.proofs.Common.{List, ◌+◌, take, subst, arith}
use Rattle.kp_base.specs.declared.ground.Merge.{Merge}
use Rattle.kp_base.specs.Lists.{Member}
use Rattle.kp_base.proofs.Places.{item_member}
use Rattle.kp_primes.specs.Held.{formula}
use Rattle.kp_cover.proofs.Testing.{next_item}
use Rattle.kp_cover.proofs.Deciding.{one_covers, none_next}
use Rattle.kp_cover.proofs.covering.has_cover.Goals as goal

pub returns-then-branch : goal.returns-then-branch
returns-then-branch c =
    let there = item_member c.slice-merges.result.now c.loop-merge.merge-index c.merge-item.result (omega (arith, c.loop-merge-test.true)) c.merge-item.is in
    one_covers (formula c.args.primes.now) c.args.table.now c.args.clauses.now c.args.target c.args.table.now.merges c.merge-item.result (subst (λ (ms : List Merge). Member ms c.merge-item.result) c.slice-merges.ensures there) (rw c.if-branch.true at c.in_ok-covers_by.ensures)

pub loop-merge-preserved : goal.loop-merge-preserved
loop-merge-preserved c =
    none_next (formula c.args.primes.now) c.args.table.now c.args.clauses.now c.args.target (take c.loop-merge.merge-index c.slice-merges.result.now) (take (c.loop-merge.merge-index + 1) c.slice-merges.result.now) c.merge-item.result
    (next_item c.slice-merges.result.now c.loop-merge.merge-index c.merge-item.result (omega (arith, c.loop-merge-test.true)) c.merge-item.is)
    c.loop-merge.invariant (rw c.if-branch.false at c.in_ok-covers_by.ensures)
