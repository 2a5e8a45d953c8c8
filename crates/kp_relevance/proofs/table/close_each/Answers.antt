use Rattle.std.proofs.Common.{sym, subst, length}
use Rattle.kp_relevance.specs.Tabled.{ClosesRows, AreSpare}
use Rattle.kp_relevance.proofs.Searching.{rows_same}
use Rattle.kp_relevance.proofs.table.close_each.Goals as goal

pub close_one-requires-clause-closed : goal.close_one-requires-clause-closed
close_one-requires-clause-closed c =
    let b = c.loop-j.invariant.closes in
    subst (λ m. ClosesRows m c.loop-j.closed c.loop-j.rows c.loop-j.rows) (sym b.square.many) (rows_same (length c.args.rows.now) c.loop-j.closed c.args.rows.now c.loop-j.rows b)

pub loop-j-preserved : goal.loop-j-preserved
loop-j-preserved c =
    let b = c.loop-j.invariant.closes in
    let e = b.square.many in
    record {
      closes = subst (λ m. ClosesRows m c.loop-j.closed c.args.rows.now c.loop-j.rows → ClosesRows m c.close_one.new.closed c.args.rows.now c.close_one.new.rows) e (c.close_one.ensures.closes c.args.rows.now) b;
      spare = subst (λ m. AreSpare m c.close_one.new.rows c.close_one.new.spare.lone c.close_one.new.spare.row c.close_one.new.spare.done) e c.close_one.ensures.spare;
    }
