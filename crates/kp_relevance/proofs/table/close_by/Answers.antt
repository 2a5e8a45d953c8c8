use Rattle.std.proofs.Common.{Bool, List, sym, subst}
use Rattle.kp_relevance.specs.Tabled.{ClosesRows}
use Rattle.kp_relevance.proofs.Searching.{rows_begun, rows_same}
use Rattle.kp_relevance.proofs.table.close_by.Goals as goal

pub close_each-requires-clause-closed : goal.close_each-requires-clause-closed
close_each-requires-clause-closed c =
    let rows = c.args.rows.now in
    subst (λ m. ClosesRows m c.in_ok-closed.closed rows rows) (sym c.requires.many)
    (subst (λ (xs : List Bool). ClosesRows c.args.n xs rows rows) (sym c.in_ok-closed.ensures) (rows_begun c.args.n rows c.requires.square))

pub close_rest-requires-clause-closed : goal.close_rest-requires-clause-closed
close_rest-requires-clause-closed c =
    let rows = c.args.rows.now in
    rows_same c.args.n c.close_each.new.closed rows c.close_each.new.rows (subst (λ m. ClosesRows m c.close_each.new.closed rows c.close_each.new.rows) c.requires.many c.close_each.ensures.closes)

pub returns : goal.returns
returns c =
    let rows = c.args.rows.now in
    c.close_rest.ensures rows (subst (λ m. ClosesRows m c.close_each.new.closed rows c.close_each.new.rows) c.requires.many c.close_each.ensures.closes)
