use Rattle.std.proofs.Common.{◌∙◌, false, Bool, List, sym, subst, length}
use Rattle.std.proofs.lemmas.Option.{get_or_from_slice_get}
use Rattle.kp_relevance.specs.Tabled.{ClosesRows}
use Rattle.kp_relevance.proofs.Searching.{rows_more}
use Rattle.kp_relevance.proofs.table.close_one.Goals as goal

pub returns-then-not-get-clause-closes : goal.returns-then-not-get-clause-closes
returns-then-not-get-clause-closes c first b =
    let rows = c.args.rows.now in
    let n = length rows in
    subst (λ (xs : List Bool). ClosesRows n xs first c.close_row.new.rows) (sym c.set.ensures) (rows_more n c.args.j c.args.closed.now first rows c.close_row.new.rows c.requires.row b c.close_row.ensures.closes)

pub returns-else-not-get-clause-closed : goal.returns-else-not-get-clause-closed
returns-else-not-get-clause-closed c = get_or_from_slice_get c.args.closed.now c.args.j c.get.result false c.get.ensures ∙ c.if-not-get.false
