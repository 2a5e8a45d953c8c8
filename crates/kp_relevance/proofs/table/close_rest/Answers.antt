use Rattle.std.proofs.Common.{◌≡◌, true, false, sym, subst, get_or, arith, inl, inr}
use Rattle.std.proofs.lemmas.Bool.{cases_eq}
use Rattle.kp_relevance.specs.Tabled.{ClosesRows, AreSpare}
use Rattle.kp_relevance.proofs.Searching.{rows_same, rows_ended}
use Rattle.kp_relevance.proofs.table.close_rest.Goals as goal

pub close_one-requires-clause-closed : goal.close_one-requires-clause-closed
close_one-requires-clause-closed c =
    let b = c.loop-j.invariant.closes in
    subst (λ m. ClosesRows m c.loop-j.closed c.loop-j.rows c.loop-j.rows) (sym b.square.many) (rows_same c.args.n c.loop-j.closed c.args.rows.now c.loop-j.rows b)

pub loop-j-preserved : goal.loop-j-preserved
loop-j-preserved c =
    let b = c.loop-j.invariant.closes in
    let e = b.square.many in
    record {
      closes = subst (λ m. ClosesRows m c.loop-j.closed c.args.rows.now c.loop-j.rows → ClosesRows m c.close_one.new.closed c.args.rows.now c.close_one.new.rows) e (c.close_one.ensures.closes c.args.rows.now) b;
      spare = subst (λ m. AreSpare m c.close_one.new.rows c.close_one.new.spare.lone c.close_one.new.spare.row c.close_one.new.spare.done) e c.close_one.ensures.spare;
      closed = λ i hi. elim (cases_eq i c.loop-j.j) [
        | inl d ↦ subst (λ x. get_or c.close_one.new.closed x false ≡ true) (sym d) c.close_one.ensures.closed
        | inr ne ↦ c.close_one.ensures.kept i (c.loop-j.invariant.closed i (omega (arith, hi, ne)))
      ];
    }

pub returns : goal.returns
returns c first b =
    rows_ended c.args.n c.args.closed.now c.loop-j.closed first c.args.rows.now c.loop-j.rows b (λ j hj. c.loop-j.invariant.closed j (omega (arith, hj, c.loop-j-test.false))) c.loop-j.invariant.closes
