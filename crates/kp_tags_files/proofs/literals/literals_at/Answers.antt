use Rattle.std.proofs.Common.{arith}
use Rattle.std.proofs.lemmas.Result.{err_from_is_err_and}
use Rattle.kp_tags_files.specs.Parts.{numbers_of}
use Rattle.kp_tags_files.proofs.MergesFound.{no_lits, lit_fails, lit_stands, lits_stand}
use Rattle.kp_tags_files.proofs.literals.literals_at.Goals as goal

pub literals-init : goal.literals-init
literals-init c = record { onward = omega arith; within = c.requires; so_far = no_lits _ _ _ c.new-set.ensures }

-- the next literal is refused
pub returns-in_err-lit-clause-stopped : goal.returns-in_err-lit-clause-stopped
returns-in_err-lit-clause-stopped c =
    let p = err_from_is_err_and c.from_residual.result c.from_residual.ensures.1 in
    rw (p.1, p.2) (lit_fails (numbers_of c.args.table.now) c.args.tokens.now c.args.start c.literals.at _ c.literals.invariant.so_far c.in_err-lit.field-0.0 c.literals-test.ensures.test c.in_err-lit.ensures.stopped)

pub literals-preserved : goal.literals-preserved
literals-preserved c = record {
  onward = omega (arith, c.literals.invariant.onward, c.in_ok-lit.ensures.onward.0);
  within = c.in_ok-lit.ensures.onward.1;
  so_far = lit_stands (numbers_of c.args.table.now) c.args.tokens.now c.args.start c.literals.at _ c.literals.invariant.so_far c.in_ok-lit.lit c.in_ok-lit.behind _ c.literals-test.ensures.test c.in_ok-lit.ensures.found c.in_ok-insert.ensures.value;
}

-- no further literal stands there
pub returns-clause-found : goal.returns-clause-found
returns-clause-found c = lits_stand (numbers_of c.args.table.now) c.args.tokens.now c.args.start c.literals.at _ c.literals.invariant.so_far c.literals-test.ensures.test
