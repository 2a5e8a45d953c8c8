use Rattle.std.proofs.Common.{◌∙◌, ap}
use Rattle.kp_base.specs.Implicates.{are_below}
use Rattle.kp_primes.specs.Held.{formula}
use Rattle.kp_cover.proofs.Public.{targets_are_below}
use Rattle.kp_width.proofs.Ended.{refused_so, reported}
use Rattle.kp_width.proofs.measure.width.Goals as goal

-- the targets are of the atoms
pub rows_of-requires-clause-targets : goal.rows_of-requires-clause-targets
rows_of-requires-clause-targets c = ap (are_below c.args.primes.now.atoms) c.slice.ensures ∙ targets_are_below c.args.ground.now c.args.primes.now.atoms c.in_ok-targets.targets c.requires.of_atoms c.requires.atoms c.in_ok-targets.ensures

-- a target is refused
pub returns-in_err-report : goal.returns-in_err-report
returns-in_err-report c = refused_so c.args.limits.now c.args.bound c.args.ground.now (formula c.args.primes.now) c.in_ok-targets.targets c.slice.result.now c.in_ok-targets.ensures c.slice.ensures c.in_err-report.field-0.0 c.from_residual-in_err-report.result c.in_err-report.ensures c.from_residual-in_err-report.ensures.1

pub returns : goal.returns
returns c = reported c.args.limits.now c.args.bound c.args.ground.now (formula c.args.primes.now) c.in_ok-targets.targets c.slice.result.now c.in_ok-targets.ensures c.slice.ensures c.in_ok-report.report c.in_ok-report.ensures c.within.result c.within.ensures
