use Rattle.std.proofs.Common.{List, sym, subst}
use Rattle.std.proofs.lemmas.Result.{err_from_is_err_and}
use Rattle.kp_primes.specs.Held.{formula}
use Rattle.kp_tags_files.specs.declared.merge.FileMerge.{FileMerge}
use Rattle.kp_tags.specs.Answers.{AreAllAcceptable, AnswersTable}
use Rattle.kp_tags.proofs.Made.{all_acceptable, made, stops_made}
use Rattle.kp_tags.proofs.making.make.Goals as goal

pub table_within-requires : goal.table_within-requires
table_within-requires c = subst (AreAllAcceptable (formula c.args.primes.now)) (sym c.slice.ensures) (all_acceptable c.args.mode c.args.limits.now.sets c.args.ground.now (formula c.args.primes.now) c.in_ok-merges.merges c.requires.ground c.in_ok-merges.ensures)

pub returns : goal.returns
returns c =
    made c.args.mode c.args.limits.now c.args.ground.now (formula c.args.primes.now) c.in_ok-merges.merges c.requires.ground c.in_ok-merges.ensures c.args.primes.now.atoms c.table_within.result (sym c.requires.atoms)
    (subst (λ (ms : List FileMerge). AnswersTable c.args.primes.now.atoms (formula c.args.primes.now) ms c.args.limits.now.tags c.table_within.result) c.slice.ensures c.table_within.ensures)

-- the mode is refused, or memory ran out
pub returns-in_err-merges : goal.returns-in_err-merges
returns-in_err-merges c =
    let p = err_from_is_err_and c.from_residual.result c.from_residual.ensures.1 in
    rw (p.1, p.2) (stops_made c.args.mode c.args.limits.now c.args.ground.now (formula c.args.primes.now) c.in_err-merges.field-0.0 c.in_err-merges.ensures)
