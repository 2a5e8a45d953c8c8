use Rattle.std.proofs.Common.{Err, refl}
use Rattle.std.proofs.lemmas.Result.{err_from_is_err_and}
use Rattle.kp_base.specs.declared.refused.Part.TheVariants as parts
use Rattle.kp_names_semantics.specs.Faults.{domain_faults}
use Rattle.kp_names_declared.specs.Collected.{domain_of, problem_of}
use Rattle.kp_names.specs.Noted.{Judges}
use Rattle.kp_names.proofs.FirstFault.{domain_refused, problem_judged}
use Rattle.kp_names.proofs.judge.judge.Goals as goal

-- the domain is refused
pub returns-in_err-judge_domain : goal.returns-in_err-judge_domain
returns-in_err-judge_domain c =
    let bytes = c.args.bytes.now in
    let d = domain_of c.args.names.now in
    let p = problem_of c.args.names.now in
    let e = err_from_is_err_and c.from_residual.result c.from_residual.ensures.1 in
    let stopped : Judges {T = Unit {0}} parts.Domain c.slice.result.now (domain_faults d p) (Err c.in_err-judge_domain.field-0.0) = c.in_err-judge_domain.ensures in
    rw (e.1, e.2) (domain_refused (Unit {0}) (Unit {0}) c.slice.result.now bytes.domain bytes.problem (domain_faults d p) d p c.in_err-judge_domain.field-0.0 c.slice.ensures refl stopped)

pub returns : goal.returns
returns c =
    let bytes = c.args.bytes.now in
    problem_judged bytes.domain bytes.problem (domain_of c.args.names.now) (problem_of c.args.names.now) c.judge_problem.result c.in_ok-judge_domain.ensures (rw c.slice-2.ensures at c.judge_problem.ensures)
