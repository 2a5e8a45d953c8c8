use Rattle.std.proofs.Common.{Err}
use Rattle.kp_tree_grammar.specs.View.{domain_view, problem_view}
use Rattle.kp_names_declared.specs.Collected.{domain_of, problem_of}
use Rattle.kp_names.specs.Noted.{JudgesBoth}
use Rattle.kp_names.proofs.FirstFault.{refused, answered}
use Rattle.kp_names.proofs.resolving.resolve.Goals as goal

-- the trees are refused
pub returns-in-Err : goal.returns-in-Err
returns-in-Err c =
    let bytes = c.args.bytes.now in
    let names = c.in_ok-names.names in
    let stopped : JudgesBoth {T = Unit {0}} bytes.domain bytes.problem (domain_of names) (problem_of names) (Err c.in-Err.stop) = c.in-Err.ensures in
    refused (Unit {0}) bytes.domain bytes.problem (domain_of names) (domain_view c.args.domain.now) (problem_of names) (problem_view c.args.problem.now) c.in-Err.stop c.in_ok-names.ensures.domain c.in_ok-names.ensures.problem stopped

-- they have no fault and are numbered
pub returns-in_ok-lifted-in-Ok : goal.returns-in_ok-lifted-in-Ok
unfolding domain_of problem_of
returns-in_ok-lifted-in-Ok c =
    let names = c.in_ok-names.names in
    answered c.args.bytes.now.problem (domain_of names) (domain_view c.args.domain.now) (problem_of names) (problem_view c.args.problem.now) c.in_ok-lifted-in-Ok.lifted
    c.in_ok-names.ensures.domain c.in_ok-names.ensures.problem c.in-Ok.ensures c.in_ok-lifted-in-Ok.ensures.numbered c.in_ok-lifted-in-Ok.ensures.unsure
