use Rattle.std.proofs.Common.{◌∙◌, sym, ap}
use Rattle.kp_base.specs.declared.refused.Part.TheVariants as parts
use Rattle.kp_names_semantics.specs.Faults.{problem_faults}
use Rattle.kp_names_declared.specs.Collected.{domain_of, problem_of}
use Rattle.kp_names.specs.Noted.{noted}
use Rattle.kp_names.proofs.FirstFault.{judged}
use Rattle.kp_names.proofs.InText.{in_problem}
use Rattle.kp_names.proofs.judge.judge_problem.Goals as goal

pub refuse-requires-clause-within : goal.refuse-requires-clause-within
refuse-requires-clause-within c =
    let d = domain_of c.args.names.now in
    let p = problem_of c.args.names.now in
    let noted_all = c.note_problem.ensures ∙ ap (λ o. noted o (problem_faults d p)) c.new-first.ensures in
    λ fault e. in_problem c.args.bytes.now d p fault c.requires.reads (sym noted_all ∙ e)

pub returns : goal.returns
returns c =
    let d = domain_of c.args.names.now in
    let p = problem_of c.args.names.now in
    let noted_all = c.note_problem.ensures ∙ ap (λ o. noted o (problem_faults d p)) c.new-first.ensures in
    judged parts.Problem c.args.bytes.now c.note_problem.new.first (problem_faults d p) c.refuse.result noted_all c.refuse.ensures
