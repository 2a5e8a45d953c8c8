use Rattle.kp_check.proofs.Walking.{found}
use Rattle.kp_check.proofs.Asking.{judged}
use Rattle.kp_check.proofs.judge.FailingQuestion.judge.Goals as goal

pub returns-in_ok-truth-in-Some-clause-truth : goal.returns-in_ok-truth-in-Some-clause-truth
returns-in_ok-truth-in-Some-clause-truth c =
    let q = c.args.self.now in
    rw (c.negated.ensures, c.in_ok-truth-in-Some.ensures, c.in_ok-from-in-Some.ensures) (judged q.atoms c.args.known.now q.ground.now q.steps.now q.marks.now c.requires.ready c.args.number c.in-Some.mark.now (found q.marks.now c.args.number c.in-Some.mark.now c.in-Some.ensures.lookup.0 c.in-Some.ensures.lookup.1))
