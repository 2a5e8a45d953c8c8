use Rattle.std.proofs.Common.{◌≡◌, subst, IfOk}
use Rattle.kp_primes.specs.Held.{formula}
use Rattle.kp_run.specs.Check.{tells}
use Rattle.kp_run.proofs.Checks.{told_judged}
use Rattle.kp_run.proofs.check.judge.Goals as goal

pub returns : goal.returns
returns c =
    told_judged c.args.prepared.now.primes.atoms c.args.prepared.now.ground (formula c.args.prepared.now.primes) c.args.numbers.now c.in_ok-judged.judged c.tell.result c.args.prepared.now.atoms c.in_ok-judged.ensures
    (subst (λ n. IfOk c.tell.result (λ o. o ≡ tells c.args.prepared.now.ground n c.in_ok-judged.judged)) c.len.ensures c.tell.ensures)
