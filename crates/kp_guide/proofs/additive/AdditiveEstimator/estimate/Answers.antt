use Rattle.std.proofs.Common.{◌≡◌, ℕ, Option, Some, None, Result, Ok, Err, ap, subst}
use Rattle.kp_base.specs.declared.memory.Memory.{Memory}
use Rattle.kp_classic.specs.States.{has}
use Rattle.kp_guide.specs.Added.{IsAdded}
use Rattle.kp_guide.proofs.Placed.{added_of}
use Rattle.kp_guide.proofs.Relaxed.{added_right}
use Rattle.kp_guide.proofs.additive.AdditiveEstimator.estimate.Goals as goal

abbrev answer_of : Result (Option ℕ) Memory → Option ℕ
answer_of (Ok h) = h
answer_of (Err e) = Some 0

-- no chain of rules reaches the goal
pub returns-clause-none : goal.returns-clause-none
returns-clause-none c is_none ks =
    let t = c.args.task.now in
    let s = c.args.state.now in
    let none : c.in_ok-estimate.estimate ≡ None = ap answer_of is_none in
    added_right t (has s.hold) ks (subst (IsAdded t (has s.hold)) none (added_of t c.args.self.now.relaxation s c.in_ok-estimate.estimate c.requires.serves c.in_ok-estimate.ensures))
