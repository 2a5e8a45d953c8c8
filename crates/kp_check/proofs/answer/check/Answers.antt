use Rattle.std.proofs.Common.{sym, ◌∙◌}
use Rattle.kp_primes.specs.Held.{formula}
use Rattle.kp_primes_first_model.specs.Ordered.{state_of_atoms}
use Rattle.kp_check.proofs.Grounded.{ground_of}
use Rattle.kp_check.proofs.FailingFrom.{failure_found, fail_at, tells_where, all_succeed}
use Rattle.kp_check.proofs.answer.check.Goals as goal

pub returns-in-Some-2 : goal.returns-in-Some-2
returns-in-Some-2 c =
    let n = c.args.primes.now.atoms in
    let g = c.args.ground.now in
    let first = rw (c.in-Some.is, c.slice.ensures) at c.in_ok-state.ensures in
    let at = rw (c.in-Some-2.is, c.slice-3.ensures, c.in_ok-values.ensures, c.slice-2.ensures, c.atoms.ensures) at c.in_ok-at.ensures.place in
    let up = rw (c.in-Some-2.is, c.slice-3.ensures) at c.in_ok-at.ensures.ascending in
    (first, fail_at g c.args.steps.now (state_of_atoms c.in-Some.state) c.in-Some-2.at c.requires.inside up (sym (failure_found n g (ground_of n g c.requires.number c.requires.ground) c.args.steps.now c.in-Some.state) ∙ sym at))

pub returns-in-None : goal.returns-in-None
returns-in-None c =
    let n = c.args.primes.now.atoms in
    let g = c.args.ground.now in
    let first = rw (c.in-Some.is, c.slice.ensures) at c.in_ok-state.ensures in
    let none = rw (c.in-None.is, c.slice-3.ensures, c.in_ok-values.ensures, c.slice-2.ensures, c.atoms.ensures) at c.in_ok-at.ensures.place in
    absurd (tells_where n g (formula c.args.primes.now) c.args.steps.now c.in-Some.state (ground_of n g c.requires.number c.requires.ground) c.requires.inside first.0 (sym none))

pub returns-in_default : goal.returns-in_default
returns-in_default c = all_succeed c.args.ground.now (formula c.args.primes.now) c.args.steps.now (rw (c.in_default.is, c.slice.ensures) at c.in_ok-state.ensures)
