use Rattle.std.proofs.Common.{map}
use Rattle.kp_primes.specs.Held.{formula}
use Rattle.kp_primes_first_model.specs.Asked.{is_wanted, passes_one}
use Rattle.kp_check.specs.Judging.{fails}
use Rattle.kp_check.specs.Marks.{is_false_at}
use Rattle.kp_check.proofs.Asking.{asks_failing}
use Rattle.kp_check.proofs.judge.first_failing.Goals as goal

pub returns : goal.returns
returns c =
    let n = c.args.primes.now.atoms in
    let g = c.args.ground.now in
    let i = formula c.args.primes.now in
    let ns = c.args.steps.now in
    let ms = c.in_ok-marks.marks.items in
    c.first_goes_by_what_passes.ensures n (is_wanted i (passes_one (map (is_false_at g ns) ms))) (is_wanted i (fails g ns)) c.in_ok-state.state (asks_failing n g i ns ms c.in_ok-marks.ensures) (rw c.deref.ensures.value at c.in_ok-state.ensures)
