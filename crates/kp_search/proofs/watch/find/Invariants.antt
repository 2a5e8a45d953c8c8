use Rattle.std.proofs.Common.{◌≡◌, ◌<◌, ℕ, true, Some, length, slice_get}
use Rattle.kp_base.specs.Lists.{Member}
use Rattle.kp_classic.specs.States.{has}
use Rattle.kp_search.specs.Watched.{row}
use Rattle.kp_search.proofs.watch.find.Given as goal

-- the facts so far
abbrev pub invariant-loop-fact : goal.invariant-loop-fact
invariant-loop-fact l =
    (length l.bits ≡ length l.fn.bits)
    × ((f k : ℕ) → f < l.fact → has l.state.hold f ≡ true → Member (row l.rows f) k → slice_get l.bits k ≡ Some true)
