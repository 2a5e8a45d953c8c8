use Rattle.std.proofs.Common.{◌≡◌, ℕ, true, Some, length, slice_get, take}
use Rattle.kp_base.specs.Lists.{Member}
use Rattle.kp_search.proofs.watch.set_all.Given as goal

-- the numbers so far
abbrev pub invariant-loop-number : goal.invariant-loop-number
invariant-loop-number l =
    (length l.bits ≡ length l.fn.bits)
    × ((k : ℕ) → slice_get l.fn.bits k ≡ Some true → slice_get l.bits k ≡ Some true)
    × ((k : ℕ) → Member (take l.number-index l.numbers) k → slice_get l.bits k ≡ Some true)
