use Rattle.std.proofs.Common.{◌≡◌, ◌<◌, ◌||◌, ℕ, drop, true, length}
use Rattle.kp_classic.specs.Fits.{are_below}
use Rattle.kp_classic.specs.States.{has}
use Rattle.kp_classic.proofs.runs.start.Given as goal

-- what is left comes to hold, too
abbrev pub invariant-loop-fact : goal.invariant-loop-fact
invariant-loop-fact l =
    (l.state.facts ≡ length l.task.facts)
    × (are_below (length l.task.facts) (drop l.fact-index l.fact-items) ≡ true)
    × ((f : ℕ) → f < length l.task.facts → (has (drop l.fact-index l.fact-items) f || has l.state.hold f) ≡ has l.task.init f)
