use Rattle.std.proofs.Common.{◌≤◌, ◌-◌, length}
use Rattle.kp_search.specs.Sorted.{AreBefore, IsBeforeRest}
use Rattle.kp_search.proofs.sorted.place_in.Given as goal

-- the state stands between the two
abbrev pub invariant-halves : goal.invariant-halves
invariant-halves l = (l.high ≤ length l.order) × (l.low ≤ l.high) × AreBefore l.states l.order l.low l.state × IsBeforeRest l.states l.order l.high l.state

abbrev pub decreases-halves : goal.decreases-halves
decreases-halves l = l.high - l.low
