use Rattle.std.proofs.Common.{◌≡◌, ℕ, Bool, not, Some, length, slice_get}
use Rattle.kp_ground_instances.specs.StaticTables.{has_number}
use Rattle.kp_ground_instances.proofs.changes.static_marks.Given as goal

-- each mark so far is right
abbrev pub invariant-loop-q : goal.invariant-loop-q
invariant-loop-q l = (length l.marks ≡ l.q-counter) × ((q : ℕ) (mark : Bool) → slice_get l.marks q ≡ Some mark → mark ≡ not (has_number l.changed.keys q))
