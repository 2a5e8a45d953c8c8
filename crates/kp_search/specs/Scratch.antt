-- The states that the turns of a search work with. This file serves proofs alone.
use Rattle.std.specs.Prelude.{◌≡◌, length}
use Rattle.kp_classic.specs.declared.task.Task.{Task}
use Rattle.kp_search.specs.declared.scratch.Scratch.{Scratch}
use Rattle.kp_search.specs.Trace as trace

-- they are states of the task, and the first is the one at the start
pub record AreOf (t : Task) (s : Scratch) : Type 0 where
  pub first : s.first ≡ trace.first t
  pub state : s.state.facts ≡ length t.facts
  pub spare : s.spare.facts ≡ length t.facts
