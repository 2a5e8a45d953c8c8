use Rattle.std.proofs.Common.{◌≡◌, ◌+◌, length}
use Rattle.kp_search.specs.Watched.{AreWatched}
use Rattle.kp_search.proofs.watch.put_all.Given as goal

-- the operators so far
abbrev pub invariant-loop-op : goal.invariant-loop-op
invariant-loop-op l = (length l.rows ≡ length l.task.facts + 1) × AreWatched l.task l.op l.rows
