use Rattle.std.proofs.Common.{◌≡◌, ◌++◌, map, take}
use Rattle.kp_tags.specs.MergeTables.{numbered}
use Rattle.kp_tags.proofs.numbers.push_numbered.Given as goal

abbrev pub invariant-loop-merge : goal.invariant-loop-merge
invariant-loop-merge l = l.row ≡ l.fn.row ++ map (numbered l.tags) (take l.merge-index l.merges)
