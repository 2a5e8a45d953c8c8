use Rattle.std.proofs.Common.{◌≡◌, ◌++◌, map, take}
use Rattle.kp_tags.specs.MergeTables.{number_in}
use Rattle.kp_tags.proofs.numbers.push_numbers.Given as goal

abbrev pub invariant-loop-tag : goal.invariant-loop-tag
invariant-loop-tag l = l.numbers ≡ l.fn.numbers ++ map (number_in l.tags) (take l.tag-index l.sets)
