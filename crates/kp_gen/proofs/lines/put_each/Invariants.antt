use Rattle.std.proofs.Common.{◌≡◌, ◌++◌, ◌+◌, ◌-◌}
use Rattle.std.specs.List.{flat_map, range_with_len}
use Rattle.kp_gen.specs.Numbered.{numbered}
use Rattle.kp_gen.proofs.lines.put_each.Given as goal

-- with the numbers that are left come all
abbrev pub invariant-loop-number : goal.invariant-loop-number
invariant-loop-number l = l.out.items ++ flat_map (numbered l.front l.behind) (range_with_len l.number (l.last + 1 - l.number)) ≡ l.fn.out.items ++ flat_map (numbered l.front l.behind) (range_with_len 1 l.last)
