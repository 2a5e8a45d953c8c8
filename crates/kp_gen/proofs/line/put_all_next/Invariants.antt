use Rattle.std.proofs.Common.{◌≡◌, ◌++◌, ◌+◌, ◌-◌, codes, map}
use Rattle.std.specs.List.{flat_map, range_with_len}
use Rattle.kp_gen.specs.Lines.{text}
use Rattle.kp_gen.specs.Line.{next_cell}
use Rattle.kp_gen.proofs.line.put_all_next.Given as goal

-- with the cells that are left come all
abbrev pub invariant-loop-i : goal.invariant-loop-i
invariant-loop-i l = l.out.items ++ flat_map (λ i. next_cell i ++ codes "\n") (range_with_len l.i (l.n + 1 - l.i)) ≡ l.fn.out.items ++ text (map next_cell (range_with_len 2 (l.n - 1)))
