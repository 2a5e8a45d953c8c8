use Rattle.std.proofs.Common.{◌≡◌, ◌+◌, length}
use Rattle.kp_cover_subsets.specs.Counted.{IsPascal}
use Rattle.kp_cover_subsets.proofs.count.count_sets.Given as goal

abbrev pub invariant-loop : goal.invariant-loop
invariant-loop l = record { long : length l.row.items ≡ l.k + 1; pascal : IsPascal l.counter l.row.items }
