use Rattle.std.proofs.Common.{◌≡◌, ◌≤◌, drop, true, length}
use Rattle.kp_guide.specs.CostTables.{joined, total}
use Rattle.kp_classic.specs.Fits.{are_below}
use Rattle.kp_guide.proofs.costs.cost_of.Given as goal

-- with what is left it comes to the whole
abbrev pub invariant-loop-f : goal.invariant-loop-f
invariant-loop-f l =
    (l.all ≤ 1000000001)
    × (are_below (length l.costs) (drop l.f-index l.facts) ≡ true)
    × (joined l.all (total l.costs (drop l.f-index l.facts)) ≡ total l.costs l.facts)
