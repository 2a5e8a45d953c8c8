use Rattle.std.proofs.Common.{length}
use Rattle.kp_guide.specs.CostTables.{Lowers}
use Rattle.kp_guide.specs.Waiting.{IsReady, IsWork, weight}
use Rattle.kp_guide.proofs.settle.rounds.Given as goal

-- what may lower a cost waits
abbrev pub invariant-rounds : goal.invariant-rounds
invariant-rounds l =
    IsWork l.index.rules.items (length l.index.users.items) l.costs l.counts l.waits l.now.items
    × Lowers l.index.rules.items l.fn.costs l.costs
    × IsReady l.index.rules.items l.costs l.waits l.now.items

abbrev pub decreases-rounds : goal.decreases-rounds
decreases-rounds l = weight l.costs l.now.items
