use Rattle.std.proofs.Common.{◌≡◌, ◌⊎◌}
use Rattle.kp_base.specs.Lists.{Member}
use Rattle.kp_search.proofs.watch.place_for.Given as goal

-- one of the facts, or the last place
abbrev pub invariant-loop-fact : goal.invariant-loop-fact
invariant-loop-fact l = Member l.facts l.best ⊎ (l.best ≡ l.last)
