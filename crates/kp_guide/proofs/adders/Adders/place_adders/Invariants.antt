use Rattle.std.proofs.Common.{take}
use Rattle.kp_guide.specs.Placing.{Grows, HaveAll}
use Rattle.kp_guide.proofs.adders.Adders.place_adders.Given as goal

-- the rules so far are placed
abbrev pub invariant-loop-number : goal.invariant-loop-number
invariant-loop-number l =
    Grows l.self.rules.items l.initial.facts.keys l.initial.rules.items l.facts.keys l.rules.items
    × HaveAll l.self.rules.items (take l.number-index l.number-items) l.facts.keys l.rules.items l.place
