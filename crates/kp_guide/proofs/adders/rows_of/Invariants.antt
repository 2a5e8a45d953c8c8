use Rattle.std.proofs.Common.{◌≡◌, length}
use Rattle.kp_guide.specs.Placing.{AreAdders}
use Rattle.kp_guide.proofs.adders.rows_of.Given as goal

-- the rules so far are put to the facts that they add
abbrev pub invariant-loop-number : goal.invariant-loop-number
invariant-loop-number l = (length l.rows.items ≡ l.facts) × AreAdders l.rules l.number l.rows.items
