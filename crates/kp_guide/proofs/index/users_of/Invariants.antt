use Rattle.std.proofs.Common.{◌≡◌, length}
use Rattle.kp_guide.specs.Waiting.{AreUsers}
use Rattle.kp_guide.proofs.index.users_of.Given as goal

-- the rules so far are put to the facts that they need
abbrev pub invariant-loop-number : goal.invariant-loop-number
invariant-loop-number l = (length l.users.items ≡ l.facts) × AreUsers l.rules l.number l.users.items
