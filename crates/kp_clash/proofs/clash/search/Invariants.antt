use Rattle.std.proofs.Common.{◌≡◌, drop}
use Rattle.kp_clash_exclusive.specs.Paired.{is_pair}
use Rattle.kp_clash.specs.Searching.{first_from}
use Rattle.kp_clash.proofs.clash.search.Given as goal

-- the number counts the actions that were looked at, and the first clash is one of the rest
abbrev pub invariant-actions : goal.invariant-actions
invariant-actions l = (l.number ≡ l.action-index) × (first_from (is_pair l.pairs) l.action-index (drop l.action-index l.actions) ≡ first_from (is_pair l.pairs) 0 l.actions)
