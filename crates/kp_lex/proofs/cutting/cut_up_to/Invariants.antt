use Rattle.std.proofs.Common.{◌≡◌, ◌≤◌, ◌-◌, ◌+◌, List, length, drop, IfSome}
use Rattle.kp_lex.specs.declared.token.Token.{Token}
use Rattle.kp_lex.specs.Scanning.{cut, with}
use Rattle.kp_lex.proofs.Begun.{Seen}
use Rattle.kp_lex.proofs.cutting.cut_up_to.Given as goal

abbrev pub invariant-pieces : goal.invariant-pieces
invariant-pieces l = record {
  within : l.at ≤ length l.bytes;
  ends : l.to ≤ length l.bytes;
  few : IfSome l.left (λ n. n ≤ l.levels + l.at);
  so_far : (seen : List Token) × (Seen l.levels (length l.bytes) l.tokens l.left l.to seen × (with seen (cut l.at (drop l.at l.bytes)) ≡ cut 0 l.bytes));
}

abbrev pub decreases-pieces : goal.decreases-pieces
decreases-pieces l = length l.bytes - l.at
