use Rattle.std.proofs.Common.{◌≡◌, drop}
use Rattle.kp_names_declared.proofs.scope.Scope.leave.Given as goal

-- so many are taken out
abbrev pub invariant-loop : goal.invariant-loop
invariant-loop l = l.self ≡ drop l.counter l.fn.self
