use Rattle.std.proofs.Common.{take}
use Rattle.kp_primes.proofs.Placing.{IsPutFor}
use Rattle.kp_primes.proofs.holders.Holders.push.Given as goal

-- the place is put for the literals so far
abbrev pub invariant-loop-l : goal.invariant-loop-l
invariant-loop-l l = IsPutFor (take l.l-index l.lits) l.place l.fn.self l.self-inside.lists.items
