use Rattle.std.proofs.Common.{map, take}
use Rattle.kp_primes.specs.Held.{formula}
use Rattle.kp_tags.specs.Kept.{AreRows}
use Rattle.kp_tags.proofs.rows.fill.Given as goal

-- the rows of the tags so far
abbrev pub invariant-loop-tag : goal.invariant-loop-tag
invariant-loop-tag l = AreRows l.primes.atoms (formula l.primes) (map (λ k. k.items) (take l.tag-index l.tag-items)) l.rows
