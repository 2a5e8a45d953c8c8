use Rattle.std.proofs.Common.{◌≡◌, drop, slice_get}
use Rattle.std.specs.List.{list_any}
use Rattle.kp_base.specs.Implicates.{is_within}
use Rattle.kp_clauses.specs.Sieved.{stands}
use Rattle.kp_clauses.proofs.sieve.any_holds.Given as goal

-- the rest of the places tell
abbrev pub invariant-loop-i : goal.invariant-loop-i
invariant-loop-i l = list_any (λ j. stands (is_within l.c) (slice_get l.clauses j)) (drop l.i-index l.places) ≡ list_any (λ j. stands (is_within l.c) (slice_get l.clauses j)) l.places
