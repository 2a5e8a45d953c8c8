use Rattle.std.proofs.Common.{◌≡◌, ◌-◌, ◌+◌, ◌||◌, not, true, length, take, drop}
use Rattle.std.specs.List.{list_all}
use Rattle.kp_base.specs.Lit.{negated}
use Rattle.kp_base.specs.LitSet.{with_lit}
use Rattle.kp_cover.specs.Grown.{is_fine}
use Rattle.kp_cover.specs.Covered.{all_inside}
use Rattle.kp_cover.proofs.deny.+all_inside.Given as goal

abbrev pub decreases-all_inside : goal.decreases-all_inside
decreases-all_inside l = length l.tags.now - l.at

-- there is no way outside by the literals so far
abbrev pub invariant-loop-l : goal.invariant-loop-l
invariant-loop-l l = list_all (λ x. not (is_fine l.primes.clauses (with_lit (negated x) l.known)) || all_inside l.primes.clauses (with_lit (negated x) l.known) (drop (l.at + 1) l.tags)) (take l.l-index l.lits) ≡ true
