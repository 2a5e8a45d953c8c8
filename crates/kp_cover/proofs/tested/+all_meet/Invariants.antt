use Rattle.std.proofs.Common.{◌≡◌, ◌-◌, ◌+◌, ◌||◌, not, true, length, take, drop}
use Rattle.std.specs.List.{list_all}
use Rattle.kp_base.specs.LitSet.{with_lit}
use Rattle.kp_cover.specs.Grown.{is_fine}
use Rattle.kp_cover.specs.Covering.{pick}
use Rattle.kp_cover.specs.Tested.{all_meet}
use Rattle.kp_cover.proofs.tested.+all_meet.Given as goal

abbrev pub decreases-all_meet : goal.decreases-all_meet
decreases-all_meet l = length l.places.now - l.at

-- the literals so far are fine
abbrev pub invariant-loop-l : goal.invariant-loop-l
invariant-loop-l l = list_all (λ x. not (is_fine l.primes.clauses (with_lit x l.tag)) || all_meet l.primes.clauses l.clauses (with_lit x l.tag) (pick l.clauses (drop (l.at + 1) l.places))) (take l.l-index l.lits) ≡ true
