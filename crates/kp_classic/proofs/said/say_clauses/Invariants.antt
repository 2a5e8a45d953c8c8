use Rattle.std.proofs.Common.{◌≡◌, ◌<◌, ◌||◌, ℕ, drop, true}
use Rattle.std.specs.List.{list_any, list_all}
use Rattle.kp_base.specs.Implicates.{are_below}
use Rattle.kp_base.specs.Lit.{positive, has as has_literal}
use Rattle.kp_classic.specs.States.{has}
use Rattle.kp_classic.proofs.said.say_clauses.Given as goal

-- what is left comes to hold, too
abbrev pub invariant-loop-clause : goal.invariant-loop-clause
invariant-loop-clause l =
    (l.state.facts ≡ l.initial.state.facts)
    × (list_all (are_below l.initial.state.facts) (drop l.clause-index l.clauses) ≡ true)
    × ((f : ℕ) → f < l.initial.state.facts → (list_any (λ c. has_literal c (positive f)) (drop l.clause-index l.clauses) || has l.state.hold f) ≡ (list_any (λ c. has_literal c (positive f)) l.clauses || has l.initial.state.hold f))
