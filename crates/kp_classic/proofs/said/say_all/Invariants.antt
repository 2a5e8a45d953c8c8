use Rattle.std.proofs.Common.{◌≡◌, ◌<◌, ◌||◌, ℕ, drop, true}
use Rattle.kp_base.specs.Implicates.{are_below}
use Rattle.kp_base.specs.Lit.{positive, has as has_literal}
use Rattle.kp_classic.specs.States.{has}
use Rattle.kp_classic.proofs.said.say_all.Given as goal

-- what is left comes to hold, too
abbrev pub invariant-loop-lit : goal.invariant-loop-lit
invariant-loop-lit l =
    (l.state.facts ≡ l.initial.state.facts)
    × (are_below l.initial.state.facts (drop l.lit-index l.lits) ≡ true)
    × ((f : ℕ) → f < l.initial.state.facts → (has_literal (drop l.lit-index l.lits) (positive f) || has l.state.hold f) ≡ (has_literal l.lits (positive f) || has l.initial.state.hold f))
