use Rattle.std.proofs.Common.{◌≡◌, ◌<◌, ◌&&◌, ℕ, drop, true, false, not}
use Rattle.std.specs.List.{list_all}
use Rattle.kp_classic.specs.Fits.{fits_effect}
use Rattle.kp_classic.specs.States.{has}
use Rattle.kp_classic.specs.Steps.{fires}
use Rattle.kp_classic.proofs.steps.delete_all.Given as goal

-- what is left deletes the rest
abbrev pub invariant-loop-effect : goal.invariant-loop-effect
invariant-loop-effect l =
    (l.next.facts ≡ l.state.facts)
    × (list_all (fits_effect l.state.facts) (drop l.effect-index l.effects) ≡ true)
    × ((f : ℕ) → f < l.state.facts → (has l.next.hold f && not (fires (drop l.effect-index l.effects) (has l.state.hold) false f)) ≡ (has l.initial.next.hold f && not (fires l.effects (has l.state.hold) false f)))
