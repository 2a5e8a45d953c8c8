use Rattle.std.proofs.Common.{◌≡◌, drop, true}
use Rattle.std.specs.List.{list_all}
use Rattle.kp_classic.specs.Fits.{are_below}
use Rattle.kp_classic.specs.States.{has}
use Rattle.kp_classic.proofs.conds.all_hold.Given as goal

-- what is left decides
abbrev pub invariant-loop-fact : goal.invariant-loop-fact
invariant-loop-fact l = (list_all (has l.state.hold) (drop l.fact-index l.facts) ≡ list_all (has l.state.hold) l.facts) × (are_below l.state.facts (drop l.fact-index l.facts) ≡ true)
