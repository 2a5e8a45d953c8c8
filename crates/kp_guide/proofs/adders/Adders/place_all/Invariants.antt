use Rattle.std.proofs.Common.{◌≡◌, ◌≤◌, ◌-◌, [], true, length}
use Rattle.kp_classic.specs.Fits.{are_below}
use Rattle.kp_guide.specs.Placing.{ArePlacedTo, Grows}
use Rattle.kp_guide.proofs.adders.Adders.place_all.Given as goal

-- the rules for the facts so far are placed
abbrev pub invariant-places : goal.invariant-places
invariant-places l =
    Grows l.self.rules.items l.initial.facts.keys [] l.facts.keys l.rules.items
    × ArePlacedTo l.self.rules.items l.place l.facts.keys l.rules.items
    × (are_below (length l.self.rows.items) l.facts.keys ≡ true)
    × (l.place ≤ length l.facts.keys)

abbrev pub decreases-places : goal.decreases-places
decreases-places l = length l.self.rows.items - l.place
