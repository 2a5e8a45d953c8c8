use Rattle.std.proofs.Common.{◌+◌, ℕ, List, refl, subst}
use Rattle.kp_primes.specs.Held.{formula}
use Rattle.kp_cover.specs.Covering.{pick}
use Rattle.kp_tags_modes.specs.Modes.{AreOtherwise, AreMergesBy}
use Rattle.kp_tags_modes.specs.Added.{Adds, IsOver}
use Rattle.kp_tags_modes.proofs.Behind.{adds_as, by_cover, without}
use Rattle.kp_tags_modes.proofs.Searched.{not_covers, least_is, refused_at, are_passed}
use Rattle.kp_tags_modes.proofs.targets.add_searched.Goals as goal

-- a set covers
pub returns-in_ok-add_over_places-in-Found : goal.returns-in_ok-add_over_places-in-Found
returns-in_ok-add_over_places-in-Found c =
    let h = c.args.primes.now in
    let cs = c.args.clauses.now in
    let told = c.covers_are_told.ensures in
    let whole = c.clauses-whole.ensures.whole in
    let set = pick cs c.in-Found.places.items in
    let added = subst (λ (ps : List ℕ). Adds c.args.target (IsOver (formula h) (pick cs ps)) c.args.merges.now c.add_over_places.new.merges) c.deref.ensures.value c.in_ok-add_over_places-in-Found.ensures in
    adds_as c.args.target (IsOver (formula h) set) (AreMergesBy c.args.way c.args.limit (formula h) cs) c.args.merges.now c.add_over_places.new.merges
    (by_cover c.args.way c.args.limit (formula h) cs (not_covers told h whole cs c.requires.uncovered) set
    (least_is told h whole cs c.args.way c.args.limit c.args.way.greatest c.in-Found.size c.in-Found.places.items refl (rw c.in-Found.is at c.in_ok-places.ensures))) added

-- a size has too many sets
pub returns-in-TooMany : goal.returns-in-TooMany
returns-in-TooMany c =
    let h = c.args.primes.now in
    let cs = c.args.clauses.now in
    let told = c.covers_are_told.ensures in
    let whole = c.clauses-whole.ensures.whole in (
      c.in-TooMany.size,
      refl,
      record {
        uncovered = not_covers told h whole cs c.requires.uncovered;
        refused = refused_at told h whole cs c.args.way c.args.limit c.args.way.greatest c.in-TooMany.size refl (rw c.in-TooMany.is at c.in_ok-places.ensures);
      },
    )

-- no set covers
pub returns-in_ok-add_otherwise-in-Nothing : goal.returns-in_ok-add_otherwise-in-Nothing
returns-in_ok-add_otherwise-in-Nothing c =
    let h = c.args.primes.now in
    let cs = c.args.clauses.now in
    let told = c.covers_are_told.ensures in
    let whole = c.clauses-whole.ensures.whole in
    adds_as c.args.target (AreOtherwise (formula h) cs c.args.way.by_models) (AreMergesBy c.args.way c.args.limit (formula h) cs) c.args.merges.now c.add_otherwise.new.merges
    (without c.args.way c.args.limit (formula h) cs (not_covers told h whole cs c.requires.uncovered)
    (are_passed told h whole cs c.args.way c.args.limit (c.args.way.greatest + 1) (rw c.in-Nothing.is at c.in_ok-places.ensures))) c.in_ok-add_otherwise-in-Nothing.ensures
