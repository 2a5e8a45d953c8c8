use Rattle.std.proofs.Common.{◌≡◌, ◌∙◌, ap, sym, subst, length, nat_eq, true, refl}
use Rattle.std.proofs.lemmas.List.{append-nil}
use Rattle.kp_base.specs.Lists.{each_once}
use Rattle.kp_classic.specs.Fits.{are_below}
use Rattle.kp_guide.specs.Added.{goal_of}
use Rattle.kp_guide.proofs.Estimates.{goal_fits}
use Rattle.kp_guide.proofs.making.places_of_goal.Goals as goal

-- the facts are those of the goal
pub returns-clause-below : goal.returns-clause-below
returns-clause-below c =
    let t = c.args.task.now in
    let n = length t.facts in
    let goal_is : c.slice-2.result.now ≡ goal_of t = c.slice-2.ensures ∙ (c.in_ok-goal.ensures ∙ ap (each_once nat_eq) (append-nil c.slice.result.now ∙ c.slice.ensures)) in
    c.in_ok-places.ensures.below n (subst (λ xs. are_below n xs ≡ true) (sym c.requires.none) refl) (subst (λ xs. are_below n xs ≡ true) (sym goal_is) (goal_fits t n refl c.requires.fits))
