use Rattle.std.proofs.Common.{◌+◌, ◌∙◌, drop, sym}
use Rattle.std.proofs.lemmas.List.{drop_more}
use Rattle.kp_cover.proofs.Inside.{yes_decides}
use Rattle.kp_cover.proofs.outside.any_truth.Goals as goal

-- a tag's literals are all true
pub returns-in-Yes : goal.returns-in-Yes
returns-in-Yes c =
    let places = c.args.places.now in
    let i = c.loop-place.place-index in
    yes_decides c.args.known.now c.args.tags.now c.loop-place.any _ (drop (i + 1) places) (drop i places) (drop_more places i _ c.loop-place-test.true) (sym c.truth_at.ensures ∙ c.in-Yes.is)
    ∙ c.loop-place.invariant
