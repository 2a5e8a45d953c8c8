use Rattle.std.proofs.Common.{◌+◌, ◌∙◌, drop, sym}
use Rattle.std.proofs.lemmas.List.{drop_more}
use Rattle.kp_cover.proofs.Inside.{no_decides}
use Rattle.kp_cover.proofs.outside.all_truth.Goals as goal

-- a literal is false
pub returns-in-No : goal.returns-in-No
returns-in-No c =
    no_decides c.args.known.now c.loop-lit.all _ (drop (c.loop-lit.lit-index + 1) c.args.tag.now) (drop c.loop-lit.lit-index c.args.tag.now) (drop_more c.args.tag.now c.loop-lit.lit-index _ c.loop-lit-test.true) (sym c.truth_in.ensures ∙ c.in-No.is)
    ∙ c.loop-lit.invariant
