use Rattle.std.proofs.Common.{◌∙◌, ◌*◌, ◌-◌, ◌^◌, ap, arith, length, min}
use Rattle.std.proofs.lemmas.List.{take_all}
use Rattle.kp_cover.specs.Covered.{ways}
use Rattle.kp_cover.proofs.Few.{next_ways}
use Rattle.kp_cover.proofs.deny.ways.Goals as goal

pub loop-tag-preserved : goal.loop-tag-preserved
loop-tag-preserved c =
    c.saturating_mul-ways.ensures ∙ (ap (λ u. min (c.loop-tag.ways * length u) (2 ^ 64 - 1)) c.slice.ensures.value
    ∙ next_ways (2 ^ 64 - 1) c.args.tags.now c.loop-tag.tag-index c.tag-item.result c.loop-tag.ways c.loop-tag-test.true c.tag-item.is c.loop-tag.invariant)

pub returns : goal.returns
returns c = c.loop-tag.invariant ∙ ap (λ ts. min (ways ts) (2 ^ 64 - 1)) (take_all c.loop-tag.tag-index c.args.tags.now (omega arith))
