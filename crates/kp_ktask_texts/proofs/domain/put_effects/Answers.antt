use Rattle.std.proofs.Common.{map, refl, ap, ◌∙◌, ◌+◌, ◌-◌}
use Rattle.std.proofs.lemmas.List.{map-append}
use Rattle.std.specs.List.{flat_map}
use Rattle.kp_write.specs.Written.{effect_line}
use Rattle.kp_write.specs.Named.{named_effect}
use Rattle.kp_law_ktask.specs.Task.{effects_under, effects_from}
use Rattle.kp_ktask.proofs.Public.{next_tag_first}
use Rattle.kp_ktask_texts.proofs.Putting.{some_more}
use Rattle.kp_ktask_texts.proofs.domain.put_effects.Goals as goal

-- those of the tag were put, those of the later ones are left
pub loop-tag-preserved : goal.loop-tag-preserved
loop-tag-preserved c =
    let t = c.loop-tag.tag in
    let n = c.args.atoms in
    let es = c.args.effects.now in
    let name = named_effect c.args.facts.now in
    some_more _ _ _ effect_line (map name (flat_map (effects_under n t) es)) _ (map name (effects_from n (t + 1) (c.args.tags - (t + 1)) es)) _
    (ap (map name) (next_tag_first (λ t. flat_map (effects_under n t) es) (λ t k. effects_from n t k es) (λ t k. refl) t c.args.tags c.loop-tag-test.true)
    ∙ map-append name (flat_map (effects_under n t) es) (effects_from n (t + 1) (c.args.tags - (t + 1)) es))
    c.loop-tag.invariant c.in_ok-put_under.ensures
