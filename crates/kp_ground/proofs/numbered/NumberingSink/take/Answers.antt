use Rattle.std.proofs.Common.{◌≡◌, ◌++◌, refl, sym, ap, ap₂, map, ◌∙◌}
use Rattle.kp_base.specs.declared.ground.Effect.{Effect}
use Rattle.kp_base.specs.LitSet.{set_of}
use Rattle.kp_base.proofs.Lists.{map_map}
use Rattle.kp_ground_semantics.specs.declared.flat.FlatEffect.{FlatEffect}
use Rattle.kp_ground_semantics.specs.Ground.{numbered, numbered_effect}
use Rattle.kp_ground_flatten.specs.Literals.{lit_view}
use Rattle.kp_ground.specs.Made.{with_made, made_effect}
use Rattle.kp_ground.proofs.numbered.NumberingSink.take.Goals as goal

pub returns : goal.returns
returns c =
    let atoms = c.self.inside.atoms.now in
    let told : FlatEffect = record { cond = map lit_view c.args.conds.now; result = lit_view c.args.made.now } in
    let made : Effect = record { cond = c.in_ok-set_by_number.field-0; result = c.by_number.result } in
    let same : made ≡ numbered_effect atoms told =
    ap₂ (λ s r. (let e : Effect = record { cond = s; result = r } in e))
    (c.in_ok-set_by_number.ensures ∙ ap set_of (sym (map_map lit_view (numbered atoms) (λ l. numbered atoms (lit_view l)) c.args.conds.now (λ l. refl))))
    c.by_number.ensures
    in
    rw (← c.self.view_is) (c.in_ok-add.ensures ∙ ap (λ (e : Effect). (atoms, with_made (map made_effect c.self.inside.made.keys ++ c.self.inside.rising) e)) same)
