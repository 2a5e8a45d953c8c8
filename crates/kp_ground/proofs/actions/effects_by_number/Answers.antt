use Rattle.std.proofs.Common.{List, [], fold, ap, ◌∙◌}
use Rattle.kp_base.specs.declared.ground.Effect.{Effect}
use Rattle.kp_names.specs.View.{schema_view, eff_view, lifted_view}
use Rattle.kp_base.specs.Atoms.{Atom}
use Rattle.kp_ground_semantics.specs.Flattening.{flat}
use Rattle.kp_ground.proofs.Injective.{made_once}
use Rattle.kp_ground.proofs.Taken.{more_made, all_made}
use Rattle.kp_ground.proofs.actions.effects_by_number.Goals as goal

-- each effect comes once by number, as in the flat form
pub returns : goal.returns
returns c =
    let l = lifted_view c.args.statics.now in
    let atoms = c.args.atoms.now in
    let os = c.args.objects.now in
    let fs = flat l os (eff_view c.args.schema.now.effect) in
    c.in_ok-row.ensures
    ∙ (ap (λ (n : List Atom × List Effect). n.1) (c.in_ok-hand_over.ensures ∙ (ap (λ (n : List Atom × List Effect). fold more_made n fs) c.new-numbering.ensures ∙ all_made atoms [] fs))
    ∙ made_once l atoms (schema_view c.args.schema.now) os c.requires)
