use Rattle.std.proofs.Common.{◌≡◌, List, sym, ap, ◌∙◌}
use Rattle.std.specs.List.{flat_map}
use Rattle.std.proofs.lemmas.List.Sums.{fold-append}
use Rattle.kp_names.specs.View.{cond_view, eff_view, lifted_view}
use Rattle.kp_base.specs.Atoms.{Atom}
use Rattle.kp_ground_semantics.specs.Static.{remaining}
use Rattle.kp_ground_semantics.specs.Flattening.{flat}
use Rattle.kp_ground_semantics.specs.Ground.{effect_literals}
use Rattle.kp_ground.specs.Gathered.{with_literal, gather}
use Rattle.kp_ground.specs.declared.effect_atoms.EffectAtoms.{EffectAtoms}
use Rattle.kp_ground.proofs.Taken.{all_atoms}
use Rattle.kp_ground.proofs.occurring.add_schema.Goals as goal

pub returns-clause-limit : goal.returns-clause-limit
returns-clause-limit c =
    let fs = flat (lifted_view c.args.statics.now) c.args.objects.now (eff_view c.args.schema.now.effect) in
    let mid : EffectAtoms = record { atoms = c.add_literals.new.atoms; limit = c.args.into.now.limit } in
    ap (λ (g : EffectAtoms). g.limit) (c.in_ok-hand_over.ensures ∙ all_atoms mid fs)

-- the atoms of the precondition come, and then those of the effects
pub returns-clause-atoms : goal.returns-clause-atoms
returns-clause-atoms c =
    let l = lifted_view c.args.statics.now in
    let os = c.args.objects.now in
    let limit = c.args.into.now.limit in
    let old = c.args.into.now.atoms in
    let fs = flat l os (eff_view c.args.schema.now.effect) in
    let mid : EffectAtoms = record { atoms = c.add_literals.new.atoms; limit = limit } in
    let first : c.add_literals.new.atoms ≡ gather limit old (remaining l os (cond_view c.args.schema.now.pre)) = c.in_ok-add_literals.ensures ∙ ap (gather limit old) (c.slice.ensures ∙ c.in_ok-pre.ensures) in
    ap (λ (g : EffectAtoms). g.atoms) (c.in_ok-hand_over.ensures ∙ all_atoms mid fs)
    ∙ (ap (λ (as' : List Atom). gather limit as' (flat_map effect_literals fs)) first
    ∙ sym (fold-append (with_literal limit) old (remaining l os (cond_view c.args.schema.now.pre)) (flat_map effect_literals fs)))
