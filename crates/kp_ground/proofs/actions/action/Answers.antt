use Rattle.std.proofs.Common.{◌≡◌, ◌<◌, Some, length, slice_get, sym, ap, subst, ◌∙◌, arith}
use Rattle.std.proofs.lemmas.List.{length-map}
use Rattle.kp_names.specs.View.{schema_view, lifted_view}
use Rattle.kp_ground_instances.specs.Counts.{kept_view}
use Rattle.kp_ground_semantics.specs.Ground.{ground_pre, ground_effects}
use Rattle.kp_ground.specs.Passes.{IsKnown, name_with}
use Rattle.kp_ground.proofs.Kept.{below_of, schema_seen, known_of, action_is}
use Rattle.kp_ground.proofs.actions.action.Goals as goal

-- the problem that is handed out is that of the tables
pub name_of-requires : goal.name_of-requires
name_of-requires c =
    let below = subst (λ l. c.args.one.now.schema < length (lifted_view l).schemas) (sym c.lifted-lifted.ensures) (below_of (lifted_view c.args.statics.now) (kept_view c.args.one.now) c.requires.kept) in
    omega (arith, below, length-map c.lifted-lifted.result.now.schemas schema_view)

pub at-schema-requires : goal.at-schema-requires
at-schema-requires c =
    let below = subst (λ l. c.args.one.now.schema < length (lifted_view l).schemas) (sym c.lifted-lifted.ensures) (below_of (lifted_view c.args.statics.now) (kept_view c.args.one.now) c.requires.kept) in
    omega (arith, below, length-map c.lifted-lifted.result.now.schemas schema_view)

pub named-requires : goal.named-requires
named-requires c =
    let l = lifted_view c.args.statics.now in
    let a = schema_view c.at-schema.result.now in
    let seen = subst (λ m. slice_get (lifted_view m).schemas c.args.one.now.schema ≡ Some a) c.lifted-lifted.ensures (schema_seen c.lifted-lifted.result.now.schemas c.args.one.now.schema c.at-schema.result.now c.at-schema.ensures) in
    subst (λ os. IsKnown l c.args.atoms.now a os) (sym c.slice.ensures)
    (known_of l c.args.atoms.now (kept_view c.args.one.now) a c.requires.numbering c.requires.kept seen)

pub returns : goal.returns
returns c =
    let l = lifted_view c.args.statics.now in
    let a = schema_view c.at-schema.result.now in
    let seen = subst (λ m. slice_get (lifted_view m).schemas c.args.one.now.schema ≡ Some a) c.lifted-lifted.ensures (schema_seen c.lifted-lifted.result.now.schemas c.args.one.now.schema c.at-schema.result.now c.at-schema.ensures) in
    let called = subst (λ m. name_with (lifted_view m) c.args.one.now.schema c.args.one.now.objects ≡ Some c.in_ok-name.name) c.lifted-lifted.ensures c.in_ok-name.ensures in
    action_is l c.args.atoms.now (kept_view c.args.one.now) a c.in_ok-action.action
    seen
    (called ∙ ap Some (sym c.in_ok-action.ensures.name))
    (c.in_ok-action.ensures.pre ∙ ap (ground_pre l c.args.atoms.now a) c.slice.ensures)
    (c.in_ok-action.ensures.effects ∙ ap (ground_effects l c.args.atoms.now a) c.slice.ensures)
