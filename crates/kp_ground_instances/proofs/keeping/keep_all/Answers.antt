use Rattle.std.proofs.Common.{◌≡◌, ◌<◌, ◌+◌, ◌∷◌, ◌++◌, [], true, map, length, slice_get, Some, sym, ap, subst, ◌∙◌, arith}
use Rattle.std.proofs.lemmas.List.{length-map}
use Rattle.kp_base.specs.Lists.{only_if}
use Rattle.kp_names_semantics.specs.Lifted.{bindings}
use Rattle.kp_names.specs.View.{schema_view, lifted_view}
use Rattle.kp_ground_semantics.specs.Static.{settled}
use Rattle.kp_ground_semantics.specs.Ground.{instance, kept_bindings}
use Rattle.kp_ground_instances.specs.Counts.{kept_view}
use Rattle.kp_ground_instances.specs.StaticTables.{Gathers}
use Rattle.kp_ground_instances.proofs.KeptRest.{kept_rest, rest_next, still_all, too_many}
use Rattle.kp_ground_instances.proofs.keeping.keep_all.Goals as goal

-- this one comes, or is one too many, and the others are left
pub returns-then-not-branch : goal.returns-then-not-branch
returns-then-not-branch c =
    let l = lifted_view c.args.statics.now in
    let a = schema_view c.args.schema.now in
    let os = c.deref.result.now in
    let old = map kept_view c.loop-place.kept in
    let this = only_if (settled l os a.pre) (instance c.args.number os ∷ []) in
    let at : slice_get (bindings a.params) c.loop-place.place ≡ Some os = ap (λ ps. slice_get (bindings ps) c.loop-place.place) (sym c.slice-params.ensures) ∙ (c.in_ok-fill_binding.ensures ∙ ap Some (sym c.deref.ensures.value)) in
    let over : c.args.most < length old + length this = subst (Gathers c.args.most old this (map kept_view c.keep.new.kept)) c.if-not-branch.true c.in_ok-keep.ensures in
    too_many c.args.most old this (kept_rest l c.args.number a (c.loop-place.place + 1)) (map kept_view c.args.kept.now) (map (instance c.args.number) (kept_bindings l a)) over
    (ap (λ r. old ++ r) (sym (rest_next l c.args.number a c.loop-place.place os at)) ∙ c.loop-place.invariant.so_far)

pub loop-place-preserved : goal.loop-place-preserved
loop-place-preserved c =
    let l = lifted_view c.args.statics.now in
    let a = schema_view c.args.schema.now in
    let os = c.deref.result.now in
    let old = map kept_view c.loop-place.kept in
    let this = only_if (settled l os a.pre) (instance c.args.number os ∷ []) in
    let at : slice_get (bindings a.params) c.loop-place.place ≡ Some os = ap (λ ps. slice_get (bindings ps) c.loop-place.place) (sym c.slice-params.ensures) ∙ (c.in_ok-fill_binding.ensures ∙ ap Some (sym c.deref.ensures.value)) in
    let come : Gathers c.args.most old this (map kept_view c.keep.new.kept) true = subst (Gathers c.args.most old this (map kept_view c.keep.new.kept)) c.if-not-branch.false c.in_ok-keep.ensures in
    let few = come.1 in
    record {
      few = omega (arith, length-map c.keep.new.kept kept_view);
      so_far =
          still_all old this (map kept_view c.keep.new.kept) (kept_rest l c.args.number a (c.loop-place.place + 1)) (map kept_view c.args.kept.now ++ map (instance c.args.number) (kept_bindings l a)) come.0
          (ap (λ r. old ++ r) (sym (rest_next l c.args.number a c.loop-place.place os at)) ∙ c.loop-place.invariant.so_far);
    }
