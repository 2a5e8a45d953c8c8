use Rattle.std.proofs.Common.{◌≡◌, ◌∙◌, refl, sym, ap, ◌++◌, map, fold, take, flat_map, arith}
use Rattle.std.proofs.lemmas.Grind.{common_steps}
use Rattle.std.proofs.lemmas.Result.{on_ok_weaker}
use Rattle.kp_base.proofs.Places.{one_more_taken}
use Rattle.kp_names_semantics.specs.Lifted.{bindings}
use Rattle.kp_names.specs.View.{eff_view, lifted_view}
use Rattle.kp_ground_semantics.specs.Flattening.{flat}
use Rattle.kp_ground_instances.proofs.Public.{view_of_all, view_of_each}
use Rattle.kp_ground_flatten.proofs.Meaning.{flat_parts}
use Rattle.kp_ground_flatten.proofs.Walks.{one_more}
use Rattle.kp_ground_flatten.proofs.walking.+walks.Goals as goal

pub walk-returns-after-parts-clause-taken : goal.walk-returns-after-parts-clause-taken
walk-returns-after-parts-clause-taken g t c =
    let l = lifted_view c.args.statics.now in
    let b = c.args.objects.now.items in
    let all : c.parts.sink ≡ fold g.S.Sink.takes c.args.sink.now (flat_map (flat l b) (map eff_view c.slice-part-items.result.now)) = grind (arith, common_steps, c.parts.invariant.so_far) in
    all
    ∙ ap (fold g.S.Sink.takes c.args.sink.now)
    (ap (λ es. flat_map (flat l b) (map eff_view es)) c.slice-part-items.ensures
    ∙ sym (ap (λ z. flat l b (eff_view z)) c.in-All.is ∙ (ap (flat l b) (view_of_all c.in-All.parts) ∙ flat_parts l b (map eff_view c.in-All.parts))))

pub walk-returns-in-Each-clause-taken : goal.walk-returns-in-Each-clause-taken
walk-returns-in-Each-clause-taken g t c =
    let l = lifted_view c.args.statics.now in
    let b = c.args.objects.now.items in
    let whole =
    ap (λ e. flat_map (λ os. flat l (b ++ os) (eff_view e)) (bindings c.slice.result.now)) c.deref.ensures
    ∙ (ap (λ rs. flat_map (λ os. flat l (b ++ os) (eff_view c.in-Each.body.value)) (bindings rs)) c.slice.ensures
    ∙ sym (ap (λ z. flat l b (eff_view z)) c.in-Each.is ∙ ap (flat l b) (view_of_each c.in-Each.ranges c.in-Each.body)))
    in
    on_ok_weaker c.walk_each.result (λ e. e ∙ ap (fold g.S.Sink.takes c.args.sink.now) whole) c.walk_each.ensures.taken

-- what comes of the body under one list more
pub walk_each-numbers-preserved : goal.walk_each-numbers-preserved
walk_each-numbers-preserved g t c =
    let l = lifted_view c.args.statics.now in
    let b = c.args.objects.now.items in
    let e = eff_view c.args.eff.now in
    let bs = bindings c.args.ranges.now in
    let n = c.numbers.number in
    let os = c.fill_binding.new.objects.items in
    let here = c.numbers.invariant in
    let given = c.as_slice.result.now in
    record {
      binding = c.in_ok-walk_inner.ensures.binding ∙ here.binding;
      so_far =
          c.in_ok-walk_inner.ensures.taken
          ∙ (ap (λ z. fold g.S.Sink.takes c.numbers.sink (flat l (z ++ given) e)) here.binding
          ∙ (ap (λ z. fold g.S.Sink.takes c.numbers.sink (flat l (b ++ z) e)) c.as_slice.ensures.value
          ∙ (ap (λ s. fold g.S.Sink.takes s (flat l (b ++ os) e)) here.so_far
          ∙ (one_more g.S.Sink.takes c.args.sink.now (λ ps. flat l (b ++ ps) e) (take n bs) os
          ∙ ap (λ ps. fold g.S.Sink.takes c.args.sink.now (flat_map (λ ps. flat l (b ++ ps) e) ps)) (one_more_taken bs (take n bs) n os c.in_ok-fill_binding.ensures refl)))));
    }
