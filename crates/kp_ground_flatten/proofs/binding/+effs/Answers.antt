use Rattle.std.proofs.Common.{◌≡◌, ◌++◌, ◌∷◌, [], ◌∙◌, refl, sym, ap, map, take, arith}
use Rattle.std.proofs.lemmas.List.{map_push}
use Rattle.kp_base.proofs.Places.{one_more_taken}
use Rattle.kp_names_semantics.specs.Lifted.{object_of, bindings}
use Rattle.kp_names.specs.View as owned
use Rattle.kp_ground_flatten.specs.Bound.{bound_eff}
use Rattle.kp_ground_flatten.specs.Nodes.{eff_view}
use Rattle.kp_ground_flatten.proofs.Views.{all_effs, eff_atom_bound, each_bound}
use Rattle.kp_ground_flatten.proofs.binding.+effs.Goals as goal

pub effect-returns-in_ok-effects-in-All-clause-bound : goal.effect-returns-in_ok-effects-in-All-clause-bound
effect-returns-in_ok-effects-in-All-clause-bound t c =
    let b = c.args.objects.now.items in
    all_effs b c.in_ok-effects-in-All.field-0 c.in-All.parts (c.in_ok-effects-in-All.ensures.bound ∙ ap (λ z. map (bound_eff b) (map owned.eff_view z)) c.slice.ensures)
    ∙ ap (λ z. bound_eff b (owned.eff_view z)) (sym c.in-All.is)

pub effect-returns-in_ok-bodies-in-Each-clause-bound : goal.effect-returns-in_ok-bodies-in-Each-clause-bound
effect-returns-in_ok-bodies-in-Each-clause-bound t c =
    let b = c.args.objects.now.items in
    let bodies : map eff_view c.in_ok-bodies-in-Each.field-0.now ≡ map (λ os. bound_eff (b ++ os) (owned.eff_view c.in-Each.body.value)) (bindings c.slice-ranges.result.now) = grind (arith, c.in_ok-bodies-in-Each.ensures) in
    each_bound b c.in_ok-bodies-in-Each.field-0 c.in-Each.ranges c.in-Each.body
    (bodies ∙ ap (λ rs. map (λ os. bound_eff (b ++ os) (owned.eff_view c.in-Each.body.value)) (bindings rs)) c.slice-ranges.ensures)
    ∙ ap (λ z. bound_eff b (owned.eff_view z)) (sym c.in-Each.is)

pub effect-returns-in_ok-bound_terms-in-Atom-clause-bound : goal.effect-returns-in_ok-bound_terms-in-Atom-clause-bound
effect-returns-in_ok-bound_terms-in-Atom-clause-bound t c =
    let b = c.args.objects.now.items in
    eff_atom_bound b c.in-Atom.positive c.in-Atom.pred c.in_ok-bound_terms-in-Atom.field-0 c.in-Atom.terms (c.in_ok-bound_terms-in-Atom.ensures ∙ (ap (λ z. map (object_of z) c.slice-in-Atom.result.now) c.as_slice-in-Atom.ensures.value ∙ ap (map (object_of b)) c.slice-in-Atom.ensures))
    ∙ ap (λ z. bound_eff b (owned.eff_view z)) (sym c.in-Atom.is)

-- the body is bound under one list more
pub bodies-numbers-preserved : goal.bodies-numbers-preserved
bodies-numbers-preserved t c =
    let b = c.args.objects.now.items in
    let e = owned.eff_view c.args.eff.now in
    let bs = bindings c.args.ranges.now in
    let n = c.numbers.number in
    let os = c.fill_binding.new.objects.items in
    let here = c.numbers.invariant in
    let one = c.in_ok-body.ensures.bound ∙ (ap (λ z. bound_eff (z ++ c.as_slice.result.now) e) here.kept ∙ ap (λ z. bound_eff (b ++ z) e) c.as_slice.ensures.value) in
    record {
      kept = c.in_ok-body.ensures.kept ∙ here.kept;
      so_far =
          ap (map eff_view) c.in_ok-push.ensures.items
          ∙ (map_push eff_view c.numbers.bound.items c.in_ok-body.field-0
          ∙ (ap (λ z. map eff_view c.numbers.bound.items ++ z ∷ []) one
          ∙ (ap (λ z. z ++ bound_eff (b ++ os) e ∷ []) here.so_far
          ∙ (sym (map_push (λ ps. bound_eff (b ++ ps) e) (take n bs) os)
          ∙ ap (map (λ ps. bound_eff (b ++ ps) e)) (one_more_taken bs (take n bs) n os c.in_ok-fill_binding.ensures refl)))));
    }
