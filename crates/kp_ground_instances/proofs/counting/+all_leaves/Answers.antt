use Rattle.std.proofs.Common.{◌≡◌, ◌≤◌, ◌-◌, ◌^◌, ap, sym, ◌∙◌, sum_by, map, length, arith}
use Rattle.std.proofs.lemmas.List.{take_all}
use Rattle.kp_names_semantics.specs.Lifted.{bindings}
use Rattle.kp_names.specs.View.{effs_of, cond_view, eff_view}
use Rattle.kp_ground_semantics.specs.Weights.{leaves_weight, all_leaves_weight}
use Rattle.kp_ground_instances.specs.Counts.{capped}
use Rattle.kp_ground_instances.proofs.Views.{eff_all, eff_when, eff_each, effs_sum}
use Rattle.kp_ground_instances.proofs.Weights.{cap_or_leaf, when_leaves, each_leaves}
use Rattle.kp_ground_instances.proofs.counting.+all_leaves.Goals as goal

pub returns-after-loop-part : goal.returns-after-loop-part
returns-after-loop-part t c =
    let items = c.slice-part-items.result.now in
    let leaf = c.args.leaf in
    let small : leaf ≤ 2 ^ 128 - 1 = omega arith in
    let parts : c.loop-part.within ≡ capped (all_leaves_weight leaf (effs_of (map eff_view c.in-All.parts))) =
    c.loop-part.invariant
    ∙ (ap (λ es. capped (sum_by (λ e. leaves_weight leaf (eff_view e)) es)) (take_all c.loop-part.part-index items (omega arith))
    ∙ (ap capped (sym (effs_sum leaf items)) ∙ ap (λ es. capped (all_leaves_weight leaf (effs_of (map eff_view es)))) c.slice-part-items.ensures)) in
    c.or_leaf.ensures
    ∙ (cap_or_leaf (2 ^ 128 - 1) leaf (all_leaves_weight leaf (effs_of (map eff_view c.in-All.parts))) c.loop-part.within (omega arith) small parts
    ∙ ap (λ e. capped (leaves_weight leaf e)) (sym (eff_all c.in-All.parts) ∙ ap eff_view (sym c.in-All.is)))

pub returns-in-When : goal.returns-in-When
returns-in-When t c =
    let leaf = c.args.leaf in
    c.all_leaves-in-When.ensures
    ∙ (ap (λ e. capped (leaves_weight c.saturating_add.result (eff_view e))) c.deref.ensures
    ∙ (when_leaves (2 ^ 128 - 1) leaf c.condition_size.result c.saturating_add.result (cond_view c.in-When.cond) (eff_view c.in-When.body.value) (omega arith) c.condition_size.ensures c.saturating_add.ensures
    ∙ ap (λ e. capped (leaves_weight leaf e)) (sym (eff_when c.in-When.cond c.in-When.body) ∙ ap eff_view (sym c.in-When.is))))

pub returns-in-Each : goal.returns-in-Each
returns-in-Each t c =
    let leaf = c.args.leaf in
    let small : leaf ≤ 2 ^ 128 - 1 = omega arith in
    let number : c.binding_number-number.result ≡ capped (length (bindings c.in-Each.ranges)) = c.binding_number-number.ensures ∙ ap (λ rs. capped (length (bindings rs))) c.slice.ensures in
    let body : c.all_leaves-in-Each.result ≡ capped (leaves_weight leaf (eff_view c.in-Each.body.value)) = c.all_leaves-in-Each.ensures ∙ ap (λ e. capped (leaves_weight leaf (eff_view e))) c.deref-in-Each.ensures in
    c.or_leaf-in-Each.ensures
    ∙ (each_leaves (2 ^ 128 - 1) leaf c.binding_number-number.result c.all_leaves-in-Each.result c.saturating_mul.result c.in-Each.ranges (eff_view c.in-Each.body.value) (omega arith) small number body c.saturating_mul.ensures
    ∙ ap (λ e. capped (leaves_weight leaf e)) (sym (eff_each c.in-Each.ranges c.in-Each.body) ∙ ap eff_view (sym c.in-Each.is)))
