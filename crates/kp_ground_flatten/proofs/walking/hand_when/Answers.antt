use Rattle.std.proofs.Common.{◌≡◌, ◌∙◌, sym, ap, true, false, [], map, fold}
use Rattle.std.proofs.lemmas.Result.{on_ok_weaker}
use Rattle.kp_base.specs.Lists.{only_if}
use Rattle.kp_names.specs.View as owned
use Rattle.kp_ground_semantics.specs.Static.{settled, remaining}
use Rattle.kp_ground_semantics.specs.Flattening.{under, flat}
use Rattle.kp_ground_flatten.specs.Bound.{bound_cond}
use Rattle.kp_ground_flatten.specs.Nodes.{cond_view, eff_view}
use Rattle.kp_names.specs.View.{lifted_view}
use Rattle.kp_ground_flatten.proofs.Meaning.{split_bound, flat_bound}
use Rattle.kp_ground_flatten.proofs.walking.hand_when.Goals as goal

-- a false condition leaves nothing
pub returns-then-not-is_settled-clause-taken : goal.returns-then-not-is_settled-clause-taken
returns-then-not-is_settled-clause-taken g c =
    let l = lifted_view c.args.statics.now in
    let b = c.args.objects.now.items in
    let cond = owned.cond_view c.args.cond.now in
    let bound : cond_view c.in_ok-guard.guard ≡ bound_cond b cond = c.in_ok-guard.ensures ∙ ap (λ z. bound_cond z cond) c.as_slice.ensures.value in
    let is_false : settled l b cond ≡ false = sym (split_bound l b cond).settled_alike ∙ (sym (ap (settled l []) bound) ∙ (sym c.is_settled.ensures ∙ c.if-not-is_settled.true)) in
    sym (ap (λ t. fold g.S.Sink.takes c.args.sink.now (only_if t (map (under (remaining l b cond)) (flat l b (owned.eff_view c.args.body.now))))) is_false)

-- under a true one come the effects of the body, with its other literals
pub returns-clause-taken : goal.returns-clause-taken
returns-clause-taken g c =
    let l = lifted_view c.args.statics.now in
    let b = c.args.objects.now.items in
    let cond = owned.cond_view c.args.cond.now in
    let eff = owned.eff_view c.args.body.now in
    let fs = flat l [] (eff_view c.in_ok-tree.tree) in
    let bound : cond_view c.in_ok-guard.guard ≡ bound_cond b cond = c.in_ok-guard.ensures ∙ ap (λ z. bound_cond z cond) c.as_slice.ensures.value in
    let split = split_bound l b cond in
    let is_true : settled l b cond ≡ true = sym split.settled_alike ∙ (sym (ap (settled l []) bound) ∙ (sym c.is_settled.ensures ∙ c.if-not-is_settled.false)) in
    let whole =
    ap (λ z. map (under (remaining l [] z)) fs) bound
    ∙ (ap (λ z. map (under z) fs) split.remaining_alike
    ∙ (ap (λ z. map (under (remaining l b cond)) (flat l [] z)) c.in_ok-tree.ensures.bound
    ∙ (ap (map (under (remaining l b cond))) (flat_bound l b eff)
    ∙ ap (λ t. only_if t (map (under (remaining l b cond)) (flat l b eff))) (sym is_true))))
    in
    on_ok_weaker c.hand_under.result (λ e. e ∙ ap (fold g.S.Sink.takes c.args.sink.now) whole) c.hand_under.ensures
