use Rattle.std.proofs.Common.{◌∙◌, sym, ap, fold}
use Rattle.std.proofs.lemmas.Result.{on_ok_weaker}
use Rattle.kp_names_semantics.specs.Numbered.{Eff}
use Rattle.kp_names.specs.View.{cond_view, eff_view, lifted_view}
use Rattle.kp_ground_semantics.specs.Flattening.{flat}
use Rattle.kp_ground_instances.proofs.Public.{view_of_when}
use Rattle.kp_ground_flatten.proofs.walking.hand_tree.Goals as goal

pub returns-in-When-clause-taken : goal.returns-in-When-clause-taken
returns-in-When-clause-taken g c =
    let l = lifted_view c.args.statics.now in
    let b = c.args.objects.now.items in
    let same = ap (λ e. flat l b (Eff.when (cond_view c.in-When.cond) (eff_view e))) c.deref.ensures ∙ ap (flat l b) (sym (ap eff_view c.in-When.is ∙ view_of_when c.in-When.cond c.in-When.body)) in
    on_ok_weaker c.hand_when.result (λ e. e ∙ ap (fold g.S.Sink.takes c.args.sink.now) same) c.hand_when.ensures.taken
