use Rattle.std.proofs.Common.{◌||◌, sym, ap, ◌∙◌, arith}
use Rattle.std.specs.List.{list_any}
use Rattle.std.proofs.Math.Bool.{or-false}
use Rattle.std.proofs.lemmas.List.{at_drop_all}
use Rattle.kp_names.specs.View.{eff_view}
use Rattle.kp_ground_semantics.specs.Static.{changes}
use Rattle.kp_ground_instances.specs.StaticTables.{has_number}
use Rattle.kp_ground_instances.proofs.Views.{all_change}
use Rattle.kp_ground_instances.proofs.changed.+add_effect.Goals as goal

pub returns-after-loop-part : goal.returns-after-loop-part
returns-after-loop-part t c = record {
  each = λ q.
      let old = c.args.preds.now.keys in
      let new = c.loop-part.preds.keys in
      let items = c.slice-part-items.result.now in
      sym (or-false (has_number new q))
      ∙ (ap (λ b. has_number new q || b) (sym (at_drop_all (list_any (λ e. changes q (eff_view e))) items c.loop-part.part-index (omega arith)))
      ∙ (c.loop-part.invariant q ∙ ap (λ b. has_number old q || b) (all_change q items c.in-All.parts c.args.effect.now c.slice-part-items.ensures c.in-All.is)));
}
