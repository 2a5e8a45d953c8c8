use Rattle.std.proofs.Common.{◌||◌, not, ap₂, ◌∙◌}
use Rattle.std.specs.List.{list_any}
use Rattle.kp_names.specs.View.{eff_view}
use Rattle.kp_ground_semantics.specs.Static.{changes, leaves_static}
use Rattle.kp_ground_instances.specs.StaticTables.{has_number}
use Rattle.kp_ground_instances.proofs.Tables.{changed_are}
use Rattle.kp_ground_instances.proofs.changed.changed_predicates.Goals as goal

pub returns : goal.returns
returns c q =
    c.in_ok-add_items.ensures.each q
    ∙ (ap₂ (λ b is. b || list_any (λ i. not (leaves_static q i)) is) (c.in_ok-add_schemas.ensures.each q ∙ ap₂ (λ ks xs. has_number ks q || list_any (λ a. changes q (eff_view a.effect)) xs) c.new-preds.ensures.empty c.slice.ensures) c.slice-2.ensures
    ∙ changed_are c.args.lifted.now q)
