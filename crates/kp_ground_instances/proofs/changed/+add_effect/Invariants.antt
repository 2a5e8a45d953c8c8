use Rattle.std.proofs.Common.{◌≡◌, ℕ, ◌||◌, drop}
use Rattle.std.specs.List.{list_any}
use Rattle.kp_names.specs.View.{eff_view}
use Rattle.kp_ground_semantics.specs.Static.{changes}
use Rattle.kp_ground_instances.specs.StaticTables.{has_number}
use Rattle.kp_ground_instances.proofs.changed.+add_effect.Given as goal

-- with the parts that are left come all
abbrev pub invariant-loop-part : goal.invariant-loop-part
invariant-loop-part l = (q : ℕ) → (has_number l.preds.keys q || list_any (λ e. changes q (eff_view e)) (drop l.part-index l.part-items)) ≡ (has_number l.fn.preds.keys q || list_any (λ e. changes q (eff_view e)) l.part-items)
