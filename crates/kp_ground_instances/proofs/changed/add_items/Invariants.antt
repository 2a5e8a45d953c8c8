use Rattle.std.proofs.Common.{◌≡◌, ℕ, not, ◌||◌, drop}
use Rattle.std.specs.List.{list_any}
use Rattle.kp_ground_semantics.specs.Static.{leaves_static}
use Rattle.kp_ground_instances.specs.StaticTables.{has_number}
use Rattle.kp_ground_instances.proofs.changed.add_items.Given as goal

-- with the items that are left come all
abbrev pub invariant-loop-item : goal.invariant-loop-item
invariant-loop-item l = (q : ℕ) → (has_number l.preds.keys q || list_any (λ i. not (leaves_static q i)) (drop l.item-index l.items)) ≡ (has_number l.fn.preds.keys q || list_any (λ i. not (leaves_static q i)) l.items)
