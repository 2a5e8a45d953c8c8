use Rattle.std.proofs.Common.{◌≡◌, ℕ, ◌||◌, drop}
use Rattle.std.specs.List.{list_any}
use Rattle.kp_names.specs.View.{eff_view}
use Rattle.kp_ground_semantics.specs.Static.{changes}
use Rattle.kp_ground_instances.specs.StaticTables.{has_number}
use Rattle.kp_ground_instances.proofs.changed.add_schemas.Given as goal

-- with the schemas that are left come all
abbrev pub invariant-loop-schema : goal.invariant-loop-schema
invariant-loop-schema l = (q : ℕ) → (has_number l.preds.keys q || list_any (λ a. changes q (eff_view a.effect)) (drop l.schema-index l.schemas)) ≡ (has_number l.fn.preds.keys q || list_any (λ a. changes q (eff_view a.effect)) l.schemas)
