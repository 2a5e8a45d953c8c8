use Rattle.std.proofs.Common.{◌≡◌, ◌==◌, ℕ, ◌||◌, drop}
use Rattle.std.specs.List.{list_any}
use Rattle.kp_ground_instances.specs.StaticTables.{has_number}
use Rattle.kp_ground_instances.proofs.changed.add_literals.Given as goal

-- with the literals that are left come all
abbrev pub invariant-loop-literal : goal.invariant-loop-literal
invariant-loop-literal l = (q : ℕ) → (has_number l.preds.keys q || list_any (λ m. m.pred == q) (drop l.literal-index l.literals)) ≡ (has_number l.fn.preds.keys q || list_any (λ m. m.pred == q) l.literals)
