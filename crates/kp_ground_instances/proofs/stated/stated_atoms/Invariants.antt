use Rattle.std.proofs.Common.{◌≡◌, ℕ, ◌||◌, List, drop}
use Rattle.std.specs.List.{list_any}
use Rattle.kp_ground_semantics.specs.Static.{says}
use Rattle.kp_ground_instances.specs.StaticTables.{has_atom}
use Rattle.kp_ground_instances.proofs.stated.stated_atoms.Given as goal

-- with the items that are left come all
abbrev pub invariant-loop-item : goal.invariant-loop-item
invariant-loop-item l = (q : ℕ) (os : List ℕ) → (has_atom l.atoms q os || list_any (says q os) (drop l.item-index l.item-items)) ≡ list_any (says q os) l.item-items
