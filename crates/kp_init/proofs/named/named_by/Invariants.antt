use Rattle.std.proofs.Common.{◌≡◌, ◌||◌, drop}
use Rattle.std.specs.List.{list_any}
use Rattle.kp_base.specs.Atoms.{Atom}
use Rattle.kp_init.specs.NamedAtoms.{is_kept, is_named_by}
use Rattle.kp_init.proofs.named.named_by.Given as goal

-- with the items that are left come all
abbrev pub invariant-loop-item : goal.invariant-loop-item
invariant-loop-item l = (a : Atom) → (is_kept l.atoms.keys a || list_any (is_named_by a) (drop l.item-index l.items)) ≡ list_any (is_named_by a) l.items
