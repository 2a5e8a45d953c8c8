use Rattle.std.proofs.Common.{◌≡◌, ◌++◌, drop}
use Rattle.std.specs.List.{flat_map}
use Rattle.kp_init.specs.Initial.{item_clauses}
use Rattle.kp_init.proofs.clauses.clauses_of.Given as goal

-- with the items that are left come all
abbrev pub invariant-loop-item : goal.invariant-loop-item
invariant-loop-item l = l.clauses ++ flat_map (item_clauses l.atoms) (drop l.item-index l.items) ≡ flat_map (item_clauses l.atoms) l.items
