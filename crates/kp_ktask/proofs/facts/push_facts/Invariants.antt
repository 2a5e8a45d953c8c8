use Rattle.std.proofs.Common.{◌≡◌, ◌++◌, drop}
use Rattle.std.specs.List.{flat_map}
use Rattle.kp_write.specs.Facts.{facts_of_atom}
use Rattle.kp_ktask.proofs.facts.push_facts.Given as goal

-- with the atoms that are left come all
abbrev pub invariant-loop-name : goal.invariant-loop-name
invariant-loop-name l = l.row ++ flat_map (facts_of_atom l.tag) (drop l.name-index l.atoms) ≡ l.fn.row ++ flat_map (facts_of_atom l.tag) l.atoms
