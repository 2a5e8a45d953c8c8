use Rattle.std.proofs.Common.{◌≡◌, ℕ, List, map, drop}
use Rattle.std.specs.List.{position_from}
use Rattle.std.specs.Option.{option_or}
use Rattle.kp_names_semantics.specs.Names.{same}
use Rattle.kp_names_semantics.specs.Encoding.{encoded}
use Rattle.kp_plans.specs.WordTables.{number_under}
use Rattle.kp_plans.proofs.table.NameTable.of_atoms.Given as goal

-- a word that the table doesn't tell stands first where it does among those that are left
abbrev pub invariant-loop-number : goal.invariant-loop-number
invariant-loop-number l = (x : List ℕ) → option_or (number_under l.table x) (position_from (same x) l.number (map encoded (drop l.number l.atoms))) ≡ position_from (same x) 0 (map encoded l.atoms)
