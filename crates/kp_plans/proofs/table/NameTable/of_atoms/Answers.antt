use Rattle.std.proofs.Common.{List, map, drop, ap}
use Rattle.std.specs.List.{position_from}
use Rattle.std.proofs.lemmas.List.{drop_all}
use Rattle.kp_base.specs.declared.ground.GroundName.{GroundName}
use Rattle.kp_names_semantics.specs.Names.{same}
use Rattle.kp_names_semantics.specs.Encoding.{encoded}
use Rattle.kp_plans.proofs.Tabled.{is_table}
use Rattle.kp_plans.proofs.table.NameTable.of_atoms.Goals as goal

-- none is left
pub returns : goal.returns
returns c =
    is_table c.loop-number.table (c.args.atoms.now) (λ x. position_from (same x) c.loop-number.number (map encoded (drop c.loop-number.number c.args.atoms.now)))
    (λ x. ap (λ (ns : List GroundName). position_from (same x) c.loop-number.number (map encoded ns)) (drop_all c.loop-number.number c.args.atoms.now c.loop-number-test.false)) c.loop-number.invariant
