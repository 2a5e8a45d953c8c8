use Rattle.std.proofs.Common.{List, subst}
use Rattle.kp_base.specs.declared.ground.GroundName.{GroundName}
use Rattle.kp_plans.specs.WordTables.{IsTableOf}
use Rattle.kp_tags_files.proofs.WholeFiles.{of_atoms}
use Rattle.kp_tags_files.proofs.reading.read_on.Goals as goal

pub returns : goal.returns
returns c =
    let table : IsTableOf c.in_ok-table.table c.args.ground.now.atoms = subst (λ (atoms : List GroundName). IsTableOf c.in_ok-table.table atoms) c.slice.ensures c.in_ok-table.ensures in
    of_atoms _ _ _ _ c.read_tokens-merges.result table c.read_tokens-merges.ensures
