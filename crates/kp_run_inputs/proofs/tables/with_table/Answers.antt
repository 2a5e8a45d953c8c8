use Rattle.std.proofs.Common.{sym, subst}
use Rattle.kp_primes.specs.Held.{formula}
use Rattle.kp_run_prepare.specs.Prepared.{IsPreparedOf}
use Rattle.kp_run_inputs.specs.SourceTables.{AnswersTable}
use Rattle.kp_run_inputs.proofs.Going.{tabled, not_tabled}
use Rattle.kp_run_inputs.proofs.Origins.{table_right, table_valid, table_targets}
use Rattle.kp_run_inputs.proofs.tables.with_table.Goals as goal

-- the table is that of some source
pub invariant_of-result : goal.invariant_of-result
invariant_of-result c =
    let m = c.in_ok-related.related.prepared in
    record {
      right = table_right m.ground (formula m.primes) c.args.origin c.requires m.of_atoms c.in-Ok.table c.table_of.result c.in-Ok.is c.table_of.ensures;
      valid = table_valid m.ground (formula m.primes) c.args.origin c.requires m.of_atoms c.in-Ok.table c.table_of.result c.in-Ok.is c.table_of.ensures;
      targets = table_targets m.ground (formula m.primes) c.args.origin c.requires m.of_atoms c.in-Ok.table c.table_of.result c.in-Ok.is c.table_of.ensures;
    }

-- there is a table
pub returns-in-Ok : goal.returns-in-Ok
returns-in-Ok c limit d p source merges ready origin =
    let m = c.in_ok-related.related.prepared in
    tabled limit d p source merges _ (subst (IsPreparedOf limit d p) (sym c.in_ok-related.ensures) ready) (subst (AnswersTable m.ground (formula m.primes) source merges) c.in-Ok.is (c.table_of.ensures source merges origin))

-- there is none
pub returns-in-Err : goal.returns-in-Err
returns-in-Err c limit d p source merges ready origin =
    let m = c.in_ok-related.related.prepared in
    not_tabled limit d p source merges m (subst (IsPreparedOf limit d p) (sym c.in_ok-related.ensures) ready) c.in-Err.early (subst (AnswersTable m.ground (formula m.primes) source merges) c.in-Err.is (c.table_of.ensures source merges origin))
