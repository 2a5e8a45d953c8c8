use Rattle.std.proofs.Common.{subst}
use Rattle.kp_primes.specs.Held.{formula}
use Rattle.kp_run_inputs.specs.SourceTables.{IsOrigin}
use Rattle.kp_run_inputs.proofs.Ended.{of_mode_origin, of_file_origin}
use Rattle.kp_run_inputs.proofs.tables.table_of.Goals as goal

-- in a mode
pub returns-in-Mode : goal.returns-in-Mode
returns-in-Mode c source merges origin =
    let x = c.args.related.now.prepared in
    of_mode_origin x.ground (formula x.primes) c.in-Mode.mode c.table_in.result c.table_in.ensures source merges (subst (IsOrigin source merges) c.in-Mode.is origin)

-- with a file of merges
pub returns-in-Merges : goal.returns-in-Merges
returns-in-Merges c source merges origin =
    let x = c.args.related.now.prepared in
    of_file_origin x.ground (formula x.primes) c.in-Merges.merges c.table_with.result c.table_with.ensures source merges (subst (IsOrigin source merges) c.in-Merges.is origin)
