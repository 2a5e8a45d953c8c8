use Rattle.std.proofs.Common.{Err, subst}
use Rattle.kp_base.specs.declared.limits.Limits.{Limits}
use Rattle.kp_primes.specs.Held.{formula}
use Rattle.kp_tags.specs.Made.{IsMade, AnswersMade}
use Rattle.kp_run_inputs.specs.SourceTables.{by_mode}
use Rattle.kp_run_inputs.proofs.Ended.{no_mode_table}
use Rattle.kp_run_inputs.proofs.Relevances.{pairs_of}
use Rattle.kp_run_inputs.proofs.tables.table_in.Goals as goal

pub make-requires-clause-relevance : goal.make-requires-clause-relevance
make-requires-clause-relevance c = pairs_of c.args.related.now

-- there is a table
pub returns-in-Ok : goal.returns-in-Ok
returns-in-Ok c =
    let x = c.args.related.now.prepared in
    by_mode c.args.mode c.in-Ok.table (subst (λ (m : Limits). IsMade c.args.mode m x.ground (formula x.primes) c.in-Ok.table) c.usual.ensures c.in-Ok.ensures)

-- there is none
pub returns-in-Err : goal.returns-in-Err
returns-in-Err c =
    let x = c.args.related.now.prepared in
    no_mode_table x.ground (formula x.primes) c.args.mode c.in-Err.stop (subst (λ (m : Limits). AnswersMade c.args.mode m x.ground (formula x.primes) (Err c.in-Err.stop)) c.usual.ensures c.in-Err.ensures) c.ended_in.result c.ended_in.ensures
