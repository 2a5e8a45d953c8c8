use Rattle.std.proofs.Common.{Err, subst}
use Rattle.kp_base.specs.declared.limits.Limits.{Limits}
use Rattle.kp_primes.specs.Held.{formula}
use Rattle.kp_tags.specs.Answers.{Accepts, AnswersTable}
use Rattle.kp_run_inputs.proofs.Ended.{ends_at_merges}
use Rattle.kp_run_inputs.proofs.tables.table_for.Goals as goal

-- the merges have a table
pub returns-in-Ok : goal.returns-in-Ok
returns-in-Ok c = subst (λ (m : Limits). Accepts c.args.prepared.now.primes.atoms (formula c.args.prepared.now.primes) c.args.merges.now m.tags c.in-Ok.table) c.usual.ensures c.in-Ok.ensures

-- they have none
pub returns-in-Err : goal.returns-in-Err
returns-in-Err c =
    let atoms = c.args.prepared.now.primes.atoms in
    let i = formula c.args.prepared.now.primes in
    ends_at_merges c.args.prepared.now.ground atoms i c.args.merges.now c.in-Err.stop (subst (λ (m : Limits). AnswersTable atoms i c.args.merges.now m.tags (Err c.in-Err.stop)) c.usual.ensures c.in-Err.ensures) c.ended_in.result c.ended_in.ensures
