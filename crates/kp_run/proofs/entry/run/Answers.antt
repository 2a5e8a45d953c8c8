use Rattle.std.proofs.Common.{Err, refl, ap}
use Rattle.kp_run_outcome.proofs.Public.{carried_out_from_earlier}
use Rattle.kp_run.specs.Ends.{came}
use Rattle.kp_run.proofs.Answered.{outcomes_are_answers}
use Rattle.kp_run.proofs.Soundness.{sound_end}
use Rattle.kp_run.proofs.Completeness.{loses_none}
use Rattle.kp_run.proofs.Solved.{solve_true}
use Rattle.kp_run.proofs.SolvedClassical.{classical_true}
use Rattle.kp_run.proofs.Ending.{stopped_end}
use Rattle.kp_run.proofs.entry.run.Goals as goal

pub carry_out-requires : goal.carry_out-requires
carry_out-requires g c = outcomes_are_answers c.args.words.now (g.S.Shelf.contents c.args.shelf.now) c.in-Ok.outcome c.in-Ok.ensures.due

-- the outcome is carried out
pub returns-in-Ok-clause-ends : goal.returns-in-Ok-clause-ends
returns-in-Ok-clause-ends g c = came c.in-Ok.outcome c.in-Ok.ensures.due (carried_out_from_earlier c.in-Ok.outcome _ _ _ (record { gets = c.in-Ok.ensures.only.get_faults (λ e. cc); puts = c.in-Ok.ensures.only.put_faults; writes = refl }) (record { held = c.in-Ok.ensures.only.contents; told = refl }) c.carry_out.result c.carry_out.ensures.ends)

pub returns-in-Ok-clause-sound : goal.returns-in-Ok-clause-sound
returns-in-Ok-clause-sound g c = sound_end c.args.words.now _ _ c.carry_out.result (returns-in-Ok-clause-ends g c)

-- there is none
pub returns-in-Err-clause-ends : goal.returns-in-Err-clause-ends
returns-in-Err-clause-ends g c = rw c.stopped.ensures (stopped_end c.args.words.now _ _ c.in-Err.stop (λ is. c.in-Err.ensures.only.failed (ap Err is)) (λ is. c.in-Err.ensures.only.get_faults (λ e. cc (is, e))) c.in-Err.ensures.only.put_faults refl (record { held = c.in-Err.ensures.only.contents; told = refl }))

pub returns-in-Ok-clause-complete : goal.returns-in-Ok-clause-complete
returns-in-Ok-clause-complete g c command is = loses_none c.args.words.now _ _ c.carry_out.result (returns-in-Ok-clause-ends g c) command is

pub returns-in-Err-clause-complete : goal.returns-in-Err-clause-complete
returns-in-Err-clause-complete g c command is = loses_none c.args.words.now _ _ _ (returns-in-Err-clause-ends g c) command is

pub returns-in-Ok-clause-solve : goal.returns-in-Ok-clause-solve
returns-in-Ok-clause-solve g c m command held is = solve_true c.args.words.now _ _ c.carry_out.result (returns-in-Ok-clause-ends g c) m command held is

pub returns-in-Err-clause-solve : goal.returns-in-Err-clause-solve
returns-in-Err-clause-solve g c m command held is = solve_true c.args.words.now _ _ _ (returns-in-Err-clause-ends g c) m command held is

pub returns-in-Ok-clause-classical : goal.returns-in-Ok-clause-classical
returns-in-Ok-clause-classical g c m command held is = classical_true c.args.words.now _ _ c.carry_out.result (returns-in-Ok-clause-ends g c) m command held is

pub returns-in-Err-clause-classical : goal.returns-in-Err-clause-classical
returns-in-Err-clause-classical g c m command held is = classical_true c.args.words.now _ _ _ (returns-in-Err-clause-ends g c) m command held is
