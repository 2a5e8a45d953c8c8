-- The outcome of a refusal, and how a command ends early.
use Rattle.std.specs.Prelude.{◌≡◌, []}
use Rattle.kp_base.specs.declared.ground.Ground.{Ground}
use Rattle.kp_base.specs.declared.refused.Refused.{Refused}
use Rattle.kp_base.specs.declared.refused.Stop.{Stop}
use Rattle.kp_base.specs.declared.refused.Stop.TheVariants as causes
use Rattle.kp_run_messages.specs.Refusals.{Nameable, refusal_text}
use Rattle.kp_run_outcome.specs.declared.outcome.Outcome.{Outcome}
use Rattle.kp_run_outcome.specs.declared.status.Status.TheVariants as status
use Rattle.kp_run_prepare.specs.declared.prepared.Early.{Early}
use Rattle.kp_run_prepare.specs.declared.prepared.Early.TheVariants as halts

-- a refusal is printed, with what it may name, and nothing is put
abbrev pub refuses : Nameable → Refused → Outcome
refuses names r = record { status = status.Refused r; puts = []; text = refusal_text names r }

-- what may be named of a ground problem
abbrev pub named_in : Ground → Nameable
named_in g = record { atoms = g.atoms; actions = g.actions; steps = [] }

-- where a call stopped, a command ends with the call's refusal, which may name this; or since memory ran out
abbrev pub EndsBy : Nameable → Stop → Early → Type 0
EndsBy names stop halts.Memory = Unit {0}
EndsBy names (causes.Refused r) (halts.With o) = o ≡ refuses names r
EndsBy names causes.Memory (halts.With o) = ⊥
