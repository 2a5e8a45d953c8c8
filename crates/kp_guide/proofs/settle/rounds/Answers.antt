use Rattle.std.proofs.Common.{sym, ◌∙◌}
use Rattle.std.proofs.lemmas.Bool.{eqb-true}
use Rattle.std.specs.Vec.{vec_len}
use Rattle.kp_guide.proofs.Waiting.{none_left}
use Rattle.kp_guide.proofs.settle.rounds.Goals as goal

-- nothing waits
pub returns-clause-closed : goal.returns-clause-closed
returns-clause-closed c = none_left c.args.index.now.rules.items c.rounds.costs c.rounds.waits c.rounds.now.items (sym c.rounds.now.ok.0 ∙ eqb-true (vec_len c.rounds.now) 0 (sym c.is_empty.ensures ∙ c.rounds-test.false)) c.rounds.invariant.2
