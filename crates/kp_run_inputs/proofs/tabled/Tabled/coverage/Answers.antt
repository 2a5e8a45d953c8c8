use Rattle.kp_run_inputs.proofs.Relevances.{pairs_of}
use Rattle.kp_run_inputs.proofs.tabled.Tabled.coverage.Goals as goal

pub coverage-requires-clause-relevance : goal.coverage-requires-clause-relevance
coverage-requires-clause-relevance c = pairs_of c.args.self.now.related
