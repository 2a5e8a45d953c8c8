use Rattle.kp_names_semantics.proofs.FaultsApart.{domain_tokens, problem_tokens}
use Rattle.kp_names_semantics.proofs.laws.no_token_has_two_faults.Goals as goal

pub returns : goal.returns
returns c = record { domain = domain_tokens; problem = problem_tokens }
