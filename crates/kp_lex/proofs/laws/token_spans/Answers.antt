use Rattle.kp_lex.proofs.Spans.{in_text, at_most, each_token}
use Rattle.kp_lex.proofs.laws.token_spans.Goals as goal

pub returns-clause-in_order : goal.returns-clause-in_order
returns-clause-in_order c ts h = in_text h

pub returns-clause-at_most : goal.returns-clause-at_most
returns-clause-at_most c = at_most

pub returns-clause-each : goal.returns-clause-each
returns-clause-each c = each_token
