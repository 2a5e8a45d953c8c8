use Rattle.kp_tree_cursor.proofs.Seen.{seen_at}
use Rattle.kp_tree_cursor.proofs.tokens.peek.Goals as goal

pub returns-in-Some-clause-found : goal.returns-in-Some-clause-found
returns-in-Some-clause-found c = let l = c.in-Some.ensures.lookup in rw (← c.tokens.view_is, c.read_token.ensures) (seen_at c.tokens.inside.lower.now c.tokens.inside.spans.now c.args.at _ l.3.0 l.1)
