use Rattle.kp_tree_cursor.proofs.Seen.{seen_within}
use Rattle.kp_tree_cursor.proofs.tokens.Tokens.token.Goals as goal

pub returns : goal.returns
returns c = seen_within c.self.inside.lower.now c.self.inside.spans.now c.args.at _ c.args.self.now _ c.self.view_is c.requires c.read_token.ensures
