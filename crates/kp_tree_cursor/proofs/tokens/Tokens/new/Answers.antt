use Rattle.kp_tree_cursor.proofs.Seen.{words_in}
use Rattle.kp_tree_cursor.proofs.tokens.Tokens.new.Goals as goal

pub invariant_of-result : goal.invariant_of-result
invariant_of-result c = words_in c.requires.text _ c.args.spans.now c.requires.cut c.requires.lowered
