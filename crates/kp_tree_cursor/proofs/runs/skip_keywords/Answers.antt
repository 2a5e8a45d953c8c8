use Rattle.kp_tree_cursor.proofs.Several.{keywords_read}
use Rattle.kp_tree_cursor.proofs.runs.skip_keywords.Goals as goal

pub returns-clause-reads : goal.returns-clause-reads
returns-clause-reads c = rw c.len.ensures (keywords_read c.args.tokens.now c.args.at _ c.run.ensures.longest)
