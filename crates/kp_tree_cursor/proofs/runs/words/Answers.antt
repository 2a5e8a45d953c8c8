use Rattle.std.proofs.Common.{refl, arith}
use Rattle.kp_tree_cursor.proofs.Several.{some_read, none_read}
use Rattle.kp_tree_cursor.proofs.runs.words.Goals as goal

pub returns-then-is_empty-clause-stopped : goal.returns-then-is_empty-clause-stopped
returns-then-is_empty-clause-stopped c = (refl, none_read c.args.class c.args.tokens.now c.args.at _ c.run-run.ensures.longest (grind (arith, c.if-is_empty.true, c.is_empty.ensures)))

pub returns-else-is_empty-clause-found : goal.returns-else-is_empty-clause-found
returns-else-is_empty-clause-found c = some_read c.args.class c.args.tokens.now c.args.at _ c.run-run.ensures.longest (grind (arith, c.if-is_empty.false, c.is_empty.ensures))
