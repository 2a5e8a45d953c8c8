use Rattle.kp_tree_cursor.proofs.FirstBytes.{byte_within}
use Rattle.kp_tree_cursor.proofs.bytes.byte_of.Goals as goal

pub returns-in-Some-clause-within : goal.returns-in-Some-clause-within
returns-in-Some-clause-within c = let l = c.in-Some.ensures.lookup in byte_within c.args.bytes.now c.args.tokens.now c.args.number _ c.requires.cut l.3.0 l.1
