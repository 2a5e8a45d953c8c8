use Rattle.std.proofs.Common.{sym}
use Rattle.kp_clauses.proofs.Marking.{unlike_tells}
use Rattle.kp_clauses.proofs.sieve.is_held_at.Goals as goal

-- the marks tell
pub returns-then-is_unlike : goal.returns-then-is_unlike
returns-then-is_unlike c = sym (unlike_tells c.args.marks.now c.args.clauses.now c.args.place c.args.c.now c.args.word c.requires.marked c.requires.word (c.is_unlike.ensures c.if-is_unlike.true))
