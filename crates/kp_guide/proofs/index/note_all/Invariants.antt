use Rattle.std.proofs.Common.{take}
use Rattle.kp_guide.specs.Waiting.{Notes}
use Rattle.kp_guide.proofs.index.note_all.Given as goal

-- the number is put to the facts so far
abbrev pub invariant-loop-fact : goal.invariant-loop-fact
invariant-loop-fact l = Notes (take l.fact-index l.facts) l.number l.fn.users l.users
