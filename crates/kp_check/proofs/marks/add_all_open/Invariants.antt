use Rattle.std.proofs.Common.{◌≡◌, drop, fold}
use Rattle.kp_check.specs.Marks.{with_open}
use Rattle.kp_check.proofs.marks.add_all_open.Given as goal

-- the rest goes on from the marks so far
abbrev pub invariant-loop-lit : goal.invariant-loop-lit
invariant-loop-lit l = fold (with_open l.values l.step) l.marks.items (drop l.lit-index l.lits) ≡ fold (with_open l.values l.step) l.fn.marks.items l.lits
