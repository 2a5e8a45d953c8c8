use Rattle.std.proofs.Common.{◌≡◌, length}
use Rattle.std.specs.Io.KnownBytes.{Keeps}
use Rattle.kp_outside.proofs.transfer.read_again.Given as goal

-- the buffer keeps its length, and an interrupted read takes nothing
abbrev pub invariant-loop : goal.invariant-loop
invariant-loop g l = (length l.buffer ≡ length l.initial.buffer) × Keeps (g.F.Read.remaining l.initial.file) (g.F.Read.remaining l.file)
