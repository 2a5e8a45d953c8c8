use Rattle.std.proofs.Common.{◌≡◌, ◌++◌, take}
use Rattle.kp_outside.proofs.memory_sink.append.Given as goal

abbrev pub invariant-loop-byte : goal.invariant-loop-byte
invariant-loop-byte l = l.row ≡ l.initial.row ++ take l.byte-index l.bytes
