use Rattle.std.proofs.Common.{◌≡◌, ◌++◌, drop}
use Rattle.kp_names_semantics.specs.Encoding.{doubled}
use Rattle.kp_plans.proofs.encoding.put_doubled.Given as goal

-- with what is left to write, it is the whole
abbrev pub invariant-loop-byte : goal.invariant-loop-byte
invariant-loop-byte l = l.out.items ++ doubled (drop l.byte-index l.text) ≡ l.fn.out.items ++ doubled l.text
