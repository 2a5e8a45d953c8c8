use Rattle.std.proofs.Common.{◌≡◌, drop}
use Rattle.kp_names_semantics.specs.Encoding.{split}
use Rattle.kp_plans.specs.Decoding.{components}
use Rattle.kp_plans.proofs.decoding.split.Given as goal

-- with what is left to read, they are the components of the word
abbrev pub invariant-loop-byte : goal.invariant-loop-byte
invariant-loop-byte l = components l.parts (drop l.byte-index l.word) ≡ split l.word
