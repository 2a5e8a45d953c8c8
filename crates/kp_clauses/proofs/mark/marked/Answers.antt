use Rattle.std.proofs.Common.{◌%◌, ◌<◌, w64, arith}
use Rattle.std.proofs.lemmas.Nat.Bits.{bit_at_set_same, bit_at_set_other}
use Rattle.kp_base.specs.Lit.{code_of}
use Rattle.kp_clauses.proofs.mark.marked.Goals as goal

pub returns : goal.returns
returns c =
    let below : code_of c.args.lit % 64 < 64 = omega arith in
    rw c.code.ensures
    record { set = bit_at_set_same w64 _ _ below; others = bit_at_set_other w64 _ _ below }
