use Rattle.std.proofs.Common.{◌+◌, take, arith}
use Rattle.std.proofs.lemmas.Grind.{common_steps}
use Rattle.kp_outside.proofs.Known.{taken_more}
use Rattle.kp_outside.proofs.transfer.read_past.Goals as goal

-- what was read last is lost, and was taken all the same
pub returns-in_err-map_err-in_default-clause-taken : goal.returns-in_err-map_err-in_default-clause-taken
returns-in_err-map_err-in_default-clause-taken g c =
    taken_more _ _ _ c.loop-buffer.bytes.items (take c.in_ok-n.n c.read_again.new.buffer) (c.args.most + 1) c.loop-buffer.invariant.1 c.in_ok-n.ensures.bytes.0 (grind (arith, common_steps))
