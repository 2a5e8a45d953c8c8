use Rattle.kp_plans.proofs.Decoded.{starts}
use Rattle.kp_plans.proofs.decoding.split.Goals as goal

pub loop-byte-init : goal.loop-byte-init
loop-byte-init c = starts c.new-parts.result c.args.word.now c.new-parts.ensures.ended c.new-parts.ensures.last c.new-parts.ensures.escaped
