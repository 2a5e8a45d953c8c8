use Rattle.std.proofs.Common.{sym}
use Rattle.kp_clash_exclusive.proofs.Joining.{set_past, set_there}
use Rattle.kp_clash_exclusive.proofs.joined.is_left.Goals as goal

pub returns-then-atom-lt65536 : goal.returns-then-atom-lt65536
returns-then-atom-lt65536 c = set_there c.args.words.now c.args.atom.0 c.has_bit.result c.if-atom-lt65536.true c.has_bit.ensures

pub returns-else-atom-lt65536 : goal.returns-else-atom-lt65536
returns-else-atom-lt65536 c = sym (set_past c.args.words.now c.args.atom.0 c.if-atom-lt65536.false)
