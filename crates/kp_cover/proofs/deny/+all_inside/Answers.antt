use Rattle.std.proofs.Common.{◌+◌, ◌-◌, ◌<◌, arith, length}
use Rattle.kp_cover.proofs.deny.+all_inside.Goals as goal

pub all_inside-requires : goal.all_inside-requires
all_inside-requires t c =
    let less : length c.args.tags.now - (c.args.at + 1) < t = omega (arith, c.decreases, c.requires, c.if-at-tags.false) in
    (less, omega (arith, c.requires, c.if-at-tags.false))
