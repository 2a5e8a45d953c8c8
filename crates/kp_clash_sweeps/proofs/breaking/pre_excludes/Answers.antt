use Rattle.std.proofs.Common.{sym}
use Rattle.kp_clash_sweeps.proofs.breaking.pre_excludes.Goals as goal

pub returns-else-may_exclude : goal.returns-else-may_exclude
returns-else-may_exclude c = rw c.if-may_exclude.false (sym (c.may_exclude.ensures c.if-may_exclude.false))
