use Rattle.std.proofs.Common.{◌∙◌, sym}
use Rattle.kp_names_numbered.proofs.SameRanges.{only_one}
use Rattle.kp_names_numbered.proofs.ranges.only.Goals as goal

pub returns-then-len-eq1 : goal.returns-then-len-eq1
returns-then-len-eq1 c = only_one (λ n. n.now) c.get.result c.args.names.now (sym c.len.ensures ∙ c.if-len-eq1.true) c.get.ensures
