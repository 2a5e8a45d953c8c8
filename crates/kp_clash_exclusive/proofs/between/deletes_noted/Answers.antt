use Rattle.kp_clash_exclusive.proofs.Spans.{deletes_from}
use Rattle.kp_clash_exclusive.proofs.between.deletes_noted.Goals as goal

pub deletes_between-requires : goal.deletes_between-requires
deletes_between-requires c = deletes_from c.args.firsts.now c.args.ends.now c.args.action.now.effects c.args.q.0 c.requires
