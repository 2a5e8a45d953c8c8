use Rattle.std.proofs.Common.{rules}
use Rattle.kp_search.proofs.Ordered.{whole_put}
use Rattle.kp_search.proofs.table.put.Goals as goal

pub returns-clause-whole : goal.returns-clause-whole
returns-clause-whole c =
    whole_put c.args.rows.now c.args.order.now.items c.args.state.now c.args.gap _ c.requires.whole c.requires.gap c.requires.room _ _ _ (search rules) (search rules) c.insert-inserted.ensures.capacity
