use Rattle.kp_search.proofs.Ordered.{told}
use Rattle.kp_search.proofs.table.Table.has.Goals as goal

pub returns : goal.returns
returns c = told c.args.self.now.states c.args.state.now c.place_of.result c.is_some.result c.is_some.ensures c.place_of.ensures.some c.place_of.ensures.none
