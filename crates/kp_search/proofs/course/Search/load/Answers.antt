use Rattle.std.proofs.Common.{rules}
use Rattle.kp_search.proofs.Origins.{known_within}
use Rattle.kp_search.proofs.course.Search.load.Goals as goal

pub index-requires : goal.index-requires
index-requires c = let lt = known_within _ c.args.self.now c.args.number c.requires.known in search (rules, lt)
