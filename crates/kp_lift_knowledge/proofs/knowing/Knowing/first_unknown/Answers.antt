use Rattle.kp_lift_knowledge.proofs.Missing.{found_unknown, none_unknown}
use Rattle.kp_lift_knowledge.proofs.knowing.Knowing.first_unknown.Goals as goal

pub returns-clause-some : goal.returns-clause-some
returns-clause-some c k says =
    let here = rw (← c.self.view_is) at says in
    found_unknown c.self.inside.known k here (rw (← c.self.view_is) at c.requires.some_tag) c.args.lits.now (rw (← c.self.view_is) at c.requires.below) c.first_missing.result c.first_missing.ensures.some

pub returns-clause-none : goal.returns-clause-none
returns-clause-none c k says =
    let here = rw (← c.self.view_is) at says in
    none_unknown c.self.inside.known k here (rw (← c.self.view_is) at c.requires.some_tag) c.args.lits.now (rw (← c.self.view_is) at c.requires.below) c.first_missing.result c.first_missing.ensures.none
