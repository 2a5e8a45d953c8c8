use Rattle.kp_lift_knowledge.proofs.Stepping.{acted, rests}
use Rattle.kp_lift_knowledge.proofs.knowing.Knowing.act.Goals as goal

-- between steps the two tables say the same again
pub invariant_of-self : goal.invariant_of-self
invariant_of-self c =
    rests c.self.inside.known c.self.inside.next c.cancel_all.new.after c.support_all.new.after c.take_over_all.new.table c.args.action.now
    c.self.invariant.like c.self.invariant.same
    (rw c.slice-effects.ensures at c.cancel_all.ensures.turns) (rw c.slice-effects.ensures at c.support_all.ensures.turns) (rw c.slice-effects.ensures at c.take_over_all.ensures)
    c.support_all.new.met c.support_all.ensures.wide

pub returns-clause-known : goal.returns-clause-known
returns-clause-known c k says =
    acted c.self.inside.known c.self.inside.next c.cancel_all.new.after c.support_all.new.after c.take_over_all.new.table c.args.action.now
    c.self.invariant.like c.self.invariant.same
    (rw c.slice-effects.ensures at c.cancel_all.ensures.turns) (rw c.slice-effects.ensures at c.support_all.ensures.turns) (rw c.slice-effects.ensures at c.take_over_all.ensures)
    (rw (← c.self.view_is) at c.requires.below) k (rw (← c.self.view_is) at says)
