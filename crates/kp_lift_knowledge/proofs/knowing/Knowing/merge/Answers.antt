use Rattle.std.proofs.Common.{sym, ◌∙◌}
use Rattle.kp_lift_knowledge.proofs.Missing.{merges_alike}
use Rattle.kp_lift_knowledge.proofs.knowing.Knowing.merge.Goals as goal

pub returns-then-not-merges_anew-clause-answer : goal.returns-then-not-merges_anew-clause-answer
returns-then-not-merges_anew-clause-answer c k says =
    sym c.if-not-merges_anew.true ∙ (c.merges_anew.ensures
    ∙ merges_alike c.self.inside.known k (rw (← c.self.view_is) at says) (rw (← c.self.view_is) at c.requires.some_tag) c.args.merge.now.target (rw (← c.self.view_is) at c.requires.target) c.args.merge.now.tags (rw (← c.self.view_is) at c.requires.tags))

pub returns-clause-answer : goal.returns-clause-answer
returns-clause-answer c k says =
    sym c.if-not-merges_anew.false ∙ (c.merges_anew.ensures
    ∙ merges_alike c.self.inside.known k (rw (← c.self.view_is) at says) (rw (← c.self.view_is) at c.requires.some_tag) c.args.merge.now.target (rw (← c.self.view_is) at c.requires.target) c.args.merge.now.tags (rw (← c.self.view_is) at c.requires.tags))
