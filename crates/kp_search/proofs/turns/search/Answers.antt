use Rattle.kp_search.proofs.Ends.{tells}
use Rattle.kp_search.proofs.turns.search.Goals as goal

pub returns-clause-tells : goal.returns-clause-tells
returns-clause-tells g c =
    tells c.args.task.now c.requires.fit (g.E.Estimator.may_answer c.args.guide.now c.args.task.now) c.args.budget
    (λ s len m ks. c.is_right.ensures c.args.task.now s ks c.requires.fit len m) c.in_ok-found.found c.in_ok-found.ensures
