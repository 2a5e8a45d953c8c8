use Rattle.std.proofs.Common.{◌∙◌}
use Rattle.kp_names_declared.proofs.Entries.{found}
use Rattle.kp_names_declared.proofs.predicates.Predicates.get.Goals as goal

pub returns : goal.returns
returns c = rw (← c.self.view_is) (c.copied.ensures ∙ (c.get.ensures.value ∙ found (λ k. k.now) c.args.name.now c.self.inside.first.entries))
