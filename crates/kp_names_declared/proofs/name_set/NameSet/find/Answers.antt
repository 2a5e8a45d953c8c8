use Rattle.std.proofs.Common.{◌∙◌, sym}
use Rattle.kp_names_declared.proofs.Gathering.{position_is}
use Rattle.kp_names_declared.proofs.name_set.NameSet.find.Goals as goal

pub returns-in-Some : goal.returns-in-Some
returns-in-Some c = rw (← c.self.view_is) (sym c.in-Some.is ∙ (c.get_index_of.ensures.index ∙ position_is (λ k. k.now) c.self.inside.set.keys c.args.name.now))

pub returns-in-None : goal.returns-in-None
returns-in-None c = rw (← c.self.view_is) (sym c.in-None.is ∙ (c.get_index_of.ensures.index ∙ position_is (λ k. k.now) c.self.inside.set.keys c.args.name.now))
