use Rattle.std.proofs.Common.{◌∙◌, ap}
use Rattle.std.specs.Option.{option_map}
use Rattle.kp_names_numbered.proofs.AlikeTable.{found}
use Rattle.kp_names_numbered.proofs.alike.Alike.get.Goals as goal

pub returns : goal.returns
returns c = rw (← c.self.view_is) (ap (option_map (λ n. n.now)) (c.copied.ensures ∙ c.get.ensures.value) ∙ found (λ k. k.now) (λ v. v.now) c.args.name.now c.self.inside.leads.entries)
