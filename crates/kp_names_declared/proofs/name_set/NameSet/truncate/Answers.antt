use Rattle.std.proofs.Common.{◌∙◌, sym, ap, map}
use Rattle.std.specs.List.{take-map}
use Rattle.kp_names_declared.proofs.name_set.NameSet.truncate.Goals as goal

pub returns : goal.returns
returns c = rw (← c.self.view_is) (ap (map (λ k. k.now)) c.truncate.ensures.keys ∙ sym (take-map (λ k. k.now) c.args.len c.self.inside.set.keys))
