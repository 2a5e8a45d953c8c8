use Rattle.std.proofs.Common.{◌∙◌, sym, ap, map}
use Rattle.std.specs.List.{take-map}
use Rattle.kp_ground_flatten.specs.Literals.{lit_view}
use Rattle.kp_ground_flatten.proofs.conditions.Conditions.truncate.Goals as goal

pub returns : goal.returns
returns c = rw (← c.self.view_is) (ap (map lit_view) c.truncate.ensures.items ∙ sym (take-map lit_view c.args.len c.self.inside.literals.items))
