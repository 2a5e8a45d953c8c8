use Rattle.std.proofs.Common.{◌∙◌, ap, map}
use Rattle.kp_names_numbered.proofs.AlikeTable.{inserted}
use Rattle.kp_names_numbered.proofs.alike.Alike.insert.Goals as goal

pub returns-clause-inserted : goal.returns-clause-inserted
returns-clause-inserted c = rw (← c.self.view_is) (ap (map (λ e. (e.0.now, e.1.now))) c.in_ok-insert.ensures.entries ∙ inserted (λ k. k.now) (λ v. v.now) c.self.inside.leads.entries c.args.name c.args.other)
