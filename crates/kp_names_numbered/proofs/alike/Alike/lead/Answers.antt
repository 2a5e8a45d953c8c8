use Rattle.std.proofs.Common.{sym, subst}
use Rattle.kp_names_numbered.specs.Alike.{AreAlike}
use Rattle.kp_names_numbered.proofs.AlikeTable.{alike_more}
use Rattle.kp_names_numbered.proofs.alike.Alike.lead.Goals as goal

pub returns-in_ok-insert-in-Some-clause-kept : goal.returns-in_ok-insert-in-Some-clause-kept
returns-in_ok-insert-in-Some-clause-kept c f h e = subst (AreAlike f) (sym c.in_ok-insert-in-Some.ensures.inserted) (alike_more f c.args.self.now h c.args.name.now c.args.last.now e)
