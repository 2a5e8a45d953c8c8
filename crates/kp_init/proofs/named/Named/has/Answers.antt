use Rattle.std.proofs.Common.{◌∙◌}
use Rattle.kp_base.specs.Atoms.{atom}
use Rattle.kp_init.proofs.named.Named.has.Goals as goal

-- the table tells of this atom what it tells of each
pub returns : goal.returns
returns c = rw (← c.self.view_is) (c.contains.ensures ∙ c.self.invariant (atom c.args.pred c.args.objects.now))
