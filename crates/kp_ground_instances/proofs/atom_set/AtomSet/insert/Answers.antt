use Rattle.std.proofs.Common.{◌&&◌, nat_eq, ap, map, ◌∙◌}
use Rattle.kp_base.proofs.Lists.{gathered}
use Rattle.kp_names_semantics.specs.Names.{same}
use Rattle.kp_ground_instances.proofs.atom_set.AtomSet.insert.Goals as goal

-- the set's keys are what the atoms point from
pub returns : goal.returns
returns c = rw (← c.self.view_is) (ap (map (λ k. (k.0, k.1.now))) c.in_ok-insert.ensures.keys ∙ gathered (λ a b. nat_eq a.0 b.0 && same a.1 b.1) (λ k. (k.0, k.1.now)) c.self.inside.set.keys (c.args.pred, c.args.objects))
