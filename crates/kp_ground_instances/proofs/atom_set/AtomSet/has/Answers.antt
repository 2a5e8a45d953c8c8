use Rattle.std.proofs.Common.{◌&&◌, nat_eq, sym, refl, ◌∙◌}
use Rattle.kp_base.proofs.Lists.{any_map}
use Rattle.kp_names_semantics.specs.Names.{same}
use Rattle.kp_ground_instances.proofs.atom_set.AtomSet.has.Goals as goal

pub returns : goal.returns
returns c =
    let q = c.args.pred in
    let os = c.args.objects.now in
    rw (← c.self.view_is) (c.contains.ensures ∙ sym (any_map (λ k. (k.0, k.1.now)) (λ a. nat_eq q a.0 && same os a.1) (λ k. nat_eq q k.0 && same os k.1.now) c.self.inside.set.keys (λ k. refl)))
