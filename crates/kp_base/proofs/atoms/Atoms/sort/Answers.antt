use Rattle.std.proofs.Common.{refl, ◌∙◌, sym}
use Rattle.std.proofs.lemmas.List.{length-map}
use Rattle.kp_base.specs.Atoms.{kept_atom}
use Rattle.kp_base.proofs.AtomKeys.{sorted_ascends, reordered, key_orders}
use Rattle.kp_base.proofs.atoms.Atoms.sort.Goals as goal

pub returns : goal.returns
returns c =
    let old = c.self.inside.set.keys in
    let new = c.sort_unstable.new.self.keys in
    rw (← c.self.view_is) (record {
      same = reordered kept_atom _ _ key_orders (λ j k. refl) new old c.sort_unstable.ensures.reordered.2;
      long = length-map new kept_atom ∙ (c.sort_unstable.ensures.reordered.1 ∙ sym (length-map old kept_atom));
      ascending = sorted_ascends kept_atom _ _ key_orders (λ j k. refl) new c.in_ok-sort_unstable.ensures.sorted c.sort_unstable.ensures.unique;
    })
