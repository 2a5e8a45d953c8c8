use Rattle.std.proofs.Common.{◌∙◌, refl, sym}
use Rattle.kp_base.proofs.Lists.{any_map}
use Rattle.kp_base.specs.Atoms.{atom, same_atom, kept_atom}
use Rattle.kp_base.proofs.atoms.Atoms.has.Goals as goal

pub returns : goal.returns
returns c =
    let a = atom c.args.pred c.args.objects.now in
    rw (← c.self.view_is) (c.is_some.ensures ∙ (c.get_index_of.ensures.found ∙ sym (any_map kept_atom (same_atom a) (λ k. same_atom a (kept_atom k)) c.self.inside.set.keys (λ k. refl))))
