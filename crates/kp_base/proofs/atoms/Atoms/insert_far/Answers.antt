use Rattle.std.proofs.Common.{◌∙◌, refl, sym, ap, is_some, map, if◌then◌else◌, Bool, ◌++◌, ◌∷◌, []}
use Rattle.kp_base.proofs.Lists.{any_map}
use Rattle.kp_base.specs.Atoms.{atom, same_atom, kept_atom}
use Rattle.kp_base.proofs.atoms.Atoms.insert_far.Goals as goal

-- an atom that is there doesn't come again
pub returns-in-Some : goal.returns-in-Some
returns-in-Some c =
    let a = atom c.args.wanted.now.pred c.args.wanted.now.objects.now in
    let old = map kept_atom c.self.inside.set.keys in
    let there = any_map kept_atom (same_atom a) (λ k. same_atom a (kept_atom k)) c.self.inside.set.keys (λ k. refl) ∙ (sym c.get_index_of.ensures.found ∙ ap is_some c.in-Some.is) in
    rw (← c.self.view_is) (sym (ap (λ (b : Bool). if b then old else old ++ a ∷ []) there))
