use Rattle.std.proofs.Common.{◌∙◌, refl, sym, ap, length, slice_get, ltb-true}
use Rattle.kp_base.specs.Atoms.{kept_atom}
use Rattle.kp_base.proofs.AtomKeys.{got, placed}
use Rattle.kp_base.proofs.atoms.Atoms.is_at.Goals as goal

-- the key there is the atom's
pub returns-in-Some : goal.returns-in-Some
returns-in-Some c same =
    let keys = c.as_slice.result.now in
    let found = c.in-Some.ensures.lookup in
    let at = got keys c.args.place c.in-Some.key.now (ltb-true c.args.place (length keys) (sym found.0)) found.1 in
    rw (← c.self.view_is) (placed kept_atom _ (λ j k. refl) c.self.inside.set.keys _ c.args.place c.in-Some.key.now c.as_slice.ensures.unique
    (ap (λ ks. slice_get ks c.args.place) (sym c.as_slice.ensures.keys) ∙ at) (sym c.names.ensures ∙ same))
