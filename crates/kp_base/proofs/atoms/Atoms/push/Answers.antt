use Rattle.std.proofs.Common.{◌≡◌, ◌∙◌, ap, subst, map}
use Rattle.kp_base.proofs.Lists.{gathered}
use Rattle.kp_base.specs.Atoms.{same_atom, kept_atom, with_atom}
use Rattle.kp_base.proofs.atoms.Atoms.push.Goals as goal

-- the new keys are the atoms with the one that the literal names
pub returns : goal.returns
returns c =
    let added = ap (map kept_atom) c.in_ok-insert.ensures.keys ∙ gathered same_atom kept_atom c.self.inside.set.keys c.in_ok-key_of.field-0 in
    rw (← c.self.view_is) (subst (λ a. map kept_atom c.insert.new.self.keys ≡ with_atom (map kept_atom c.self.inside.set.keys) a) c.in_ok-key_of.ensures added)
