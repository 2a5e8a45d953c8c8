use Rattle.std.proofs.Common.{◌∙◌, sym}
use Rattle.kp_base.specs.Atoms.{atom, kept_atom}
use Rattle.kp_base.proofs.AtomKeys.{place_there, place_nowhere}
use Rattle.kp_base.proofs.atoms.Atoms.place.Goals as goal

pub returns-in-Some : goal.returns-in-Some
returns-in-Some c =
    rw (← c.self.view_is)
    (place_there kept_atom c.self.inside.set.keys (atom c.args.pred c.args.objects.now) c.in-Some.number (sym c.get_index_of.ensures.index ∙ c.in-Some.is))

pub returns-in-None : goal.returns-in-None
returns-in-None c =
    rw (← c.self.view_is)
    (c.len.ensures.len
    ∙ place_nowhere kept_atom c.self.inside.set.keys (atom c.args.pred c.args.objects.now) (sym c.get_index_of.ensures.index ∙ c.in-None.is))
