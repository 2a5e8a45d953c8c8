use Rattle.std.proofs.Common.{◌∙◌, sym, ap, map}
use Rattle.kp_names_semantics.specs.Lifted.{object_of}
use Rattle.kp_names.specs.View as owned
use Rattle.kp_ground_flatten.specs.Bound.{bound_cond}
use Rattle.kp_ground_flatten.proofs.Views.{all_conds, cond_atom_bound}
use Rattle.kp_ground_flatten.proofs.binding.+conds.Goals as goal

pub condition-returns-in_ok-conditions-in-All : goal.condition-returns-in_ok-conditions-in-All
condition-returns-in_ok-conditions-in-All t c =
    let b = c.args.objects.now in
    all_conds b c.in_ok-conditions-in-All.field-0 c.in-All.parts (c.in_ok-conditions-in-All.ensures ∙ ap (λ z. map (bound_cond b) (map owned.cond_view z)) c.slice.ensures)
    ∙ ap (λ z. bound_cond b (owned.cond_view z)) (sym c.in-All.is)

pub condition-returns-in_ok-bound_terms-in-Atom : goal.condition-returns-in_ok-bound_terms-in-Atom
condition-returns-in_ok-bound_terms-in-Atom t c =
    let b = c.args.objects.now in
    cond_atom_bound b c.in-Atom.positive c.in-Atom.pred c.in_ok-bound_terms-in-Atom.field-0 c.in-Atom.terms (c.in_ok-bound_terms-in-Atom.ensures ∙ ap (map (object_of b)) c.slice-in-Atom.ensures)
    ∙ ap (λ z. bound_cond b (owned.cond_view z)) (sym c.in-Atom.is)
