use Rattle.std.proofs.Common.{sym, ap, subst, ◌∙◌}
use Rattle.std.proofs.lemmas.Result.{err_from_is_err_and}
use Rattle.kp_ground_semantics.specs.Ground.{ground_over, IsNumbering}
use Rattle.kp_ground_semantics.proofs.Public.{atoms_are_numbered}
use Rattle.kp_names.specs.View.{lifted_view}
use Rattle.kp_ground.proofs.Kept.{counts_stop, atoms_stop}
use Rattle.kp_ground.proofs.grounding.ground_by.Goals as goal

-- a count is over
pub returns-in_err-kept : goal.returns-in_err-kept
returns-in_err-kept c =
    let p = err_from_is_err_and c.from_residual.result c.from_residual.ensures.1 in
    rw (p.1, p.2) (counts_stop (lifted_view c.args.statics.now) c.args.limits.now c.in_err-kept.field-0.0 c.in_err-kept.ensures.refused)

-- the ground problem over the ground atoms
pub returns : goal.returns
returns c = record {
  counts = c.in_ok-kept.ensures.within;
  atoms = c.in_ok-atoms.ensures.1;
  ground = c.in_ok-made.ensures ∙ ap (ground_over (lifted_view c.args.statics.now)) c.in_ok-atoms.ensures.0;
}

-- there are too many atoms
pub returns-in_err-atoms : goal.returns-in_err-atoms
returns-in_err-atoms c =
    let p = err_from_is_err_and c.from_residual-in_err-atoms.result c.from_residual-in_err-atoms.ensures.1 in
    rw (p.1, p.2) (atoms_stop (lifted_view c.args.statics.now) c.args.limits.now c.in_err-atoms.field-0.0 c.in_ok-kept.ensures.within c.in_err-atoms.ensures)

-- the ground atoms are numbered by their places
pub over_atoms-requires-clause-numbering : goal.over_atoms-requires-clause-numbering
over_atoms-requires-clause-numbering c =
    let l = lifted_view c.args.statics.now in
    subst (IsNumbering l) (sym c.in_ok-atoms.ensures.0) (atoms_are_numbered l).numbering
