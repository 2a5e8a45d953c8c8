use Rattle.std.proofs.lemmas.Result.{err_from_is_err_and}
use Rattle.kp_tags_files.specs.Parts.{numbers_of}
use Rattle.kp_tags_files.proofs.AtomsFound.{atom_halts, atom_found, atom_unknown}
use Rattle.kp_tags_files.proofs.atoms.atom_at.Goals as goal

-- no atom stands there
pub returns-in_err-words-clause-stopped : goal.returns-in_err-words-clause-stopped
returns-in_err-words-clause-stopped c =
    let p = err_from_is_err_and c.from_residual.result c.from_residual.ensures.1 in
    rw (p.1, p.2) (atom_halts (numbers_of c.args.table.now) c.args.tokens.now c.args.at c.in_err-words.field-0.0 c.in_err-words.ensures.stopped)

-- it has a number
pub returns-in-Some-clause-found : goal.returns-in-Some-clause-found
returns-in-Some-clause-found c = atom_found (numbers_of c.args.table.now) c.args.tokens.now c.args.at c.in_ok-words.words _ _ _ c.in_ok-words.ensures.found c.in_ok-number.ensures c.in-Some.is

-- it has none
pub returns-in-None-clause-stopped : goal.returns-in-None-clause-stopped
returns-in-None-clause-stopped c = atom_unknown (numbers_of c.args.table.now) c.args.tokens.now c.args.at c.in_ok-words.words _ _ c.in_ok-words.ensures.found c.in_ok-number.ensures c.in-None.is
