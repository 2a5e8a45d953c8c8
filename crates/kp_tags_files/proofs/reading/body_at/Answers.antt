use Rattle.std.proofs.lemmas.Result.{err_from_is_err_and}
use Rattle.kp_tags_files.specs.Parts.{numbers_of}
use Rattle.kp_tags_files.proofs.MergesFound.{target_fails, tags_fail, body_stands}
use Rattle.kp_tags_files.proofs.reading.body_at.Goals as goal

-- the target is refused
pub returns-in_err-target-clause-stopped : goal.returns-in_err-target-clause-stopped
returns-in_err-target-clause-stopped c =
    let p = err_from_is_err_and c.from_residual.result c.from_residual.ensures.1 in
    rw (p.1, p.2) (target_fails (numbers_of c.args.table.now) c.args.tokens.now c.args.at c.in_err-target.field-0.0 c.in_err-target.ensures.stopped)

-- a tag is refused
pub returns-in_err-tags-clause-stopped : goal.returns-in_err-tags-clause-stopped
returns-in_err-tags-clause-stopped c =
    let p = err_from_is_err_and c.from_residual-in_err-tags.result c.from_residual-in_err-tags.ensures.1 in
    rw (p.1, p.2) (tags_fail (numbers_of c.args.table.now) c.args.tokens.now c.args.at _ _ c.in_ok-target.ensures.found c.in_err-tags.field-0.0 c.in_err-tags.ensures.stopped)

pub returns-clause-found : goal.returns-clause-found
returns-clause-found c = body_stands (numbers_of c.args.table.now) c.args.tokens.now c.args.at _ _ c.in_ok-target.ensures.found _ _ c.in_ok-tags.ensures.found
