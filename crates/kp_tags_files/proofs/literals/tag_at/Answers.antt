use Rattle.std.proofs.lemmas.Result.{err_from_is_err_and}
use Rattle.kp_tags_files.specs.Parts.{numbers_of}
use Rattle.kp_tags_files.proofs.MergesFound.{no_tag, tag_fails, tag_open, tag_stands}
use Rattle.kp_tags_files.proofs.literals.tag_at.Goals as goal

pub returns-then-not-is_left-clause-stopped : goal.returns-then-not-is_left-clause-stopped
returns-then-not-is_left-clause-stopped c = no_tag (numbers_of c.args.table.now) c.args.tokens.now c.args.at c.if-not-is_left.ensures.test

-- a literal is refused
pub returns-in_err-literals-clause-stopped : goal.returns-in_err-literals-clause-stopped
returns-in_err-literals-clause-stopped c =
    let p = err_from_is_err_and c.from_residual.result c.from_residual.ensures.1 in
    rw (p.1, p.2) (tag_fails (numbers_of c.args.table.now) c.args.tokens.now c.args.at c.if-not-is_left.ensures.opens c.in_err-literals.field-0.0 c.in_err-literals.ensures.stopped)

-- no closing bracket stands behind the literals
pub returns-in_err-set-clause-stopped : goal.returns-in_err-set-clause-stopped
returns-in_err-set-clause-stopped c =
    let p = err_from_is_err_and c.from_residual-in_err-set.result c.from_residual-in_err-set.ensures.1 in
    let h = c.in_err-set.ensures.stopped in
    rw (p.1, p.2, h.0) (tag_open (numbers_of c.args.table.now) c.args.tokens.now c.args.at c.if-not-is_left.ensures.opens _ _ c.in_ok-literals.ensures.found h.1)

pub returns-clause-found : goal.returns-clause-found
returns-clause-found c =
    let h = c.in_ok-set.ensures.found in
    rw h.0 (tag_stands (numbers_of c.args.table.now) c.args.tokens.now c.args.at c.if-not-is_left.ensures.opens _ _ _ c.in_ok-literals.ensures.found h.1)
