use Rattle.std.proofs.lemmas.Result.{err_from_is_err_and}
use Rattle.kp_tags_files.specs.Parts.{numbers_of}
use Rattle.kp_tags_files.proofs.MergesFound.{no_merge, no_word, body_fails, merge_open, merge_stands}
use Rattle.kp_tags_files.proofs.reading.merge_at.Goals as goal

pub returns-then-not-is_left-clause-stopped : goal.returns-then-not-is_left-clause-stopped
returns-then-not-is_left-clause-stopped c = no_merge (numbers_of c.args.table.now) c.args.tokens.now c.args.at c.if-not-is_left.ensures.test

-- the word `merge` doesn't stand there
pub returns-in_err-at-clause-stopped : goal.returns-in_err-at-clause-stopped
returns-in_err-at-clause-stopped c =
    let p = err_from_is_err_and c.from_residual.result c.from_residual.ensures.1 in
    let h = c.in_err-at.ensures.stopped in
    rw (p.1, p.2, h.0) (no_word (numbers_of c.args.table.now) c.args.tokens.now c.args.at c.if-not-is_left.ensures.opens h.1)

-- what stands behind the word is refused
pub returns-in_err-body-clause-stopped : goal.returns-in_err-body-clause-stopped
returns-in_err-body-clause-stopped c =
    let p = err_from_is_err_and c.from_residual-in_err-body.result c.from_residual-in_err-body.ensures.1 in
    rw (p.1, p.2) (body_fails (numbers_of c.args.table.now) c.args.tokens.now c.args.at c.if-not-is_left.ensures.opens _ c.in_ok-at.ensures.found c.in_err-body.field-0.0 c.in_err-body.ensures.stopped)

-- no closing bracket stands behind the tags
pub returns-in_err-merge-clause-stopped : goal.returns-in_err-merge-clause-stopped
returns-in_err-merge-clause-stopped c =
    let p = err_from_is_err_and c.from_residual-in_err-merge.result c.from_residual-in_err-merge.ensures.1 in
    let h = c.in_err-merge.ensures.stopped in
    rw (p.1, p.2, h.0) (merge_open (numbers_of c.args.table.now) c.args.tokens.now c.args.at c.if-not-is_left.ensures.opens _ c.in_ok-at.ensures.found _ _ c.in_ok-body.ensures.found h.1)

pub returns-clause-found : goal.returns-clause-found
returns-clause-found c =
    let h = c.in_ok-merge.ensures.found in
    rw h.0 (merge_stands (numbers_of c.args.table.now) c.args.tokens.now c.args.at c.if-not-is_left.ensures.opens _ c.in_ok-at.ensures.found _ _ c.in_ok-body.ensures.found _ h.1)
