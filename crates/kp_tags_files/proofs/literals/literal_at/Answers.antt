use Rattle.std.proofs.lemmas.Result.{err_from_is_err_and}
use Rattle.kp_tags_files.specs.Parts.{numbers_of}
use Rattle.kp_tags_files.proofs.AtomsFound.{plain_found, plain_fails, negated_found, negated_fails, negated_open}
use Rattle.kp_tags_files.proofs.literals.literal_at.Goals as goal

-- no atom stands there
pub returns-in_err-atom-clause-stopped : goal.returns-in_err-atom-clause-stopped
returns-in_err-atom-clause-stopped c =
    let p = err_from_is_err_and c.from_residual.result c.from_residual.ensures.1 in
    rw (p.1, p.2) (plain_fails (numbers_of c.args.table.now) c.args.tokens.now c.args.at c.if-positive.ensures.test c.in_err-atom.field-0.0 c.in_err-atom.ensures.stopped)

-- none stands behind the word `not`
pub returns-in_err-atom-2-clause-stopped : goal.returns-in_err-atom-2-clause-stopped
returns-in_err-atom-2-clause-stopped c =
    let p = err_from_is_err_and c.from_residual-in_err-atom-2.result c.from_residual-in_err-atom-2.ensures.1 in
    rw (p.1, p.2) (negated_fails (numbers_of c.args.table.now) c.args.tokens.now c.args.at c.if-positive.ensures.test c.in_err-atom-2.field-0.0 c.in_err-atom-2.ensures.stopped)

-- no closing bracket stands behind it
pub returns-in_err-behind-clause-stopped : goal.returns-in_err-behind-clause-stopped
returns-in_err-behind-clause-stopped c =
    let p = err_from_is_err_and c.from_residual-in_err-behind.result c.from_residual-in_err-behind.ensures.1 in
    let h = c.in_err-behind.ensures.stopped in
    rw (p.1, p.2, h.0) (negated_open (numbers_of c.args.table.now) c.args.tokens.now c.args.at c.if-positive.ensures.test _ _ c.in_ok-atom-2.ensures.found h.1)

pub returns-in_ok-atom-clause-found : goal.returns-in_ok-atom-clause-found
returns-in_ok-atom-clause-found c = rw c.if-positive.true (plain_found (numbers_of c.args.table.now) c.args.tokens.now c.args.at c.if-positive.ensures.test _ _ c.in_ok-atom.ensures.found)

pub returns-in_ok-behind-clause-found : goal.returns-in_ok-behind-clause-found
returns-in_ok-behind-clause-found c = rw c.if-positive.false (negated_found (numbers_of c.args.table.now) c.args.tokens.now c.args.at c.if-positive.ensures.test _ _ _ c.in_ok-atom-2.ensures.found c.in_ok-behind.ensures.found)
