use Rattle.std.proofs.Common.{sym}
use Rattle.std.proofs.lemmas.Result.{err_from_is_err_and}
use Rattle.kp_tree_grammar.specs.Reading.{s_unopened}
use Rattle.kp_tags_files.proofs.AtomsFound.{headless, unclosed, stands}
use Rattle.kp_tags_files.proofs.atoms.words_at.Goals as goal

pub returns-then-not-is_left-clause-stopped : goal.returns-then-not-is_left-clause-stopped
returns-then-not-is_left-clause-stopped c = s_unopened (sym c.if-not-is_left.ensures.test)

pub returns-then-not-begins-clause-stopped : goal.returns-then-not-begins-clause-stopped
returns-then-not-begins-clause-stopped c = headless c.args.tokens.now c.args.at c.if-not-is_left.ensures.opens c.if-not-begins.ensures.test

pub returns-in_err-behind-clause-stopped : goal.returns-in_err-behind-clause-stopped
returns-in_err-behind-clause-stopped c =
    let p = err_from_is_err_and c.from_residual.result c.from_residual.ensures.1 in
    let h = c.in_err-behind.ensures.stopped in
    rw (p.1, p.2, h.0, c.len.ensures) (unclosed c.args.tokens.now c.args.at c.run-words.result c.if-not-is_left.ensures.opens c.if-not-begins.ensures.test c.run-words.ensures.longest (rw c.len.ensures at h.1))

pub returns-clause-found : goal.returns-clause-found
returns-clause-found c = stands c.args.tokens.now c.args.at _ c.if-not-is_left.ensures.opens c.if-not-begins.ensures.test c.run-words.ensures.longest _ (rw c.len.ensures at c.in_ok-behind.ensures.found)
