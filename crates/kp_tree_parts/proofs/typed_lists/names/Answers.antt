use Rattle.std.proofs.lemmas.Result.{err_from_is_err_and}
use Rattle.kp_tree_parts.proofs.Several.{names_read, no_names_read}
use Rattle.kp_tree_parts.proofs.typed_lists.names.Goals as goal

pub returns-in_err-run-clause-reads : goal.returns-in_err-run-clause-reads
returns-in_err-run-clause-reads c =
    let p = err_from_is_err_and c.from_residual.result c.from_residual.ensures.1 in
    rw (p.1, p.2, c.in_err-run.ensures.stopped.0) (no_names_read c.args.tokens.now c.args.at c.in_err-run.ensures.stopped.1)

pub returns-clause-reads : goal.returns-clause-reads
returns-clause-reads c = rw c.len.ensures (names_read c.args.tokens.now c.args.at _ _ c.in_ok-run.ensures.found c.in_ok-keep_words.ensures)
