use Rattle.std.proofs.Common.{refl, ◌∙◌}
use Rattle.kp_tree_parts.proofs.Several.{terms_read}
use Rattle.kp_tree_parts.proofs.runs.terms.Goals as goal

pub returns-clause-reads : goal.returns-clause-reads
returns-clause-reads c = rw c.len.ensures (terms_read c.args.class c.args.tokens.now c.args.at _ c.run-run.ensures.longest ∙ rw c.in_ok-keep_terms.ensures refl)
