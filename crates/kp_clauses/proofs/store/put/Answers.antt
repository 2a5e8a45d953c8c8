use Rattle.std.proofs.Common.{sym, ◌∙◌}
use Rattle.kp_clauses.proofs.Storing.{none_held}
use Rattle.kp_clauses.proofs.store.put.Goals as goal

-- none holds it, so all stay
pub returns-then-not-is_held-clause-ok : goal.returns-then-not-is_held-clause-ok
returns-then-not-is_held-clause-ok c = c.in_ok-push.ensures.ok ∙ sym (none_held c.args.sieve.now c.args.clause (sym (rw (c.slice.ensures, c.clauses.ensures) at c.if-not-is_held.ensures)))
