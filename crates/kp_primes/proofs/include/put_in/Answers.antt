use Rattle.std.proofs.Common.{sym, ◌∙◌}
use Rattle.kp_clauses.proofs.Public.{with_all_joined}
use Rattle.kp_primes.proofs.Placing.{behind_apart}
use Rattle.kp_primes.proofs.include.put_in.Goals as goal

-- none holds a new one, and none is within one
pub put_behind-requires-clause-apart : goal.put_behind-requires-clause-apart
put_behind-requires-clause-apart c =
    behind_apart c.args.primes.now c.args.news c.args.holders.now c.clauses-apart.ensures.apart c.clauses-others.ensures.apart c.requires.held c.requires.free
    (sym (rw (c.slice.ensures, c.clauses-others.ensures.value) at c.if-are_held.ensures))

-- so adding them in turn is putting them behind
pub returns-in_ok-put_behind-clause-all : goal.returns-in_ok-put_behind-clause-all
returns-in_ok-put_behind-clause-all c =
    c.in_ok-put_behind.ensures.all
    ∙ sym (with_all_joined c.args.primes.now c.args.news (behind_apart c.args.primes.now c.args.news c.args.holders.now c.clauses-apart.ensures.apart c.clauses-others.ensures.apart c.requires.held c.requires.free
    (sym (rw (c.slice.ensures, c.clauses-others.ensures.value) at c.if-are_held.ensures))))
