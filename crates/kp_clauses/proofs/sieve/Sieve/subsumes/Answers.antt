use Rattle.kp_clauses.proofs.Sieving.{subsumed_sieved, by_first, by_others}
use Rattle.kp_clauses.proofs.sieve.Sieve.subsumes.Goals as goal

-- the list of the empty clause tells
pub returns-then-any_listed : goal.returns-then-any_listed
returns-then-any_listed c = rw (← c.self.view_is) (by_first _ _ _ _ (subsumed_sieved c.self.inside.lists.items c.self.inside.clauses c.args.c.now c.mark-word.result c.self.invariant.listed c.mark-word.ensures) (rw (c.slice-clauses.ensures, c.deref.ensures.value) at c.any_listed.ensures) (rw (c.slice-clauses.ensures, c.deref.ensures.value) at c.if-any_listed.ensures))

-- those of the literals do
pub returns-else-any_listed : goal.returns-else-any_listed
returns-else-any_listed c = rw (← c.self.view_is) (by_others _ _ _ _ (subsumed_sieved c.self.inside.lists.items c.self.inside.clauses c.args.c.now c.mark-word.result c.self.invariant.listed c.mark-word.ensures) (rw (c.slice-clauses.ensures, c.deref.ensures.value) at c.if-any_listed.ensures) (rw (c.slice-clauses.ensures, c.deref-else-any_listed.ensures.value) at c.any_of_literals.ensures))
