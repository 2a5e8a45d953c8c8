use Rattle.kp_clauses.proofs.Sieving.{needed_left}
use Rattle.kp_clauses.proofs.sieve.Sieve.needed.Goals as goal

-- what each clause within it has is left
pub returns : goal.returns
returns c x = rw (← c.self.view_is, c.in_ok-narrow_by_literals.ensures, c.in_ok-narrow_by.ensures, c.list-spots.ensures, c.slice-clauses.ensures, c.deref.ensures.value, c.deref-2.ensures.value, c.in_ok-set.ensures.value) (needed_left c.self.inside.lists.items c.self.inside.clauses c.args.c.now c.mark-word.result x c.self.invariant.listed c.mark-word.ensures)
