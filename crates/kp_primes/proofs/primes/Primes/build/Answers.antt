use Rattle.std.proofs.Common.{sym}
use Rattle.std.proofs.lemmas.Result.{err_from_is_err_and}
use Rattle.kp_primes.specs.Answers.{RefusesPrimes}
use Rattle.kp_primes.proofs.Answered.{prefix_stops, is_empty}
use Rattle.kp_primes.proofs.Found.{is_found}
use Rattle.kp_primes.proofs.primes.Primes.build.Goals as goal

-- the limit is passed, or memory is wanting
pub returns-in_err-include_all : goal.returns-in_err-include_all
returns-in_err-include_all c =
    let p = err_from_is_err_and c.from_residual.result c.from_residual.ensures.1 in
    rw (p.1, p.2) (prefix_stops c.args.initial.now c.args.atoms c.args.limit c.in_err-include_all.field-0.0 (rw c.slice.ensures at c.in_err-include_all.ensures.stopped))

-- the empty clause holds in no state
pub returns-then-has_empty : goal.returns-then-has_empty
returns-then-has_empty c = RefusesPrimes.no_state (is_empty c.args.initial.now c.args.limit _ _ (rw c.slice.ensures at c.in_ok-include_all.ensures.all) (rw c.slice-2.ensures at c.in_ok-include_closed.ensures) (sym c.if-has_empty.ensures))

-- what stands in the store, in order
pub ready-requires : goal.ready-requires
ready-requires c =
    rw c.from_vec-clauses.ensures
    (is_found c.args.initial.now c.args.atoms c.args.limit _ _ _ c.requires (rw c.slice.ensures at c.in_ok-include_all.ensures.all) (rw c.slice-2.ensures at c.in_ok-include_closed.ensures) (sym c.if-has_empty.ensures) (rw c.into_clauses.ensures at c.in_ok-in_order.ensures.same) c.in_ok-in_order.ensures.order).whole_invariant

pub returns : goal.returns
returns c =
    rw (c.in_ok-primes.ensures, c.from_vec-clauses.ensures)
    (is_found c.args.initial.now c.args.atoms c.args.limit _ _ _ c.requires (rw c.slice.ensures at c.in_ok-include_all.ensures.all) (rw c.slice-2.ensures at c.in_ok-include_closed.ensures) (sym c.if-has_empty.ensures) (rw c.into_clauses.ensures at c.in_ok-in_order.ensures.same) c.in_ok-in_order.ensures.order).holds_primes
