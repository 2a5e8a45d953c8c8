use Rattle.std.proofs.Common.{◌≡◌, ◌++◌, not, subst, OnOk}
use Rattle.kp_clauses.specs.Stored.{subsumed, with_all}
use Rattle.kp_clauses.proofs.Storing.{apart_filter, merged_apart, merged_is}
use Rattle.kp_clauses.proofs.store.Store.merge.Goals as goal

-- some of the clauses are as far apart as all
pub invariant_of-self-2 : goal.invariant_of-self-2
invariant_of-self-2 c =
    rw (c.in_ok-self-inside.ensures, c.into_clauses.ensures, c.replace-held.ensures.value)
    (apart_filter (λ d. not (subsumed c.other.inside.sieve d)) c.self.inside.sieve c.self.invariant)

-- those that hold none of the others, and the others
pub join-requires : goal.join-requires
join-requires c =
    rw (c.in_ok-self-inside.ensures, c.into_clauses.ensures, c.replace-held.ensures.value, ← c.other.view_is)
    (merged_apart c.self.inside.sieve c.other.inside.sieve c.self.invariant c.other.invariant (rw (c.self.view_is, c.other.view_is) c.requires))

pub returns : goal.returns
returns c = subst (λ z. OnOk c.join.result (c.join.new.self ≡ z)) merged c.join.ensures
  where
    merged : c.in_ok-self-inside.field-0 ++ c.args.other ≡ with_all c.args.self.now c.args.other
    merged =
        rw (c.in_ok-self-inside.ensures, c.into_clauses.ensures, c.replace-held.ensures.value, ← c.self.view_is, ← c.other.view_is)
        (merged_is c.self.inside.sieve c.other.inside.sieve c.other.invariant (rw (c.self.view_is, c.other.view_is) c.requires))
