use Rattle.std.proofs.Common.{◌≡◌, true, [], ◌∷◌, ◌++◌, subst, sym}
use Rattle.kp_clauses.specs.Stored.{are_apart}
use Rattle.kp_clauses.proofs.Storing.{apart_first, one_less}
use Rattle.kp_clauses.proofs.store.Store.join.Goals as goal

-- the clauses so far and the next are the first of those of both stores
pub push-requires : goal.push-requires
push-requires c = apart_first (c.loop-c.self ++ c.in-Some.c ∷ []) c.next.new.self.rest.items (subst (λ z. are_apart z ≡ true) (sym (one_less _ _ _ _ _ c.in-Some.ensures.steps.0 c.loop-c.invariant)) c.requires)
