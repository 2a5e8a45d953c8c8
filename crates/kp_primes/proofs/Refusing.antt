-- Resolvents that are surely not new.
use Rattle.std.proofs.Common.{◌≡◌, Bool, true, false, not, ◌||◌, ◌&&◌, cond, refl, List, []}
use Rattle.kp_base.specs.declared.lit.Lit.{Lit}
use Rattle.kp_base.specs.Lit.{negated}
use Rattle.kp_base.specs.Steps.{has}
use Rattle.kp_base.specs.Implicates.{is_tautology}
use Rattle.kp_clauses.specs.Resolved.{resolved}
use Rattle.kp_clauses.specs.Rests.{AreRests}
use Rattle.kp_clauses.specs.Stored.{subsumed}
use Rattle.kp_clauses.proofs.Public as resting
use Rattle.kp_primes.specs.Included.{is_least, grown, met}

-- what holds a prime implicate isn't least
not_least : (ps es : List (List Lit)) (l : Lit) (c : List Lit) → subsumed ps c ≡ true → is_least ps es l c ≡ false
not_least ps es l c h = rw h (pick (is_tautology c) (has c l))
  where
    pick : (a b : Bool) → not (a || (b || true)) ≡ false
    pick true b = refl
    pick false true = refl
    pick false false = refl

-- a resolvent that holds a prime implicate isn't kept
pub met_refused : (ps es : List (List Lit)) (e : List Lit) (l : Lit) (p : List Lit) (rs fs : List (List Lit)) → AreRests ps e l rs → subsumed rs p ≡ true → met ps es e l p fs ≡ fs
met_refused ps es e l p rs fs h some = rw (not_least ps es l (resolved e p l) (resting.rests_tell_of_resolvents ps e p l rs h some)) (pick (has p (negated l)))
  where
    pick : (a : Bool) → cond (a && false) (grown fs (resolved e p l)) fs ≡ fs
    pick true = refl
    pick false = refl

pub no_rests : (cs : List (List Lit)) (e : List Lit) (l : Lit) → AreRests cs e l []
no_rests = resting.none_are_rests
