-- The facts of a state go on as the state does.
use Rattle.std.proofs.Common.{◌≡◌, Bool, true, false, not, ◌&&◌, ◌||◌, List, [], ◌∷◌, refl}
use Rattle.std.specs.List.{list_all}
use Rattle.kp_base.specs.declared.lit.Lit.{Lit}
use Rattle.kp_base.specs.declared.ground.Effect.{Effect}
use Rattle.kp_base.specs.declared.ground.Action.{Action}
use Rattle.kp_base.specs.Planning.{negated, same_lit, State, holds, fires, after, clashes_at, persists, facts_after}
use Rattle.kp_base.proofs.Lists.{any-not}
use Rattle.kp_base.proofs.Lits.{holds-negated}

-- a literal persists exactly where no effect against it fires
pub persists_exact : (es : List Effect) (s : State) (l : Lit) → persists es (holds s) l ≡ not (fires es (holds s) (negated l))
persists_exact [] s l = refl
persists_exact (e ∷ es) s l =
    rw (any-not (holds s) (λ c. holds s (negated c)) e.cond (holds-negated s), persists_exact es s l)
    (laws (same_lit e.result (negated l)) (list_all (holds s) e.cond) (fires es (holds s) (negated l)))
  where
    laws : (a b c : Bool) → ((not a || not b) && not c) ≡ not ((a && b) || c)
    laws true true c = refl
    laws true false c = refl
    laws false b c = refl

pub exact : (a : Action) (s : State) (l : Lit) → clashes_at a s l.atom.0 ≡ false → facts_after a (holds s) l ≡ holds (after a s) l
exact a s l n =
    rw (persists_exact a.effects s l) (by_sign l.positive)
  where
    adds_win : (f d s : Bool) → (f && d) ≡ false → (d || (not s && not f)) ≡ not (f || (s && not d))
    adds_win true true s h = h
    adds_win true false true h = refl
    adds_win true false false h = refl
    adds_win false true true h = refl
    adds_win false true false h = refl
    adds_win false false true h = refl
    adds_win false false false h = refl

    by_sign : (b : Bool) → (let m : Lit = record { atom = l.atom; positive = b } in fires a.effects (holds s) m || (holds s m && not (fires a.effects (holds s) (negated m)))) ≡ holds (after a s) (record { atom = l.atom; positive = b })
    by_sign true = refl
    by_sign false = adds_win _ _ _ n
