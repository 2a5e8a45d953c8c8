-- What removing pairs that don't stay leaves, and when none is left to remove. Beside proofs it serves the contracts that cite `breaks`, `adds_pair`.
use Rattle.std.specs.Prelude.{◌≡◌, ◌<◌, ◌≤◌, ℕ, Bool, true, false, not, ◌&&◌, List, [], ◌∷◌, length, Option, Some, None}
use Rattle.std.specs.List.{list_any, list_all}
use Rattle.kp_base.specs.declared.lit.AtomId.{AtomId}
use Rattle.kp_base.specs.declared.ground.Effect.{Effect}
use Rattle.kp_base.specs.declared.ground.Action.{Action}
use Rattle.kp_base.specs.Clashes.{Pairs, compatible_effects}
use Rattle.kp_base.specs.Exclusive.{IsPart}
use Rattle.kp_clash_exclusive.specs.Paired.{are_both, is_pair}
use Rattle.kp_clash_exclusive.specs.Settled.{keeps_apart, stays_in}

-- ---- what goes

-- the pair is gone, and no other
pub record IsWithout (p q : ℕ) (old new : List (ℕ × ℕ)) : Type 0 where
  pub others : (r s : ℕ) → are_both p q (r, s) ≡ false → is_pair new r s ≡ is_pair old r s
  pub fewer : length new < length old

-- the set has each pair in either order, and these actions keep its pairs apart
pub record AreKeptBy (actions : List Action) (some : Pairs) : Type 0 where
  pub either_order : (p q : ℕ) → some p q ≡ true → some q p ≡ true
  pub stay : (p q : ℕ) → some p q ≡ true → list_all (stays_in some p q) actions ≡ true

-- pairs were removed, but none of a set that these actions keep
pub record Shrinks (actions : List Action) (old new : List (ℕ × ℕ)) : Type 0 where
  pub part : IsPart (is_pair new) (is_pair old)
  pub keeps : (some : Pairs) → AreKeptBy actions some → IsPart some (is_pair old) → IsPart some (is_pair new)
  pub no_more : length new ≤ length old

-- ---- what is found

-- the effect adds one atom of a pair where the other may be true and stay
abbrev pub breaks : Pairs → Action → Effect → ℕ → Bool
breaks pairs a e q = e.result.positive && (pairs e.result.atom.0 q && not (keeps_apart pairs e.result.atom.0 q a e))

-- the effects may add both atoms of a pair
abbrev pub adds_pair : Pairs → Action → Effect → Effect → Bool
adds_pair pairs a e f = (e.result.positive && (f.result.positive && pairs e.result.atom.0 f.result.atom.0)) && compatible_effects pairs a e f

-- the effect breaks no pair, alone or together with another effect
pub record BreaksNone (pairs : Pairs) (a : Action) (e : Effect) : Type 0 where
  pub alone : (q : ℕ) → breaks pairs a e q ≡ false
  pub together : list_any (adds_pair pairs a e) a.effects ≡ false

-- it is a pair, and these actions don't keep it apart
pub record IsBroken (pairs : Pairs) (actions : List Action) (p q : ℕ) : Type 0 where
  pub pair : pairs p q ≡ true
  pub broken : list_all (stays_in pairs p q) actions ≡ false

-- the other atom of a pair that an effect breaks alone, from this atom on; or there is none
abbrev pub FindsAlone : Pairs → Action → Effect → ℕ → Option AtomId → Type 0
FindsAlone pairs a e from (Some q) = (breaks pairs a e q.0 ≡ true) × (q.0 < 4294967295)
FindsAlone pairs a e from None = (q : ℕ) → from ≤ q → breaks pairs a e q ≡ false

-- the same together with another effect
abbrev pub FindsTogether : Pairs → Action → Effect → Option AtomId → Type 0
FindsTogether pairs a e (Some q) = IsBroken pairs (a ∷ []) e.result.atom.0 q.0
FindsTogether pairs a e None = list_any (adds_pair pairs a e) a.effects ≡ false

-- a pair that the effect breaks, or that there is none
abbrev pub FindsOfEffect : Pairs → Action → Effect → Option (AtomId × AtomId) → Type 0
FindsOfEffect pairs a e (Some x) = IsBroken pairs (a ∷ []) x.0.0 x.1.0
FindsOfEffect pairs a e None = BreaksNone pairs a e

-- a pair that these actions don't keep apart, or that there is none
abbrev pub FindsBroken : Pairs → List Action → Option (AtomId × AtomId) → Type 0
FindsBroken pairs actions (Some x) = IsBroken pairs actions x.0.0 x.1.0
FindsBroken pairs actions None = (p q : ℕ) → pairs p q ≡ true → list_all (stays_in pairs p q) actions ≡ true
