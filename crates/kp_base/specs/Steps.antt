-- Ground problems: states, models, steps and plans. Atoms and actions go by number.
use Rattle.std.specs.Prelude.{◌≡◌, ◌<◌, ◌≤◌, ℕ, Bool, true, false, not, ◌&&◌, ◌||◌, List, [], ◌∷◌, Option, Some, None, slice_get}
use Rattle.std.specs.List.{list_any, list_all}
use Rattle.kp_base.specs.declared.lit.Lit.{Lit}
use Rattle.kp_base.specs.declared.ground.Effect.{Effect}
use Rattle.kp_base.specs.declared.ground.Action.{Action}
use Rattle.kp_base.specs.declared.ground.Ground.{Ground}
use Rattle.kp_base.specs.declared.ground.Initial.{Initial}
use Rattle.kp_base.specs.Lists.{Member, signed}
use Rattle.kp_base.specs.Lit.{positive, negative, same_lit, code_of}
pub use Rattle.kp_base.specs.Lit.{has}

-- the atoms that are true
abbrev pub State : Type 0
State = ℕ → Bool

-- which literals are so, true in a state or known under a tag; of an atom both may be, or neither
abbrev pub Valuation : Type 0
Valuation = Lit → Bool

-- no atom from this number on is true
pub record IsBounded (atoms : ℕ) (s : State) : Type 0 where
  pub none_past : (p : ℕ) → atoms ≤ p → s p ≡ false

-- ---- the order of states

-- the two states have the same of the first n atoms
abbrev pub SameBelow : ℕ → State → State → Type 0
SameBelow n s t = (p : ℕ) → p < n → s p ≡ t p

-- at the first atom in which the two differ, s is without it
pub record ComesBefore (s t : State) : Type 0 where
  pub at : ℕ
  pub alike : SameBelow at s t
  pub absent : s at ≡ false
  pub present : t at ≡ true

-- ---- literals

-- a literal is true in a state
abbrev pub holds : State → Valuation
holds s l = signed l.positive (s l.atom.0)

-- the least of the literals that isn't so
pub record IsLeastMissing (k : Valuation) (ls : List Lit) (l : Lit) : Type 0 where
  pub among : Member ls l
  pub missing : k l ≡ false
  pub least : (m : Lit) → Member ls m → k m ≡ false → code_of l ≤ code_of m

-- ---- models

-- each clause has a true literal, and no closed atom is true
abbrev pub is_model : Initial → State → Bool
is_model i s = list_all (list_any (holds s)) i.clauses && list_all (λ p. not (s p.0)) i.closed

-- ---- steps

-- some effect with this result has a condition all of which is so
abbrev pub fires : List Effect → Valuation → Valuation
fires es k l = list_any (λ e. same_lit e.result l && list_all k e.cond) es

-- the state after an action: deleted atoms go, and then added ones come
abbrev pub after : Action → State → State
after a s p = fires a.effects (holds s) (positive p) || (s p && not (fires a.effects (holds s) (negative p)))

-- there is such an action, and its precondition holds
abbrev pub applicable : Option Action → State → Bool
applicable None s = false
applicable (Some a) s = list_all (holds s) a.pre

-- the state after a step; nothing changes where there is no such action
abbrev pub next : Option Action → State → State
next None s = s
next (Some a) s = after a s

-- ---- runs and plans

-- each step is applicable in its turn
abbrev pub runs : Ground → State → List ℕ → Bool
runs g s [] = true
runs g s (n ∷ ns) = applicable (slice_get g.actions n) s && runs g (next (slice_get g.actions n) s) ns

-- the state at the end of the steps
abbrev pub state_after : Ground → State → List ℕ → State
state_after g s [] = s
state_after g s (n ∷ ns) = state_after g (next (slice_get g.actions n) s) ns

-- each step is applicable in its turn, and the goal holds at the end
abbrev pub succeeds : Ground → State → List ℕ → Bool
succeeds g s [] = list_all (holds s) g.goal
succeeds g s (n ∷ ns) = applicable (slice_get g.actions n) s && succeeds g (next (slice_get g.actions n) s) ns

-- the steps succeed from each model, run by itself
abbrev pub IsGroundPlan : Ground → Initial → List ℕ → Type 0
IsGroundPlan g i ns = (s : State) → is_model i s ≡ true → succeeds g s ns ≡ true

-- ---- what is asked in its turn

-- an action's precondition
abbrev pub pre_of : Option Action → List Lit
pre_of None = []
pre_of (Some a) = a.pre

-- what must hold before a step, which is its precondition; where no step is left, the goal
abbrev pub asked : Ground → Option ℕ → List Lit
asked g None = g.goal
asked g (Some n) = pre_of (slice_get g.actions n)
