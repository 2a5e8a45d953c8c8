-- Steps of a task: which facts hold, and what operators change. Facts and operators go by number.
use Rattle.std.specs.Prelude.{ℕ, Bool, true, false, not, ◌&&◌, ◌||◌, List, [], ◌∷◌, Option, Some, None, nat_eq, slice_get}
use Rattle.std.specs.Bool.{beq}
use Rattle.std.specs.List.{list_any, list_all}
use Rattle.kp_classic.specs.declared.task.Conds.{Conds}
use Rattle.kp_classic.specs.declared.task.OpEffect.{OpEffect}
use Rattle.kp_classic.specs.declared.task.Op.{Op}
use Rattle.kp_classic.specs.declared.task.Task.{Task}

-- which facts hold
abbrev pub Holding : Type 0
Holding = ℕ → Bool

-- each fact of the one list holds, and none of the other
abbrev pub meets : Conds → Holding → Bool
meets c s = list_all s c.yes && list_all (λ f. not (s f)) c.no

-- ---- steps

-- some effect that adds the fact, or deletes it, has its conditions met
abbrev pub fires : List OpEffect → Holding → Bool → ℕ → Bool
fires es s adds f = list_any (λ e. beq adds e.adds && (nat_eq f e.fact && meets e.cond s)) es

-- what holds after an operator, all conditions being read before: deleted facts go, and then added ones come
abbrev pub after : Op → Holding → Holding
after o s f = fires o.effects s true f || (s f && not (fires o.effects s false f))

-- there is such an operator, and its precondition is met
abbrev pub applicable : Option Op → Holding → Bool
applicable None s = false
applicable (Some o) s = meets o.pre s

-- what holds after a step; nothing changes where there is no such operator
abbrev pub next : Option Op → Holding → Holding
next None s = s
next (Some o) s = after o s

-- ---- runs and plans

-- what holds at the start
abbrev pub start : Task → Holding
start t f = list_any (nat_eq f) t.init

-- each operator is applicable in its turn
abbrev pub runs : Task → Holding → List ℕ → Bool
runs t s [] = true
runs t s (n ∷ ns) = applicable (slice_get t.ops n) s && runs t (next (slice_get t.ops n) s) ns

-- what holds at the end of the operators
abbrev pub holding_after : Task → Holding → List ℕ → Holding
holding_after t s [] = s
holding_after t s (n ∷ ns) = holding_after t (next (slice_get t.ops n) s) ns

-- each operator is applicable in its turn, and the goal is met at the end
abbrev pub succeeds : Task → Holding → List ℕ → Bool
succeeds t s [] = meets t.goal s
succeeds t s (n ∷ ns) = applicable (slice_get t.ops n) s && succeeds t (next (slice_get t.ops n) s) ns
