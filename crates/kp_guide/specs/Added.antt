-- The estimate `added` (the additive heuristic, h_add): what the goal's facts cost together, if nothing were deleted and no two facts shared an operator.
use Rattle.std.specs.Prelude.{◌≡◌, ◌≤◌, ◌+◌, ℕ, true, min, nat_eq, List, [], ◌∷◌, ◌++◌, Option, Some, None, flat_map}
use Rattle.kp_base.specs.Lists.{Member, each_once, only_if}
use Rattle.kp_classic.specs.declared.task.OpEffect.{OpEffect}
use Rattle.kp_classic.specs.declared.task.Op.{Op}
use Rattle.kp_classic.specs.declared.task.Task.{Task}
use Rattle.kp_classic.specs.Steps.{Holding}
use Rattle.kp_guide.specs.declared.rule.Rule.{Rule}

-- ---- the rules of a task

-- an effect needs the facts that must hold for it, of the precondition and of its own condition, each once
abbrev pub rule_of : Op → OpEffect → Rule
rule_of o e = record { fact = e.fact; needs = each_once nat_eq (o.pre.yes ++ e.cond.yes) }

-- a rule for each effect that adds
abbrev pub rules_of_effect : Op → OpEffect → List Rule
rules_of_effect o e = only_if e.adds (rule_of o e ∷ [])

abbrev pub rules_of_op : Op → List Rule
rules_of_op o = flat_map (rules_of_effect o) o.effects

abbrev pub rules_of : Task → List Rule
rules_of t = flat_map rules_of_op t.ops

-- the facts that the goal asks to hold, each once
abbrev pub goal_of : Task → List ℕ
goal_of t = each_once nat_eq t.goal.yes

-- ---- costs

-- Some chain of rules reaches all these facts, at this cost together: a fact that holds costs nothing, and one that a rule adds costs one more than what the rule needs.
pub data Costs (rules : List Rule) (s : Holding) : List ℕ → ℕ → Type 0 where
  none : Costs rules s [] 0
  given : (f : ℕ) (fs : List ℕ) (n : ℕ) → s f ≡ true → Costs rules s fs n → Costs rules s (f ∷ fs) n
  by_rule : (r : Rule) (m : ℕ) (fs : List ℕ) (n : ℕ) → Member rules r → Costs rules s r.needs m → Costs rules s fs n → Costs rules s (r.fact ∷ fs) (1 + m + n)

-- the least cost of these facts, of which no more than a thousand million is told; none where no chain reaches them
abbrev pub IsLeast : List Rule → Holding → List ℕ → Option ℕ → Type 0
IsLeast rules s fs None = (n : ℕ) → Costs rules s fs n → ⊥
IsLeast rules s fs (Some h) = ((n : ℕ) × Costs rules s fs n × (h ≡ min n 1000000000)) × ((n : ℕ) → Costs rules s fs n → h ≤ n)

-- the estimate of what holds
abbrev pub IsAdded : Task → Holding → Option ℕ → Type 0
IsAdded t s h = IsLeast (rules_of t) s (goal_of t) h
