-- The task by name of a task by number, and its two texts.
use Rattle.std.specs.Prelude.{ℕ, Bool, true, false, List, [], ◌++◌, map, slice_get, unwrap_or}
use Rattle.kp_classic.specs.declared.task.Conds.{Conds}
use Rattle.kp_classic.specs.declared.task.OpEffect.{OpEffect}
use Rattle.kp_classic.specs.declared.task.Op.{Op as NumberedOp}
use Rattle.kp_classic.specs.declared.task.Task.{Task}
use Rattle.kp_write.specs.Operators.{Signed, Effect, Op}
use Rattle.kp_write.specs.Written.{domain_text, problem_text}

-- the name of a fact; empty where there is no such fact
abbrev pub fact_name : List (List ℕ) → ℕ → List ℕ
fact_name facts f = unwrap_or (slice_get facts f) []

-- that the fact holds, or doesn't
abbrev pub signed_fact : List (List ℕ) → Bool → ℕ → Signed
signed_fact facts holds f = record { holds = holds; fact = fact_name facts f }

-- conditions: the facts that must hold, and then those that must not
abbrev pub named_conds : List (List ℕ) → Conds → List Signed
named_conds facts c = map (signed_fact facts true) c.yes ++ map (signed_fact facts false) c.no

-- an effect
abbrev pub named_effect : List (List ℕ) → OpEffect → Effect
named_effect facts e = record { conds = named_conds facts e.cond; result = signed_fact facts e.adds e.fact }

-- an operator; its precondition are the facts that must hold
abbrev pub named_op : List (List ℕ) → NumberedOp → Op
named_op facts o = record { name = o.name; pre = map (fact_name facts) o.pre.yes; effects = map (named_effect facts) o.effects }

-- the operators
abbrev pub named_ops : Task → List Op
named_ops t = map (named_op t.facts) t.ops

-- what holds at the start
abbrev pub named_start : Task → List (List ℕ)
named_start t = map (fact_name t.facts) t.init

-- the facts of the goal that must hold
abbrev pub named_goal : Task → List (List ℕ)
named_goal t = map (fact_name t.facts) t.goal.yes

-- ---- texts

-- the bytes of the domain file
abbrev pub domain_of : Task → List ℕ
domain_of t = domain_text t.facts (named_ops t)

-- the bytes of the problem file
abbrev pub problem_of : Task → List ℕ
problem_of t = problem_text (named_start t) (named_goal t)
