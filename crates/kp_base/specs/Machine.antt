-- The tagged machine: which literals are known under which tag, and how actions and merges change it.
use Rattle.std.specs.Prelude.{ℕ, Bool, false, not, ◌&&◌, ◌||◌, List, [], ◌∷◌, Option, Some, None, nat_eq, slice_get}
use Rattle.std.specs.List.{list_any, list_all}
use Rattle.kp_base.specs.declared.lit.Lit.{Lit}
use Rattle.kp_base.specs.declared.ground.Effect.{Effect}
use Rattle.kp_base.specs.declared.ground.Action.{Action}
use Rattle.kp_base.specs.declared.ground.Ground.{Ground}
use Rattle.kp_base.specs.declared.ground.TagRow.{TagRow}
use Rattle.kp_base.specs.declared.ground.TagTable.{TagTable}
use Rattle.kp_base.specs.declared.ground.Merge.{Merge}
use Rattle.kp_base.specs.Lit.{negated, same_lit}
use Rattle.kp_base.specs.Steps.{Valuation, has, fires}

-- a step of the machine: an action or a merge, by number
pub data MachineStep : Type 0 where
  act : ℕ → MachineStep
  merge : ℕ → MachineStep

-- the literals that are known under each tag, by the tag's number
abbrev pub Known : Type 0
Known = ℕ → Valuation

-- the closure of a tag; nothing where there is no such tag
abbrev pub closure_of : Option TagRow → List Lit
closure_of None = []
closure_of (Some row) = row.closure

-- at the start the literals of its closure are known under a tag
abbrev pub start : TagTable → Known
start table t = has (closure_of (slice_get table.tags t))

-- ---- actions

-- no effect undoes the literal: each effect with its negation as result has a condition whose negation is known
abbrev pub persists : List Effect → Valuation → Valuation
persists es k l = list_all (λ e. not (same_lit e.result (negated l)) || list_any (λ c. k (negated c)) e.cond) es

-- what is known under one tag after an action: what fires, and what was known and persists
abbrev pub facts_after : Action → Valuation → Valuation
facts_after a k l = fires a.effects k l || (k l && persists a.effects k l)

-- there is such an action, and its precondition is known under tag 0
abbrev pub may_act : Option Action → Known → Bool
may_act None k = false
may_act (Some a) k = list_all (k 0) a.pre

-- what is known after an action, for each tag by itself
abbrev pub after_act : Option Action → Known → Known
after_act None k = k
after_act (Some a) k = λ t. facts_after a (k t)

-- ---- merges

-- there is such a merge, and its target is known under each of its tags
abbrev pub may_merge : Option Merge → Known → Bool
may_merge None k = false
may_merge (Some m) k = list_all (λ t. k t m.target) m.tags

-- what is known after a merge: its target under tag 0 too
abbrev pub after_merge : Option Merge → Known → Known
after_merge None k = k
after_merge (Some m) k = λ t l. k t l || (nat_eq t 0 && same_lit m.target l)

-- ---- lists of steps

-- each step is allowed in its turn, and each literal of the goal is known under tag 0 at the end
abbrev pub accepts_from : Ground → TagTable → Known → List MachineStep → Bool
accepts_from g table k [] = list_all (k 0) g.goal
accepts_from g table k (MachineStep.act n ∷ steps) = may_act (slice_get g.actions n) k && accepts_from g table (after_act (slice_get g.actions n) k) steps
accepts_from g table k (MachineStep.merge m ∷ steps) = may_merge (slice_get table.merges m) k && accepts_from g table (after_merge (slice_get table.merges m) k) steps

-- the machine accepts the steps from its start
abbrev pub accepts : Ground → TagTable → List MachineStep → Bool
accepts g table steps = accepts_from g table (start table) steps

-- the actions of the steps: the merges are taken out
abbrev pub stripped : List MachineStep → List ℕ
stripped [] = []
stripped (MachineStep.act n ∷ steps) = n ∷ stripped steps
stripped (MachineStep.merge m ∷ steps) = stripped steps

-- ---- one tag

-- the table of the empty tag alone
abbrev pub one_tag_table : List Lit → TagTable
one_tag_table closure = record { tags = record { lits = []; closure = closure } ∷ []; merges = [] }
