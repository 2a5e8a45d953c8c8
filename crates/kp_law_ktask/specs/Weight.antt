-- The weight of a task.
use Rattle.std.specs.Prelude.{◌≡◌, ℕ, ◌+◌, ◌*◌, length, sum_by}
use Rattle.kp_base.specs.declared.ground.Effect.{Effect}
use Rattle.kp_base.specs.declared.ground.Action.{Action}
use Rattle.kp_base.specs.declared.ground.Ground.{Ground}
use Rattle.kp_base.specs.declared.ground.TagTable.{TagTable}
use Rattle.kp_base.specs.declared.ground.Merge.{Merge}
use Rattle.kp_base.specs.LitSet.{IsAscending}
use Rattle.kp_classic.specs.declared.task.Conds.{Conds}
use Rattle.kp_classic.specs.declared.task.OpEffect.{OpEffect}
use Rattle.kp_classic.specs.declared.task.Op.{Op}
use Rattle.kp_classic.specs.declared.task.Task.{Task}
use Rattle.kp_write.specs.Facts.{opposites}
use Rattle.kp_law_ktask.specs.Task.{task_of}

-- how many conditions there are
abbrev pub size : Conds → ℕ
size c = length c.yes + length c.no

-- an effect counts one, and one for each condition
abbrev pub effect_weight : OpEffect → ℕ
effect_weight e = 1 + size e.cond

-- an operator counts one for each fact of its precondition, and its effects
abbrev pub op_weight : Op → ℕ
op_weight o = size o.pre + sum_by effect_weight o.effects

-- all operators
abbrev pub weight_of : Task → ℕ
weight_of t = sum_by op_weight t.ops

-- ---- the weight of a ground problem and a table, before any operator is made

-- the support and the cancellation of an effect under one tag
abbrev pub both_weight : Effect → ℕ
both_weight e = (1 + length e.cond) + (1 + length (opposites e.cond))

-- an action, with so many tags
abbrev pub action_weight : ℕ → Action → ℕ
action_weight tags a = length a.pre + tags * sum_by both_weight a.effects

-- a merge
abbrev pub merge_weight : Merge → ℕ
merge_weight m = length m.tags + 1

-- all actions and merges
abbrev pub counted_weight : Ground → TagTable → ℕ
counted_weight g table = sum_by (action_weight (length table.tags)) g.actions + sum_by merge_weight table.merges

-- ---- laws

-- so much is the weight of the task
abbrev pub WeightIsCounted : Type 0
WeightIsCounted = (g : Ground) (table : TagTable) → weight_of (task_of g table) ≡ counted_weight g table

-- there are two facts for each tag and atom
abbrev pub FactsAreCounted : Type 0
FactsAreCounted = (g : Ground) (table : TagTable) → length (task_of g table).facts ≡ length table.tags * (2 * length g.atoms)

-- an effect whose conditions are a set has as many in its cancellation
abbrev pub BothWeighAlike : Type 0
BothWeighAlike = (e : Effect) → IsAscending e.cond → both_weight e ≡ 2 * (1 + length e.cond)
