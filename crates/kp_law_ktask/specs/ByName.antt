-- The task of a ground problem and a table by name of its facts, as laws speak of its texts. It is the one by number, read by name.
use Rattle.std.specs.Prelude.{◌≡◌, ℕ, zero, suc, true, List, [], ◌∷◌, ◌++◌, Option, option_map, map, length, slice_get}
use Rattle.std.specs.List.{flat_map}
use Rattle.kp_base.specs.declared.ground.GroundName.{GroundName}
use Rattle.kp_base.specs.declared.ground.Effect.{Effect as GroundEffect}
use Rattle.kp_base.specs.declared.ground.Action.{Action}
use Rattle.kp_base.specs.declared.ground.Ground.{Ground}
use Rattle.kp_base.specs.declared.ground.TagTable.{TagTable}
use Rattle.kp_base.specs.declared.ground.Merge.{Merge}
use Rattle.kp_base.specs.Machine.{MachineStep}
use Rattle.kp_names_semantics.specs.Encoding.{encoded}
use Rattle.kp_names_semantics.specs.Strip.{do_front}
use Rattle.kp_law_ktask.specs.Task.{Fact, name_of_fact, under, facts_of, start_of, merge_word, task_of}
use Rattle.kp_write.specs.Operators.{Op, Effect}
use Rattle.kp_write.specs.Facts.{fact_of, known, support, cancellation}
use Rattle.kp_write.specs.Written.{domain_text, problem_text}
use Rattle.kp_write.specs.Named.{named_ops, named_start, named_goal}
use Rattle.kp_law_ktask.specs.Writable.{IsWritableTask}

-- the goal, under tag 0
abbrev pub goal_of : Ground → List Fact
goal_of g = under 0 g.goal

-- the names of some facts
abbrev pub names_of : Ground → List Fact → List (List ℕ)
names_of g fs = map (name_of_fact g.atoms) fs

-- ---- operators

-- the support and the cancellation of an effect under a tag
abbrev pub effects_under : List GroundName → ℕ → GroundEffect → List Effect
effects_under atoms t e = support atoms t e ∷ cancellation atoms t e ∷ []

-- those of all effects, for each of n tags from t on
abbrev pub effects_from : List GroundName → ℕ → ℕ → List GroundEffect → List Effect
effects_from atoms t zero es = []
effects_from atoms t (suc n) es = flat_map (effects_under atoms t) es ++ effects_from atoms (suc t) n es

-- the operator of an action, with so many tags
abbrev pub op_of : List GroundName → ℕ → Action → Op
op_of atoms tags a = record { name = do_front ++ encoded a.name; pre = map (fact_of atoms 0) a.pre; effects = effects_from atoms 0 tags a.effects }

-- the operator of a merge of this number: where its target is known under each of its tags, it becomes known under tag 0
abbrev pub merge_op : List GroundName → ℕ → Merge → Op
merge_op atoms m x = record { name = merge_word m; pre = map (λ t. fact_of atoms t x.target) x.tags; effects = record { conds = []; result = known atoms 0 true x.target } ∷ [] }

-- those of some merges, the first of which has number m
abbrev pub merge_ops_from : List GroundName → ℕ → List Merge → List Op
merge_ops_from atoms m [] = []
merge_ops_from atoms m (x ∷ xs) = merge_op atoms m x ∷ merge_ops_from atoms (suc m) xs

-- the operators: one for each action, then one for each merge
abbrev pub ops_of : Ground → TagTable → List Op
ops_of g table = map (op_of g.atoms (length table.tags)) g.actions ++ merge_ops_from g.atoms 0 table.merges

-- the operator of a step of the machine
abbrev pub op_at : Ground → TagTable → MachineStep → Option Op
op_at g table (MachineStep.act n) = option_map (op_of g.atoms (length table.tags)) (slice_get g.actions n)
op_at g table (MachineStep.merge m) = option_map (merge_op g.atoms m) (slice_get table.merges m)

-- ---- texts

-- the text of the domain
abbrev pub domain_file : Ground → TagTable → List ℕ
domain_file g table = domain_text (names_of g (facts_of g table)) (ops_of g table)

-- the text of the problem
abbrev pub problem_file : Ground → TagTable → List ℕ
problem_file g table = problem_text (names_of g (start_of table)) (names_of g (goal_of g))

-- ---- a law

-- where the ground problem and the table can be written, their task by number is this one by name
pub record IsNamed (g : Ground) (table : TagTable) : Type 0 where
  pub operators : named_ops (task_of g table) ≡ ops_of g table
  pub start : named_start (task_of g table) ≡ names_of g (start_of table)
  pub goal : named_goal (task_of g table) ≡ names_of g (goal_of g)

abbrev pub TasksAreNamed : Type 0
TasksAreNamed = (g : Ground) (table : TagTable) → IsWritableTask g table → IsNamed g table
