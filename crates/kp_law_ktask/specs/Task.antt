-- The task of a ground problem and a table of tags and merges: its facts say which literals are known under which tag.
use Rattle.std.specs.Prelude.{ℕ, zero, suc, ◌+◌, ◌*◌, true, false, List, [], ◌∷◌, ◌++◌, map, length, decimal}
use Rattle.std.specs.List.{flat_map}
use Rattle.kp_base.specs.declared.lit.Lit.{Lit}
use Rattle.kp_base.specs.declared.ground.GroundName.{GroundName}
use Rattle.kp_base.specs.declared.ground.Effect.{Effect}
use Rattle.kp_base.specs.declared.ground.Action.{Action}
use Rattle.kp_base.specs.declared.ground.Ground.{Ground}
use Rattle.kp_base.specs.declared.ground.TagRow.{TagRow}
use Rattle.kp_base.specs.declared.ground.TagTable.{TagTable}
use Rattle.kp_base.specs.declared.ground.Merge.{Merge}
use Rattle.kp_base.specs.Lit.{positive, negative, negated, code_of}
use Rattle.kp_names_semantics.specs.Encoding.{encoded}
use Rattle.kp_names_semantics.specs.Strip.{do_front, merge_front}
use Rattle.kp_classic.specs.declared.task.Conds.{Conds}
use Rattle.kp_classic.specs.declared.task.OpEffect.{OpEffect}
use Rattle.kp_classic.specs.declared.task.Op.{Op}
use Rattle.kp_classic.specs.declared.task.Task.{Task}
use Rattle.kp_write.specs.Facts.{fact_of, opposites}

-- ---- facts

-- a fact: that the literal is known under the tag
pub record Fact : Type 0 where
  pub tag : ℕ
  pub lit : Lit

-- its name
abbrev pub name_of_fact : List GroundName → Fact → List ℕ
name_of_fact atoms f = fact_of atoms f.tag f.lit

-- the literals of n atoms from number i on, by code
abbrev pub lits_from : ℕ → ℕ → List Lit
lits_from i zero = []
lits_from i (suc n) = positive i ∷ negative i ∷ lits_from (suc i) n

-- that some literals are known under a tag
abbrev pub under : ℕ → List Lit → List Fact
under t ls = map (λ l. record { tag = t; lit = l }) ls

-- literals under each of n tags from t on
abbrev pub facts_from : ℕ → ℕ → List Lit → List Fact
facts_from t zero ls = []
facts_from t (suc n) ls = under t ls ++ facts_from (suc t) n ls

-- all facts, by number: under each tag in turn, each literal of an atom
abbrev pub facts_of : Ground → TagTable → List Fact
facts_of g table = facts_from 0 (length table.tags) (lits_from 0 (length g.atoms))

-- the closures of some tags, the first of which has number t
abbrev pub starts_from : ℕ → List TagRow → List Fact
starts_from t [] = []
starts_from t (row ∷ rows) = under t row.closure ++ starts_from (suc t) rows

-- what holds at the start: under each tag the literals of its closure
abbrev pub start_of : TagTable → List Fact
start_of table = starts_from 0 table.tags

-- the number of a fact, with so many atoms: the code of its literal, and as many more as there are literals under the earlier tags
abbrev pub number : ℕ → Fact → ℕ
number atoms f = f.tag * (2 * atoms) + code_of f.lit

-- some literals under a tag, by number
abbrev pub numbers : ℕ → ℕ → List Lit → List ℕ
numbers atoms tag ls = map (number atoms) (under tag ls)

-- ---- operators

-- these must hold
abbrev pub all_of : List ℕ → Conds
all_of fs = record { yes = fs; no = [] }

-- none of these must hold
abbrev pub none_of : List ℕ → Conds
none_of fs = record { yes = []; no = fs }

-- where the conditions are known under the tag, the result becomes known
abbrev pub support : ℕ → ℕ → Effect → OpEffect
support atoms tag e = record { cond = all_of (numbers atoms tag e.cond); fact = number atoms (record { tag = tag; lit = e.result }); adds = true }

-- where the negation of no condition is known, the negation of the result is known no longer
abbrev pub cancellation : ℕ → ℕ → Effect → OpEffect
cancellation atoms tag e = record { cond = none_of (numbers atoms tag (opposites e.cond)); fact = number atoms (record { tag = tag; lit = negated e.result }); adds = false }

-- both, under a tag
abbrev pub effects_under : ℕ → ℕ → Effect → List OpEffect
effects_under atoms tag e = support atoms tag e ∷ cancellation atoms tag e ∷ []

-- those of all effects, for each of so many tags from t on
abbrev pub effects_from : ℕ → ℕ → ℕ → List Effect → List OpEffect
effects_from atoms tag zero es = []
effects_from atoms tag (suc tags) es = flat_map (effects_under atoms tag) es ++ effects_from atoms (suc tag) tags es

-- the operator of an action: its precondition is known under tag 0, and its effects are those under each tag
abbrev pub op_of : ℕ → ℕ → Action → Op
op_of atoms tags a = record { name = do_front ++ encoded a.name; pre = all_of (numbers atoms 0 a.pre); effects = effects_from atoms 0 tags a.effects }

-- the name of the operator of a merge
abbrev pub merge_word : ℕ → List ℕ
merge_word m = merge_front ++ decimal m

-- the operator of a merge of number m: where its target is known under each of its tags, it becomes known under tag 0
abbrev pub merge_op : ℕ → ℕ → Merge → Op
merge_op atoms m x = record {
  name = merge_word m;
  pre = all_of (map (λ tag. number atoms (record { tag = tag; lit = x.target })) x.tags);
  effects = record { cond = all_of []; fact = number atoms (record { tag = 0; lit = x.target }); adds = true } ∷ [];
}

-- those of some merges, the first of which has number m
abbrev pub merge_ops_from : ℕ → ℕ → List Merge → List Op
merge_ops_from atoms m [] = []
merge_ops_from atoms m (x ∷ xs) = merge_op atoms m x ∷ merge_ops_from atoms (suc m) xs

-- ---- the task

-- its facts are all facts, its operators one for each action and then one for each merge, and its goal is known under tag 0
abbrev pub task_of : Ground → TagTable → Task
task_of g table = record {
  facts = map (name_of_fact g.atoms) (facts_of g table);
  init = map (number (length g.atoms)) (start_of table);
  goal = all_of (numbers (length g.atoms) 0 g.goal);
  ops = map (op_of (length g.atoms) (length table.tags)) g.actions ++ merge_ops_from (length g.atoms) 0 table.merges;
}
