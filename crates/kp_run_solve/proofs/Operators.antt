-- The operators of the task of a ground problem and a table are steps of the tagged machine.
use Rattle.std.proofs.Common.{◌≡◌, ◌<◌, ◌+◌, ◌-◌, ℕ, Bool, true, false, if◌then◌else◌, List, [], ◌∷◌, ◌++◌, Some, drop, append_assoc, option_map, map, length, nat_lt, ltb-true, refl, sym, ap, ◌∙◌, arith}
use Rattle.std.specs.List.{list_all}
use Rattle.std.proofs.lemmas.Bool.{and_parts, ltb-false}
use Rattle.kp_base.specs.declared.ground.GroundName.{GroundName}
use Rattle.kp_base.specs.declared.ground.Ground.{Ground}
use Rattle.kp_base.specs.declared.ground.TagTable.{TagTable}
use Rattle.kp_base.specs.declared.ground.Action.{Action}
use Rattle.kp_base.specs.Machine.{MachineStep, stripped}
use Rattle.kp_base.proofs.Places.{element}
use Rattle.kp_names_semantics.specs.Steps.{Step}
use Rattle.kp_law_ktask.specs.Task.{task_of}
use Rattle.kp_base.specs.ActionNames.{action_name}
use Rattle.kp_law_ktask.specs.Accepted.{op_number, operator_step, step_at}
use Rattle.kp_lift.specs.Lifting.{IsThere}
use Rattle.kp_lift.proofs.Public.{operators_are_counted, operators_are_steps}
use Rattle.kp_run_solve.specs.Operators.{step_of, acts_among, NameActions}
use Rattle.kp_run_solve.specs.Laws.{OperatorsHaveNames}
use Rattle.kp_run_solve.specs.Solving.{AreNamed}

-- ---- one operator

-- its step has its number
pub number_back : (g : Ground) (n : ℕ) → op_number g (step_of g n) ≡ n
number_back g n = go (nat_lt n (length g.actions)) refl
  where
    go : (b : Bool) → nat_lt n (length g.actions) ≡ b → op_number g (if b then MachineStep.act n else MachineStep.merge (n - length g.actions)) ≡ n
    go true e = refl
    go false e = let past = ltb-false n (length g.actions) e in omega (arith, past)

-- its step is there
pub there : (g : Ground) (table : TagTable) (n : ℕ) → n < length (task_of g table).ops → IsThere g table (step_of g n)
there g table n below = go (nat_lt n (length g.actions)) refl
  where
    go : (b : Bool) → nat_lt n (length g.actions) ≡ b → IsThere g table (if b then MachineStep.act n else MachineStep.merge (n - length g.actions))
    go true e = ltb-true n (length g.actions) e
    go false e = let past = ltb-false n (length g.actions) e in let many = operators_are_counted g table in omega (arith, past, many, below)

-- and has its step by name
pub named_so : (g : Ground) (table : TagTable) (n : ℕ) → n < length (task_of g table).ops → step_at g table (step_of g n) ≡ operator_step (task_of g table) n
named_so g table n below = sym (operators_are_steps g table (step_of g n) (there g table n below)) ∙ ap (operator_step (task_of g table)) (number_back g n)

-- ---- lists of operators

pub numbers_back : (g : Ground) (ops : List ℕ) → map (op_number g) (map (step_of g) ops) ≡ ops
numbers_back g [] = refl
numbers_back g (n ∷ ops) = cc (number_back g n, numbers_back g ops)

pub all_named : (g : Ground) (table : TagTable) (ops : List ℕ) → list_all (λ n. nat_lt n (length (task_of g table).ops)) ops ≡ true → map (step_at g table) (map (step_of g) ops) ≡ map (operator_step (task_of g table)) ops
all_named g table [] all = refl
all_named g table (n ∷ ops) all =
    let parts = and_parts (nat_lt n (length (task_of g table).ops)) (list_all (λ k. nat_lt k (length (task_of g table).ops)) ops) all in
    cc (named_so g table n (ltb-true n (length (task_of g table).ops) parts.0), all_named g table ops parts.1)

-- the actions among the steps are the operators that are actions
pub actions_are : (g : Ground) (ops : List ℕ) → stripped (map (step_of g) ops) ≡ acts_among (length g.actions) ops
actions_are g [] = refl
actions_are g (n ∷ ops) = go (actions_are g ops) (nat_lt n (length g.actions))
  where
    go : stripped (map (step_of g) ops) ≡ acts_among (length g.actions) ops → (b : Bool) → stripped ((if b then MachineStep.act n else MachineStep.merge (n - length g.actions)) ∷ map (step_of g) ops) ≡ (if b then n ∷ acts_among (length g.actions) ops else acts_among (length g.actions) ops)
    go rest true = ap (n ∷◌) rest
    go rest false = rest

pub are_named : (g : Ground) (table : TagTable) (ops : List ℕ) (written plan : List GroundName) → list_all (λ n. nat_lt n (length (task_of g table).ops)) ops ≡ true
    → map (operator_step (task_of g table)) ops ≡ map Some written → NameActions g ops plan → AreNamed g table ops written plan
are_named g table ops written plan inside steps names = record {
  machine = map (step_of g) ops;
  numbers = numbers_back g ops;
  steps_are = all_named g table ops inside ∙ steps;
  actions_are = ap (map (action_name g)) (actions_are g ops) ∙ names;
}

-- one more operator's name, if it is an action
pub names_more : (g : Ground) (old new : List GroundName) (ops rest : List ℕ) (i x : ℕ) → drop i ops ≡ x ∷ rest → map Some new ≡ map Some old ++ map (action_name g) (acts_among (length g.actions) (x ∷ []))
    → map Some old ++ map (action_name g) (acts_among (length g.actions) (drop i ops)) ≡ map (action_name g) (acts_among (length g.actions) ops) → map Some new ++ map (action_name g) (acts_among (length g.actions) rest) ≡ map (action_name g) (acts_among (length g.actions) ops)
names_more g old new ops rest i x left put so_far =
    ap (λ z. z ++ map (action_name g) (acts_among (length g.actions) rest)) put ∙ (append_assoc (map Some old) (map (action_name g) (acts_among (length g.actions) (x ∷ []))) (map (action_name g) (acts_among (length g.actions) rest))
    ∙ (ap (map Some old ++◌) (split (nat_lt x (length g.actions))) ∙ (ap (λ z. map Some old ++ map (action_name g) (acts_among (length g.actions) z)) (sym left) ∙ so_far)))
  where
    split : (b : Bool) → map (action_name g) (if b then x ∷ [] else []) ++ map (action_name g) (acts_among (length g.actions) rest) ≡ map (action_name g) (if b then x ∷ acts_among (length g.actions) rest else acts_among (length g.actions) rest)
    split true = refl
    split false = refl

-- where all operators are actions, they are the actions among them
pub all_actions : (n : ℕ) (ops : List ℕ) → list_all (λ k. nat_lt k n) ops ≡ true → acts_among n ops ≡ ops
all_actions n [] all = refl
all_actions n (k ∷ ops) all =
    let parts = and_parts (nat_lt k n) (list_all (λ m. nat_lt m n) ops) all in
    rw parts.0 (ap (k ∷◌) (all_actions n ops parts.1))

-- ---- names

-- an operator that is there has a step by name
step_named : (g : Ground) (table : TagTable) (n : ℕ) → n < length (task_of g table).ops → (s : Step) × (operator_step (task_of g table) n ≡ Some s)
step_named g table n below = let o = element (task_of g table).ops n below in (record { head = o.0.name; objects = [] }, rw o.1 refl)

pub steps_named : (g : Ground) (table : TagTable) (ops : List ℕ) → list_all (λ n. nat_lt n (length (task_of g table).ops)) ops ≡ true → (written : List Step) × (map (operator_step (task_of g table)) ops ≡ map Some written)
steps_named g table [] all = ([], refl)
steps_named g table (n ∷ ops) all =
    let parts = and_parts (nat_lt n (length (task_of g table).ops)) (list_all (λ k. nat_lt k (length (task_of g table).ops)) ops) all in
    let first = step_named g table n (ltb-true n (length (task_of g table).ops) parts.0) in
    let rest = steps_named g table ops parts.1 in
    (first.0 ∷ rest.0, cc (first.1, rest.1))

-- so do the actions among operators
pub acts_named : (g : Ground) (ops : List ℕ) → (plan : List Step) × NameActions g ops plan
acts_named g [] = ([], refl)
acts_named g (n ∷ ops) = go (nat_lt n (length g.actions)) refl (acts_named g ops)
  where
    go : (b : Bool) → nat_lt n (length g.actions) ≡ b → ((plan : List Step) × NameActions g ops plan) → (plan : List Step) × (map (action_name g) (if b then n ∷ acts_among (length g.actions) ops else acts_among (length g.actions) ops) ≡ map Some plan)
    go true e rest = let a = element g.actions n (ltb-true n (length g.actions) e) in let here : action_name g n ≡ Some a.0.name = ap (option_map (λ (x : Action). x.name)) a.1 in (a.0.name ∷ rest.0, cc (here, rest.1))
    go false e rest = rest

pub have_names : OperatorsHaveNames
have_names g table ops inside =
    let steps = steps_named g table ops inside in
    let names = acts_named g ops in
    (steps.0, names.0, are_named g table ops steps.0 names.0 inside steps.1 names.1)
