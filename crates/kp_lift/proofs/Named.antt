-- The operator of a step of the machine, by number, has the step's name.
use Rattle.std.proofs.Common.{◌≡◌, ◌<◌, ◌+◌, ℕ, zero, suc, Bool, true, false, if◌then◌else◌, List, [], ◌∷◌, Some, option_map, map, length, slice_get, nat_lt, ltb-true, refl, sym, ap, ◌∙◌, subst, arith}
use Rattle.std.proofs.lemmas.Bool.{and_parts, lt-ltb}
use Rattle.std.proofs.lemmas.List.{length-map, length-append}
use Rattle.std.proofs.lemmas.Option.{slice_get-map}
use Rattle.std.specs.List.{AllByRecursion, list_all}
use Rattle.kp_base.specs.declared.ground.Ground.{Ground}
use Rattle.kp_base.specs.declared.ground.TagTable.{TagTable}
use Rattle.kp_base.specs.declared.ground.Merge.{Merge}
use Rattle.kp_base.specs.Machine.{MachineStep, Known, start, after_act, after_merge}
use Rattle.kp_base.proofs.Lists.{each_append}
use Rattle.kp_base.proofs.Places.{element, get_left, get_right}
use Rattle.kp_classic.specs.declared.task.Task.{Task}
use Rattle.kp_law_tagged_machine.specs.Lifts.{adds, after_merges, merges_taken, lift_of, lift_from}
use Rattle.kp_law_ktask.specs.Task.{op_of, merge_op, merge_ops_from, task_of}
use Rattle.kp_law_ktask.specs.Accepted.{op_number, op_step, operator_step, step_at}
use Rattle.kp_lift.specs.Lifting.{IsThere, OperatorsAreSteps, LiftedOperatorsAreSteps}

-- ---- one step

-- the operator of the merge of this number, in a list of which the first has number m
merge_at : (n m : ℕ) (xs : List Merge) (d : ℕ) → slice_get (merge_ops_from n m xs) d ≡ option_map (merge_op n (m + d)) (slice_get xs d)
merge_at n m [] d = refl
merge_at n m (x ∷ xs) zero = let same : m ≡ m + 0 = omega arith in ap (λ i. Some (merge_op n i x)) same
merge_at n m (x ∷ xs) (suc d) = let same : suc m + d ≡ m + suc d = omega arith in merge_at n (suc m) xs d ∙ ap (λ i. option_map (merge_op n i) (slice_get xs d)) same

pub operators_steps : OperatorsAreSteps
operators_steps g table (MachineStep.act n) lt =
    let a = element g.actions n lt in
    let op = op_of (length g.atoms) (length table.tags) in
    let there : slice_get (map op g.actions) n ≡ Some (op a.0) = slice_get-map op g.actions n ∙ ap (option_map op) a.1 in
    ap (option_map op_step) (get_left (map op g.actions) (merge_ops_from (length g.atoms) 0 table.merges) n (op a.0) there)
    ∙ rw a.1 refl
operators_steps g table (MachineStep.merge m) lt =
    let x = element table.merges m lt in
    let op = op_of (length g.atoms) (length table.tags) in
    let size = length-map g.actions op in
    let same : 0 + m ≡ m = omega arith in
    ap (option_map op_step) (get_right (map op g.actions) (merge_ops_from (length g.atoms) 0 table.merges) m (length g.actions + m) (omega (arith, size))
    ∙ merge_at (length g.atoms) 0 table.merges m ∙ ap (λ i. option_map (merge_op (length g.atoms) i) (slice_get table.merges m)) same)
    ∙ rw x.1 refl

-- ---- lifted lists

-- the merges that are taken are there, where the first of all has number n
merges_there : (g : Ground) (table : TagTable) (n : ℕ) (ms : List Merge) (k : Known) → n + length ms ≡ length table.merges → AllByRecursion (IsThere g table) (merges_taken n ms k)
merges_there g table n [] k size = tt
merges_there g table n (m ∷ ms) k size =
    here (λ j. merges_there g table (suc n) ms j (omega (arith, size))) (adds m k)
  where
    here : ((j : Known) → AllByRecursion (IsThere g table) (merges_taken (suc n) ms j)) → (b : Bool) → AllByRecursion (IsThere g table) (if b then MachineStep.merge n ∷ merges_taken (suc n) ms (after_merge (Some m) k) else merges_taken (suc n) ms k)
    here rest true = (omega (arith, size), rest (after_merge (Some m) k))
    here rest false = rest k

lifted_there : (g : Ground) (table : TagTable) (ns : List ℕ) (k : Known) → list_all (λ n. nat_lt n (length g.actions)) ns ≡ true → AllByRecursion (IsThere g table) (lift_from g table k ns)
lifted_there g table [] k inside = merges_there g table 0 table.merges k (omega arith)
lifted_there g table (n ∷ ns) k inside =
    let parts = and_parts (nat_lt n (length g.actions)) (list_all (λ n. nat_lt n (length g.actions)) ns) inside in
    let next = after_act (slice_get g.actions n) (after_merges table.merges k) in
    each_append (IsThere g table) (merges_taken 0 table.merges k) (MachineStep.act n ∷ lift_from g table next ns)
    (merges_there g table 0 table.merges k (omega arith)) (ltb-true n (length g.actions) parts.0, lifted_there g table ns next parts.1)

steps_there : (g : Ground) (table : TagTable) (ms : List MachineStep) → AllByRecursion (IsThere g table) ms → map (operator_step (task_of g table)) (map (op_number g) ms) ≡ map (step_at g table) ms
steps_there g table [] there = refl
steps_there g table (m ∷ ms) there = rw (operators_steps g table m there.0, steps_there g table ms there.1) refl

pub lifted_operators_steps : LiftedOperatorsAreSteps
lifted_operators_steps g table ns inside = steps_there g table (lift_of g table ns) (lifted_there g table ns (start table) inside)

-- ---- how many there are

merges_count : (n m : ℕ) (xs : List Merge) → length (merge_ops_from n m xs) ≡ length xs
merges_count n m [] = refl
merges_count n m (x ∷ xs) = ap suc (merges_count n (suc m) xs)

-- an operator for each action and each merge
pub operators_count : (g : Ground) (table : TagTable) → length (task_of g table).ops ≡ length g.actions + length table.merges
operators_count g table =
    let op = op_of (length g.atoms) (length table.tags) in
    let first = length-map g.actions op in
    let rest = merges_count (length g.atoms) 0 table.merges in
    length-append (map op g.actions) (merge_ops_from (length g.atoms) 0 table.merges) ∙ omega (arith, first, rest)

number_below : (g : Ground) (table : TagTable) (m : MachineStep) → IsThere g table m → op_number g m < length (task_of g table).ops
number_below g table (MachineStep.act n) lt = let size = operators_count g table in omega (arith, lt, size)
number_below g table (MachineStep.merge m) lt = let size = operators_count g table in omega (arith, lt, size)

numbers_below : (g : Ground) (table : TagTable) (ms : List MachineStep) → AllByRecursion (IsThere g table) ms → list_all (λ n. nat_lt n (length (task_of g table).ops)) (map (op_number g) ms) ≡ true
numbers_below g table [] there = refl
numbers_below g table (m ∷ ms) there = rw (lt-ltb (op_number g m) (length (task_of g table).ops) (number_below g table m there.0), numbers_below g table ms there.1) refl

-- the operators of a lifted list are of the task
pub lifted_below : (g : Ground) (table : TagTable) (ns : List ℕ) → list_all (λ n. nat_lt n (length g.actions)) ns ≡ true → list_all (λ n. nat_lt n (length (task_of g table).ops)) (map (op_number g) (lift_of g table ns)) ≡ true
lifted_below g table ns inside = numbers_below g table (lift_of g table ns) (lifted_there g table ns (start table) inside)

pub operators_below : (g : Ground) (table : TagTable) (task : Task) (ns ops : List ℕ) → task ≡ task_of g table → list_all (λ n. nat_lt n (length g.actions)) ns ≡ true → ops ≡ map (op_number g) (lift_of g table ns) → list_all (λ n. nat_lt n (length task.ops)) ops ≡ true
operators_below g table task ns ops of inside are =
    subst (λ (t : Task). list_all (λ n. nat_lt n (length t.ops)) ops ≡ true) (sym of)
    (subst (λ (os : List ℕ). list_all (λ n. nat_lt n (length (task_of g table).ops)) os ≡ true) (sym are) (lifted_below g table ns inside))

-- a `u32` counts actions and merges where it counts the operators
pub few_operators : (g : Ground) (table : TagTable) (task : Task) → task ≡ task_of g table → nat_lt (length task.ops) 4294967296 ≡ true → length g.actions + length table.merges < 4294967296
few_operators g table task of few =
    subst (λ n. n < 4294967296) (ap (λ (t : Task). length t.ops) of ∙ operators_count g table) (ltb-true (length task.ops) 4294967296 few)
