-- The actions of operators that succeed work from each model.
use Rattle.std.proofs.Common.{◌≡◌, ◌++◌, ℕ, Bool, true, false, not, if◌then◌else◌, List, [], ◌∷◌, Some, option_map, drop, append_assoc, map, length, nat_lt, ltb-true, refl, sym, ap, ◌∙◌, subst}
use Rattle.std.specs.List.{list_all}
use Rattle.std.proofs.lemmas.Bool.{and_parts, and_from, false≢true}
use Rattle.kp_base.specs.declared.ground.Ground.{Ground}
use Rattle.kp_base.specs.declared.ground.Initial.{Initial}
use Rattle.kp_base.specs.declared.ground.TagTable.{TagTable}
use Rattle.kp_base.specs.declared.lit.AtomId.{AtomId}
use Rattle.kp_base.specs.declared.lit.Lit.{Lit}
use Rattle.kp_base.specs.Machine.{MachineStep, accepts}
use Rattle.kp_base.specs.Steps.{is_model, IsGroundPlan}
use Rattle.kp_base.proofs.Places.{element}
use Rattle.kp_classic.specs.Fits.{are_below}
use Rattle.kp_classic.specs.Steps.{start, succeeds}
use Rattle.kp_lift.specs.Lifting.{IsThere}
use Rattle.kp_law_tagged_machine.proofs.Public.{accepted_lists_are_plans}
use Rattle.kp_primes_first_model.specs.Ordered.{state_of_atoms}
use Rattle.kp_check.specs.declared.answer.Judged.TheVariants.{No}
use Rattle.kp_check.specs.Judging.{fails, IsVerdict}
use Rattle.kp_write.specs.Operators.{Op}
use Rattle.kp_law_ktask.specs.ByName.{op_of, merge_op, op_at}
use Rattle.kp_law_ktask.specs.Task.{task_of}
use Rattle.kp_law_ktask.specs.Writable.{IsWritableTask}
use Rattle.kp_run_solve.specs.Operators.{step_of, acts_among}
use Rattle.kp_law_ktask.proofs.Public.{operators_do_machine_steps}
use Rattle.kp_run_solve.proofs.Public.{actions_among_steps, operator_numbers_back, step_of_operator_is_there as there}
use Rattle.kp_run_bench.specs.Working.{IsSafe, ArePlan}

-- ---- the actions among operators

-- they are actions
pub below : (n : ℕ) (ops : List ℕ) → list_all (λ m. nat_lt m n) (acts_among n ops) ≡ true
below n [] = refl
below n (k ∷ ops) = go (nat_lt k n) refl (below n ops)
  where
    go : (b : Bool) → nat_lt k n ≡ b → list_all (λ m. nat_lt m n) (acts_among n ops) ≡ true → list_all (λ m. nat_lt m n) (if b then k ∷ acts_among n ops else acts_among n ops) ≡ true
    go true e rest = and_from (nat_lt k n) (list_all (λ m. nat_lt m n) (acts_among n ops)) e rest
    go false e rest = rest

-- one more operator is an action, or not
pub one_more : (n : ℕ) (now new ops rest : List ℕ) (i x : ℕ) → drop i ops ≡ x ∷ rest → new ≡ now ++ acts_among n (x ∷ []) → now ++ acts_among n (drop i ops) ≡ acts_among n ops → new ++ acts_among n rest ≡ acts_among n ops
one_more n now new ops rest i x left put so_far =
    ap (λ z. z ++ acts_among n rest) put ∙ (append_assoc now (acts_among n (x ∷ [])) (acts_among n rest)
    ∙ (ap (now ++◌) (split (nat_lt x n)) ∙ (ap (λ z. now ++ acts_among n z) (sym left) ∙ so_far)))
  where
    split : (b : Bool) → (if b then x ∷ [] else []) ++ acts_among n rest ≡ (if b then x ∷ acts_among n rest else acts_among n rest)
    split true = refl
    split false = refl

-- ---- the actions of a plan

-- a step that is there has an operator
op_there : (g : Ground) (table : TagTable) (m : MachineStep) → IsThere g table m → (o : Op) × (op_at g table m ≡ Some o)
op_there g table (MachineStep.act n) there = let a = element g.actions n there in (op_of g.atoms (length table.tags) a.0, ap (option_map (op_of g.atoms (length table.tags))) a.1)
op_there g table (MachineStep.merge n) there = let m = element table.merges n there in (merge_op g.atoms n m.0, ap (option_map (merge_op g.atoms n)) m.1)

ops_there : (g : Ground) (table : TagTable) (ops : List ℕ) → are_below (length (task_of g table).ops) ops ≡ true → (os : List Op) × (map (op_at g table) (map (step_of g) ops) ≡ map Some os)
ops_there g table [] inside = ([], refl)
ops_there g table (n ∷ ops) inside =
    let parts = and_parts (nat_lt n (length (task_of g table).ops)) (list_all (λ k. nat_lt k (length (task_of g table).ops)) ops) inside in
    let first = op_there g table (step_of g n) (there g table n (ltb-true n (length (task_of g table).ops) parts.0)) in
    let rest = ops_there g table ops parts.1 in
    (first.0 ∷ rest.0, cc (first.1, rest.1))

-- the machine accepts the steps of operators that succeed
accepted : (g : Ground) (table : TagTable) → IsWritableTask g table → (ops : List ℕ) → ArePlan (task_of g table) ops → accepts g table (map (step_of g) ops) ≡ true
accepted g table w ops plan =
    let os = ops_there g table ops plan.0 in
    sym (operators_do_machine_steps g table w (map (step_of g) ops) os.0 os.1) ∙ subst (λ ks. succeeds (task_of g table) (start (task_of g table)) ks ≡ true) (sym (operator_numbers_back g ops)) plan.1

-- so their actions work
pub work : (g : Ground) (i : Initial) (table : TagTable) (ops : List ℕ) → IsSafe g i table → ArePlan (task_of g table) ops → IsGroundPlan g i (acts_among (length g.actions) ops)
work g i table ops safe plan = subst (IsGroundPlan g i) (actions_among_steps g ops) (accepted_lists_are_plans g i table safe.right safe.valid safe.never_clashes (map (step_of g) ops) (accepted g table safe.writable ops plan))

-- and no check finds a state from which they fail
pub pass : (n : ℕ) (g : Ground) (i : Initial) (ns : List ℕ) (ps : List AtomId) (k : ℕ) (l : Lit) → IsGroundPlan g i ns → IsVerdict n g i ns (No ps k l) → ⊥
pass n g i ns ps k l works judged =
    let found = and_parts (is_model i (state_of_atoms ps)) (fails g ns (state_of_atoms ps)) judged.0.0.passed in
    false≢true (subst (λ b. not b ≡ true) (works (state_of_atoms ps) found.0) found.1)
