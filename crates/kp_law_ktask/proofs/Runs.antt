-- The runs of the operators are the lists that the machine accepts.
use Rattle.std.proofs.Common.{◌≡◌, ◌+◌, inl, inr, ℕ, zero, suc, ◌&&◌, List, [], ◌∷◌, Option, Some, None, option_map, map, length, slice_get, refl, sym, ap, subst, ◌∙◌, arith}
use Rattle.std.specs.List.{AllByRecursion, list_all}
use Rattle.std.proofs.lemmas.Option.{same_Some}
use Rattle.kp_base.specs.declared.ground.Action.{Action}
use Rattle.kp_base.specs.declared.ground.Ground.{Ground}
use Rattle.kp_base.specs.declared.ground.TagTable.{TagTable}
use Rattle.kp_base.specs.declared.ground.Merge.{Merge}
use Rattle.kp_base.specs.Lists.{Member}
use Rattle.kp_base.specs.Machine.{MachineStep, Known, start as known_at_start, may_act, may_merge, after_act, after_merge, accepts_from, accepts}
use Rattle.kp_base.proofs.Each.{each_member}
use Rattle.kp_base.proofs.Lists.{member_at, member_map, map_member, number_at, member_left, member_right, append_member}
use Rattle.kp_names_semantics.specs.Names.{is_among}
use Rattle.kp_names_semantics.specs.Steps.{Step}
use Rattle.kp_write.specs.Operators.{Op}
use Rattle.kp_write.specs.Grounds.{IsGroundAction}
use Rattle.kp_write.specs.Runs.{Facts, after_op, runs, step_of}
use Rattle.kp_write.specs.Tasks.{op_step}
use Rattle.kp_law_ktask.specs.Task.{start_of}
use Rattle.kp_law_ktask.specs.Task as numbered
use Rattle.kp_law_ktask.specs.ByName.{op_of, merge_op, merge_ops_from, ops_of, op_at, names_of, goal_of}
use Rattle.kp_law_ktask.specs.Writable.{IsMergeOn, IsWritableTask}
use Rattle.kp_law_ktask.specs.Accepted.{step_at}
use Rattle.kp_law_ktask.specs.Laws.{RunsAreAccepted}
use Rattle.kp_law_ktask.proofs.Operators.{AgreeBelow, facts_hold, goes_on}
use Rattle.kp_law_ktask.proofs.Start.{start_has, under_hold, target_known, merge_goes_on}

-- these steps of the machine have these operators
abbrev pub AreAt : Ground → TagTable → List MachineStep → List Op → Type 0
AreAt g table ms os = map (op_at g table) ms ≡ map Some os

module _ (g : Ground) (table : TagTable) (w : IsWritableTask g table) where
  abbrev AgreeAll : Facts → Known → Type 0
  AgreeAll s k = AgreeBelow g.atoms w.ground.atoms w.ground.atoms_differ (length table.tags) s k

  -- the operators run where the machine goes on with their steps
  run_accepted : (ms : List MachineStep) (os : List Op) → AreAt g table ms os → (s : Facts) (k : Known) → AgreeAll s k → runs (names_of g (goal_of g)) os s ≡ accepts_from g table k ms
  run_accepted [] [] at s k agree = under_hold g.atoms w.ground.atoms w.ground.atoms_differ 0 s k (agree 0 w.some_tag) g.goal w.ground.goal_of_atoms
  run_accepted [] (o ∷ os) at s k agree = absurd cc
  run_accepted (m ∷ ms) [] at s k agree = absurd cc
  run_accepted (MachineStep.act n ∷ ms) (o ∷ os) at s k agree =
      let here : option_map (op_of g.atoms (length table.tags)) (slice_get g.actions n) ≡ Some o = cc in
      let rest : AreAt g table ms os = cc in
      go here (run_accepted ms os rest) (slice_get g.actions n) refl
    where
      go : option_map (op_of g.atoms (length table.tags)) (slice_get g.actions n) ≡ Some o → ((s : Facts) (k : Known) → AgreeAll s k → runs (names_of g (goal_of g)) os s ≡ accepts_from g table k ms) → (x : Option Action) → slice_get g.actions n ≡ x → runs (names_of g (goal_of g)) (o ∷ os) s ≡ (may_act x k && accepts_from g table (after_act x k) ms)
      go here rest None is = let gone : None ≡ Some o = subst (λ (x : Option Action). option_map (op_of g.atoms (length table.tags)) x ≡ Some o) is here in absurd cc
      go here rest (Some a) is =
          let it : op_of g.atoms (length table.tags) a ≡ o = same_Some (op_of g.atoms (length table.tags) a) o (subst (λ (x : Option Action). option_map (op_of g.atoms (length table.tags)) x ≡ Some o) is here) in
          let can : IsGroundAction g.atoms a = each_member (IsGroundAction g.atoms) g.actions a w.ground.actions (member_at g.actions n a is) in
          subst (λ (z : Op). runs (names_of g (goal_of g)) (z ∷ os) s ≡ (may_act (Some a) k && accepts_from g table (after_act (Some a) k) ms)) it
          (rw (facts_hold g.atoms w.ground.atoms w.ground.atoms_differ 0 (omega arith) s (k 0) (agree 0 w.some_tag) a.pre can.pre)
          (ap (λ t. list_all (k 0) a.pre && t)
          (rest (after_op (op_of g.atoms (length table.tags) a) s) (after_act (Some a) k) (goes_on g.atoms w.ground.atoms w.ground.atoms_differ (length table.tags) w.tags_fit s k agree a can))))
  run_accepted (MachineStep.merge n ∷ ms) (o ∷ os) at s k agree =
      let here : option_map (merge_op g.atoms n) (slice_get table.merges n) ≡ Some o = cc in
      let rest : AreAt g table ms os = cc in
      go here (run_accepted ms os rest) (slice_get table.merges n) refl
    where
      go : option_map (merge_op g.atoms n) (slice_get table.merges n) ≡ Some o → ((s : Facts) (k : Known) → AgreeAll s k → runs (names_of g (goal_of g)) os s ≡ accepts_from g table k ms) → (x : Option Merge) → slice_get table.merges n ≡ x → runs (names_of g (goal_of g)) (o ∷ os) s ≡ (may_merge x k && accepts_from g table (after_merge x k) ms)
      go here rest None is = let gone : None ≡ Some o = subst (λ (x : Option Merge). option_map (merge_op g.atoms n) x ≡ Some o) is here in absurd cc
      go here rest (Some a) is =
          let it : merge_op g.atoms n a ≡ o = same_Some (merge_op g.atoms n a) o (subst (λ (x : Option Merge). option_map (merge_op g.atoms n) x ≡ Some o) is here) in
          let can : IsMergeOn g.atoms (length table.tags) a = each_member (IsMergeOn g.atoms (length table.tags)) table.merges a w.merges (member_at table.merges n a is) in
          subst (λ (z : Op). runs (names_of g (goal_of g)) (z ∷ os) s ≡ (may_merge (Some a) k && accepts_from g table (after_merge (Some a) k) ms)) it
          (rw (target_known g.atoms w.ground.atoms w.ground.atoms_differ (length table.tags) s k agree a.target can.target a.tags can.tags_are)
          (ap (λ t. list_all (λ t. k t a.target) a.tags && t)
          (rest (after_op (merge_op g.atoms n a) s) (after_merge (Some a) k) (merge_goes_on g.atoms w.ground.atoms w.ground.atoms_differ (length table.tags) w.tags_fit s k agree n a can.target))))

  -- from the start
  pub runs_accepted : (ms : List MachineStep) (os : List Op) → AreAt g table ms os → runs (names_of g (goal_of g)) os (is_among (names_of g (start_of table))) ≡ accepts g table ms
  runs_accepted ms os at = run_accepted ms os at (is_among (names_of g (start_of table))) (known_at_start table) (λ t below l b. start_has g.atoms w.ground.atoms w.ground.atoms_differ table.tags w.rows 0 t t (omega arith) below (omega (arith, w.tags_fit)) l b)

-- ---- operators by step of the machine

-- a merge by its operator
merge_of_op : (g : Ground) (first : ℕ) (xs : List Merge) (o : Op) → Member (merge_ops_from g.atoms first xs) o → (d : ℕ) × (option_map (merge_op g.atoms (first + d)) (slice_get xs d) ≡ Some o)
merge_of_op g first [] o m = absurd m
merge_of_op g first (x ∷ xs) o (inl e) = let same : first ≡ first + 0 = omega arith in (0, ap Some (ap (λ n. merge_op g.atoms n x) (sym same) ∙ e))
merge_of_op g first (x ∷ xs) o (inr m) =
    let r = merge_of_op g (suc first) xs o m in
    let same : suc first + r.0 ≡ first + suc r.0 = omega arith in
    (suc r.0, subst (λ n. option_map (merge_op g.atoms n) (slice_get xs r.0) ≡ Some o) same r.1)

step_of_op : (g : Ground) (table : TagTable) (o : Op) → Member (ops_of g table) o → (m : MachineStep) × (op_at g table m ≡ Some o)
step_of_op g table o m =
    elim (append_member (map (op_of g.atoms (length table.tags)) g.actions) (merge_ops_from g.atoms 0 table.merges) o m) [
      | inl a ↦ let first = map_member (op_of g.atoms (length table.tags)) g.actions o a in let place = number_at g.actions first.0 first.1 in (MachineStep.act place.0, rw (place.1) (ap Some first.2))
      | inr a ↦ let r = merge_of_op g 0 table.merges o a in let same : 0 + r.0 ≡ r.0 = omega arith in (MachineStep.merge r.0, subst (λ n. option_map (merge_op g.atoms n) (slice_get table.merges r.0) ≡ Some o) same r.1)
    ]

-- and back
op_among_merges : (g : Ground) (first : ℕ) (xs : List Merge) (d : ℕ) (o : Op) → option_map (merge_op g.atoms (first + d)) (slice_get xs d) ≡ Some o → Member (merge_ops_from g.atoms first xs) o
op_among_merges g first [] d o e = absurd cc
op_among_merges g first (x ∷ xs) zero o e = let same : first ≡ first + 0 = omega arith in inl (ap (λ n. merge_op g.atoms n x) same ∙ same_Some (merge_op g.atoms (first + 0) x) o e)
op_among_merges g first (x ∷ xs) (suc d) o e =
    let same : first + suc d ≡ suc first + d = omega arith in
    inr (op_among_merges g (suc first) xs d o (subst (λ n. option_map (merge_op g.atoms n) (slice_get xs d) ≡ Some o) same e))

op_among : (g : Ground) (table : TagTable) (m : MachineStep) (o : Op) → op_at g table m ≡ Some o → Member (ops_of g table) o
op_among g table (MachineStep.act n) o e = go (slice_get g.actions n) refl e where
  go : (x : Option Action) → slice_get g.actions n ≡ x → option_map (op_of g.atoms (length table.tags)) (slice_get g.actions n) ≡ Some o → Member (ops_of g table) o
  go None is e = let gone : None ≡ Some o = subst (λ (x : Option Action). option_map (op_of g.atoms (length table.tags)) x ≡ Some o) is e in absurd cc
  go (Some a) is e =
      let it : op_of g.atoms (length table.tags) a ≡ o = same_Some (op_of g.atoms (length table.tags) a) o (subst (λ (x : Option Action). option_map (op_of g.atoms (length table.tags)) x ≡ Some o) is e) in
      subst (λ (z : Op). Member (ops_of g table) z) it (member_left (map (op_of g.atoms (length table.tags)) g.actions) (merge_ops_from g.atoms 0 table.merges) (op_of g.atoms (length table.tags) a) (member_map (op_of g.atoms (length table.tags)) g.actions a (member_at g.actions n a is)))
op_among g table (MachineStep.merge n) o e =
    let same : n ≡ 0 + n = omega arith in
    member_right (map (op_of g.atoms (length table.tags)) g.actions) (merge_ops_from g.atoms 0 table.merges) o (op_among_merges g 0 table.merges n o (subst (λ i. option_map (merge_op g.atoms i) (slice_get table.merges n) ≡ Some o) same e))

record StepsOf (g : Ground) (table : TagTable) (taken : List Op) : Type 0 where
  pub machine : List MachineStep
  pub at : AreAt g table machine taken

steps_of : (g : Ground) (table : TagTable) (taken : List Op) → AllByRecursion (Member (ops_of g table)) taken → StepsOf g table taken
steps_of g table [] all = record { machine = []; at = refl }
steps_of g table (o ∷ os) all =
    let first = step_of_op g table o all.0 in
    let rest = steps_of g table os all.1 in
    record { machine = first.0 ∷ rest.machine; at = rw (first.1, rest.at) refl }

pub are_among : (g : Ground) (table : TagTable) (ms : List MachineStep) (os : List Op) → AreAt g table ms os → AllByRecursion (Member (ops_of g table)) os
are_among g table [] [] at = tt
are_among g table [] (o ∷ os) at = absurd cc
are_among g table (m ∷ ms) [] at = absurd cc
are_among g table (m ∷ ms) (o ∷ os) at =
    let here : op_at g table m ≡ Some o = cc in
    let rest : AreAt g table ms os = cc in
    (op_among g table m o here, are_among g table ms os rest)

-- a step has the name of its operator, which is one by number and by name
pub named_step : (g : Ground) (table : TagTable) (m : MachineStep) → step_at g table m ≡ option_map step_of (op_at g table m)
named_step g table (MachineStep.act n) = by (slice_get g.actions n)
  where
    by : (o : Option Action) → option_map op_step (option_map (numbered.op_of (length g.atoms) (length table.tags)) o) ≡ option_map step_of (option_map (op_of g.atoms (length table.tags)) o)
    by None = refl
    by (Some a) = refl
named_step g table (MachineStep.merge n) = by (slice_get table.merges n)
  where
    by : (o : Option Merge) → option_map op_step (option_map (numbered.merge_op (length g.atoms) n) o) ≡ option_map step_of (option_map (merge_op g.atoms n) o)
    by None = refl
    by (Some a) = refl

-- their steps by name
steps_at : (g : Ground) (table : TagTable) (ms : List MachineStep) (os : List Op) → AreAt g table ms os → map (step_at g table) ms ≡ map Some (map step_of os)
steps_at g table [] [] at = refl
steps_at g table [] (o ∷ os) at = absurd cc
steps_at g table (m ∷ ms) [] at = absurd cc
steps_at g table (m ∷ ms) (o ∷ os) at =
    let here : op_at g table m ≡ Some o = cc in
    let rest : AreAt g table ms os = cc in
    let first : step_at g table m ≡ Some (step_of o) = named_step g table m ∙ ap (option_map step_of) here in
    cc (first, steps_at g table ms os rest)

pub record OpsAt (g : Ground) (table : TagTable) (ms : List MachineStep) (steps : List Step) : Type 0 where
  pub ops : List Op
  pub at : AreAt g table ms ops
  pub steps_are : map step_of ops ≡ steps

pub ops_at : (g : Ground) (table : TagTable) (ms : List MachineStep) (steps : List Step) → map (step_at g table) ms ≡ map Some steps → OpsAt g table ms steps
ops_at g table [] [] e = record { ops = []; at = refl; steps_are = refl }
ops_at g table [] (i ∷ is) e = absurd cc
ops_at g table (m ∷ ms) [] e = absurd cc
ops_at g table (m ∷ ms) (i ∷ is) e =
    let here : step_at g table m ≡ Some i = cc in
    let later : map (step_at g table) ms ≡ map Some is = cc in
    go (op_at g table m) refl (sym (named_step g table m) ∙ here) (ops_at g table ms is later)
  where
    go : (o : Option Op) → op_at g table m ≡ o → option_map step_of (op_at g table m) ≡ Some i → OpsAt g table ms is → OpsAt g table (m ∷ ms) (i ∷ is)
    go None is' here rest = let gone : None ≡ Some i = subst (λ (o : Option Op). option_map step_of o ≡ Some i) is' here in absurd cc
    go (Some o) is' here rest =
        let there : Some (step_of o) ≡ Some i = subst (λ (o : Option Op). option_map step_of o ≡ Some i) is' here in
        record { ops = o ∷ rest.ops; at = rw (is', rest.at) refl; steps_are = rw (same_Some (step_of o) i there, rest.steps_are) refl }

-- ---- the law

pub runs_are_accepted : RunsAreAccepted
runs_are_accepted g table w steps = (
  λ r.
      let a = steps_of g table r.taken r.among in (
        a.machine,
        record {
          steps_are = steps_at g table a.machine r.taken a.at ∙ ap (map Some) r.steps_are;
          accepted = sym (runs_accepted g table w a.machine r.taken a.at) ∙ r.succeeds;
        },
      ),
  λ r.
      let a = ops_at g table r.0 steps r.1.steps_are in
      record { taken = a.ops; among = are_among g table r.0 a.ops a.at; steps_are = a.steps_are; succeeds = runs_accepted g table w r.0 a.ops a.at ∙ r.1.accepted },
)
