-- One step after another: what is answered of the steps that are left is answered of all.
use Rattle.std.proofs.Common.{◌≡◌, ◌<◌, ◌≤◌, ◌+◌, ℕ, zero, suc, true, List, [], ◌∷◌, ◌++◌, append_assoc, Option, Some, None, map, length, drop, slice_get, sym, ap, subst, ◌∙◌, arith}
use Rattle.std.proofs.lemmas.Bool.{and_parts, and_from, false≢true}
use Rattle.std.proofs.lemmas.List.{map-append, drop_all}
use Rattle.std.specs.List.{list_all}
use Rattle.kp_base.specs.declared.lit.Lit.{Lit}
use Rattle.kp_base.specs.declared.ground.Action.{Action}
use Rattle.kp_base.specs.declared.ground.Ground.{Ground}
use Rattle.kp_base.specs.declared.ground.TagTable.{TagTable}
use Rattle.kp_base.specs.Steps.{pre_of, IsLeastMissing}
use Rattle.kp_base.specs.Machine.{MachineStep, Known, start, may_act}
use Rattle.kp_lift_knowledge.specs.Known.{Table, Says}
use Rattle.kp_law_tagged_machine.specs.Lifts.{after_merges, merges_taken, lift_from, UnliftedAt}
use Rattle.kp_law_tagged_machine.proofs.Public.{failing_lists_dont_lift, lifted_is_accepted_where_it_lifts}
use Rattle.kp_law_tagged_machine.proofs.Public as complete
use Rattle.kp_law_ktask.specs.Accepted.{op_number}
use Rattle.kp_lift.specs.declared.lifting.Lifting.TheVariants.{Lifted, Unlifted}
use Rattle.kp_lift.specs.declared.running.At.{At}
use Rattle.kp_lift.specs.Lifting.{AnswersLifting}
use Rattle.kp_lift.specs.Running.{known_after, lifts_from, ready_from, FailsFrom, EndsFrom, StepTaken, StepEnds, GoalEnds, ActionsEnd}

-- ---- one step, from some knowledge on

module _ (g : Ground) (table : TagTable) (k : Known) (n : ℕ) (ns : List ℕ) where
  -- what an action that is allowed asks is known
  asked_known : (o : Option Action) (k : Known) → may_act o k ≡ true → list_all (k 0) (pre_of o) ≡ true
  asked_known None k e = absurd (false≢true e)
  asked_known (Some a) k e = e

  -- the steps fail later
  later : (j : ℕ) (l : Lit) → may_act (slice_get g.actions n) (after_merges table.merges k) ≡ true → FailsFrom g table (known_after g table k n) ns j l → FailsFrom g table k (n ∷ ns) (suc j) l
  later j l allowed f = record { in_range = let le = f.in_range in omega (arith, le); before = before; unknown = f.unknown }
    where
      before : (i : ℕ) → i < suc j → ready_from g table k (n ∷ ns) i ≡ true
      before zero lt = asked_known (slice_get g.actions n) (after_merges table.merges k) allowed
      before (suc i) lt = f.before i (omega (arith, lt))

  -- or at once
  at_once : (l : Lit) → IsLeastMissing (after_merges table.merges k 0) (pre_of (slice_get g.actions n)) l → FailsFrom g table k (n ∷ ns) 0 l
  at_once l unknown = record { in_range = omega arith; before = λ i lt. absurd (omega (arith, lt)); unknown = unknown }

  -- the operators of the merges, of the action, and of what comes behind
  operators_more : (ops so_far : List ℕ) → so_far ≡ (ops ++ map (op_number g) (merges_taken 0 table.merges k)) ++ n ∷ [] → so_far ++ map (op_number g) (lift_from g table (known_after g table k n) ns) ≡ ops ++ map (op_number g) (lift_from g table k (n ∷ ns))
  operators_more ops so_far is =
      let merges = map (op_number g) (merges_taken 0 table.merges k) in
      let rest = map (op_number g) (lift_from g table (known_after g table k n) ns) in
      ap (λ os. os ++ rest) is
      ∙ (append_assoc (ops ++ merges) (n ∷ []) rest
      ∙ (append_assoc ops merges (n ∷ rest)
      ∙ ap (λ os. ops ++ os) (sym (map-append (op_number g) (merges_taken 0 table.merges k) (MachineStep.act n ∷ lift_from g table (known_after g table k n) ns)))))

  -- what is answered of the steps behind is answered of all
  ends_before : (i i' : ℕ) (ops so_far done : List ℕ) (new : Table) (r : Option At) → i' ≡ suc i → StepTaken g table n k ops new so_far → EndsFrom g table (known_after g table k n) ns i' so_far done r → EndsFrom g table k (n ∷ ns) i ops done r
  ends_before i i' ops so_far done new None e taken ends = (ends.0 ∙ operators_more ops so_far taken.operators, and_from (may_act (slice_get g.actions n) (after_merges table.merges k)) (lifts_from g table (known_after g table k n) ns) taken.allowed ends.1)
  ends_before i i' ops so_far done new (Some at) e taken ends = (suc ends.0, let place = ends.1 in omega (arith, place, e), later ends.0 at.literal taken.allowed ends.2)

-- ---- the steps from number i on

-- what is answered of the steps from number i on, from what is known now, is answered of all from what was known
pub record GoesOn (g : Ground) (table : TagTable) (old : Table) (ops ns : List ℕ) (i : ℕ) (new : Table) (so_far : List ℕ) : Type 0 where
  pub on : (k : Known) → Says old k → (j : Known) × Says new j × ((done : List ℕ) (r : Option At) → EndsFrom g table j (drop i ns) i so_far done r → EndsFrom g table k ns 0 ops done r)

module _ (g : Ground) (table : TagTable) (old : Table) (ops ns : List ℕ) (i : ℕ) (mid : Table) (so_far : List ℕ) (h : GoesOn g table old ops ns i mid so_far) where
  -- a step more is taken
  pub goes_more : (i' n : ℕ) (new : Table) (now : List ℕ) → i' ≡ suc i → drop i ns ≡ n ∷ drop i' ns → StepEnds g table n mid so_far new now None → GoesOn g table old ops ns i' new now
  goes_more i' n new now e left taken = record {
    on = λ k says.
        let r = h.on k says in
        let t = taken r.0 r.1 in (
          known_after g table r.0 n,
          t.known,
          λ done at ends. r.2 done at (subst (λ (ms : List ℕ). EndsFrom g table r.0 ms i so_far done at) (sym left) (ends_before g table r.0 n (drop i' ns) i i' so_far now done new at e t ends)),
        );
  }

  -- or the steps fail at the next
  pub fails_here : (n : ℕ) (rest : List ℕ) (new : Table) (now done : List ℕ) (l : Lit) → drop i ns ≡ n ∷ rest → StepEnds g table n mid so_far new now (Some l) → ActionsEnd g table old ns ops done (Some (record { step = i; literal = l }))
  fails_here n rest new now done l left unknown k says =
      let r = h.on k says in
      let place : i ≡ i + 0 = omega arith in
      r.2 done (Some (record { step = i; literal = l })) (subst (λ (ms : List ℕ). EndsFrom g table r.0 ms i so_far done (Some (record { step = i; literal = l }))) (sym left) (0, place, at_once g table r.0 n rest l (unknown r.0 r.1)))

  -- the goal is reached
  pub goal_known : (done : List ℕ) → length ns ≤ i → GoalEnds g table mid so_far done None → ActionsEnd g table old ns ops done None
  goal_known done past known k says =
      let r = h.on k says in
      r.2 done None (subst (λ (ms : List ℕ). EndsFrom g table r.0 ms i so_far done None) (sym (drop_all i ns past)) (known r.0 r.1))

  -- or the steps fail at it
  pub goal_unknown : (done : List ℕ) (l : Lit) (at : ℕ) → at ≡ i → length ns ≤ i → GoalEnds g table mid so_far done (Some l) → ActionsEnd g table old ns ops done (Some (record { step = at; literal = l }))
  goal_unknown done l at is past unknown k says =
      let r = h.on k says in
      let place : at ≡ i + 0 = omega (arith, is) in
      let fails : FailsFrom g table r.0 [] 0 l = record { in_range = omega arith; before = λ j lt. absurd (omega (arith, lt)); unknown = unknown r.0 r.1 } in
      r.2 done (Some (record { step = at; literal = l })) (subst (λ (ms : List ℕ). EndsFrom g table r.0 ms i so_far done (Some (record { step = at; literal = l }))) (sym (drop_all i ns past)) (0, place, fails))

-- ---- from the start

-- `kp_law_tagged_machine` says the same of lifting
lifts_too : (g : Ground) (table : TagTable) (ns : List ℕ) (k : Known) → lifts_from g table k ns ≡ true → complete.lifts_from g table k ns ≡ true
lifts_too g table [] k h = h
lifts_too g table (n ∷ ns) k h =
    let may = may_act (slice_get g.actions n) (after_merges table.merges k) in
    let parts = and_parts may (lifts_from g table (known_after g table k n) ns) h in
    and_from may (complete.lifts_from g table (complete.known_after g table k n) ns) parts.0 (lifts_too g table ns (known_after g table k n) parts.1)

pub answers_lifted : (g : Ground) (table : TagTable) (ns ops : List ℕ) → EndsFrom g table (start table) ns 0 [] ops None → AnswersLifting g table ns (Lifted ops)
answers_lifted g table ns ops ends = (ends.0, lifted_is_accepted_where_it_lifts g table ns (start table) (lifts_too g table ns (start table) ends.1))

pub answers_unlifted : (g : Ground) (table : TagTable) (ns ops : List ℕ) (at : At) → EndsFrom g table (start table) ns 0 [] ops (Some at) → AnswersLifting g table ns (Unlifted at.step at.literal)
answers_unlifted g table ns ops at ends = (fails, λ steps is. failing_lists_dont_lift g table steps at.step at.literal (subst (λ ms. UnliftedAt g table ms at.step at.literal) (sym is) fails))
  where
    place : ends.0 ≡ at.step
    place = let p = ends.1 in omega (arith, p)

    fails : UnliftedAt g table ns at.step at.literal
    fails = subst (λ j. UnliftedAt g table ns j at.literal) place (record { in_range = ends.2.in_range; before = ends.2.before; unknown = ends.2.unknown })
