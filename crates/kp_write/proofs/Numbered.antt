-- A task by number and the same by name: they are read alike, and have the same runs.
use Rattle.std.proofs.Common.{◌≡◌, ◌<◌, ltb-true, eqb-true, nat_eq, nat_lt, ℕ, zero, suc, Bool, true, false, not, ◌&&◌, ◌||◌, List, [], ◌∷◌, ◌++◌, map, length, slice_get, Option, Some, None, option_map, refl, sym, ap, subst, ◌∙◌, arith}
use Rattle.std.proofs.lemmas.Bool.{false≢true, and_parts}
use Rattle.std.proofs.lemmas.Option.{slice_get-map, same_Some}
use Rattle.std.proofs.Math.Bool.{and-true}
use Rattle.std.specs.Bool.{beq}
use Rattle.std.specs.List.{AllByRecursion, IsDistinct, list_any, list_all, flat_map}
use Rattle.kp_base.specs.Lists.{only_if, Member}
use Rattle.kp_base.proofs.Each.{each_member}
use Rattle.kp_base.proofs.Lists.{bool_same, all_member, member_at, number_at, member_map, same-true, same-refl}
use Rattle.kp_names_semantics.specs.Names.{same, is_among}
use Rattle.kp_names_semantics.specs.Steps.{Step}
use Rattle.kp_classic.specs.declared.task.Conds.{Conds}
use Rattle.kp_classic.specs.declared.task.OpEffect.{OpEffect}
use Rattle.kp_classic.specs.declared.task.Op.{Op as NumberedOp}
use Rattle.kp_classic.specs.declared.task.Task.{Task}
use Rattle.kp_classic.specs.Fits.{are_below, fits, fits_effect, fits_op}
use Rattle.kp_classic.specs.Steps.{Holding, meets, fires, after, applicable, next, start, succeeds}
use Rattle.kp_write.specs.Operators.{Signed, Op}
use Rattle.kp_write.specs.Problems.{AreAmong, IsEffectOn, IsOpOn, IsTask}
use Rattle.kp_write.specs.Runs.{Facts, is_so, is_made, after_op, runs, step_of}
use Rattle.kp_write.specs.Named.{fact_name, signed_fact, named_conds, named_effect, named_op, named_ops, named_start, named_goal}
use Rattle.kp_write.specs.Tasks.{IsWritableOp, CanBeWritten, op_step, operator_step, TasksRead, TaskPlansAreRuns}
use Rattle.kp_write.proofs.Faultless.{written_texts_have_problem}
use Rattle.kp_write.proofs.Runs.{plans_are_runs}

-- ---- the task by name is a task

fact_at : (facts : List (List ℕ)) (f : ℕ) → f < length facts → slice_get facts f ≡ Some (fact_name facts f)
fact_at [] f below = absurd (omega (arith, below))
fact_at (n ∷ ns) zero below = refl
fact_at (n ∷ ns) (suc f) below = fact_at ns f (omega (arith, below))

module _ (facts : List (List ℕ)) where
  among : (f : ℕ) → nat_lt f (length facts) ≡ true → Member facts (fact_name facts f)
  among f below = member_at facts f (fact_name facts f) (fact_at facts f (ltb-true f (length facts) below))

  all_among : (fs : List ℕ) → are_below (length facts) fs ≡ true → AreAmong facts (map (fact_name facts) fs)
  all_among [] h = tt
  all_among (f ∷ fs) h = let p = and_parts (nat_lt f (length facts)) (are_below (length facts) fs) h in (among f p.0, all_among fs p.1)

  signed_among : (holds : Bool) (fs : List ℕ) (more : List Signed) → are_below (length facts) fs ≡ true → AllByRecursion (λ s. Member facts s.fact) more → AllByRecursion (λ s. Member facts s.fact) (map (signed_fact facts holds) fs ++ more)
  signed_among holds [] more h m = m
  signed_among holds (f ∷ fs) more h m = let p = and_parts (nat_lt f (length facts)) (are_below (length facts) fs) h in (among f p.0, signed_among holds fs more p.1 m)

  all_signed : (holds : Bool) (fs : List ℕ) → are_below (length facts) fs ≡ true → AllByRecursion (λ s. Member facts s.fact) (map (signed_fact facts holds) fs)
  all_signed holds [] h = tt
  all_signed holds (f ∷ fs) h = let p = and_parts (nat_lt f (length facts)) (are_below (length facts) fs) h in (among f p.0, all_signed holds fs p.1)

  conds_among : (c : Conds) → fits (length facts) c ≡ true → AllByRecursion (λ s. Member facts s.fact) (named_conds facts c)
  conds_among c h =
      let p = and_parts (are_below (length facts) c.yes) (are_below (length facts) c.no) h in
      signed_among true c.yes (map (signed_fact facts false) c.no) p.0 (all_signed false c.no p.1)

  effects_on : (es : List OpEffect) → list_all (fits_effect (length facts)) es ≡ true → AllByRecursion (IsEffectOn facts) (map (named_effect facts) es)
  effects_on [] h = tt
  effects_on (e ∷ es) h =
      let p = and_parts (fits_effect (length facts) e) (list_all (fits_effect (length facts)) es) h in
      let q = and_parts (nat_lt e.fact (length facts)) (fits (length facts) e.cond) p.0 in
      (record { conds = conds_among e.cond q.1; result = among e.fact q.0 }, effects_on es p.1)

  ops_on : (os : List NumberedOp) → AllByRecursion IsWritableOp os → list_all (fits_op (length facts)) os ≡ true → AllByRecursion (IsOpOn facts) (map (named_op facts) os)
  ops_on [] w h = tt
  ops_on (o ∷ os) w h =
      let p = and_parts (fits_op (length facts) o) (list_all (fits_op (length facts)) os) h in
      let q = and_parts (fits (length facts) o.pre) (list_all (fits_effect (length facts)) o.effects) p.0 in
      let r = and_parts (are_below (length facts) o.pre.yes) (are_below (length facts) o.pre.no) q.0 in
      (record { name = w.0.name; pre = all_among o.pre.yes r.0; effects = effects_on o.effects q.1 }, ops_on os w.1 p.1)

  pub names_are : (os : List NumberedOp) → map (λ o. o.name) os ≡ map (λ (o : Op). o.name) (map (named_op facts) os)
  names_are [] = refl
  names_are (o ∷ os) = ap (λ ns. o.name ∷ ns) (names_are os)

is_task : (t : Task) → CanBeWritten t → IsTask t.facts (named_ops t) (named_start t) (named_goal t)
is_task t w = record {
  heads = w.heads;
  facts_differ = w.facts_differ;
  operators = ops_on t.facts t.ops w.operators w.operators_fit;
  operators_differ = subst (λ (ns : List (List ℕ)). IsDistinct same ns) (names_are t.facts t.ops) w.operators_differ;
  start_among = all_among t.facts t.init w.start_fits;
  goal_among = all_among t.facts t.goal.yes (and_parts (are_below (length t.facts) t.goal.yes) (are_below (length t.facts) t.goal.no) w.goal_fits).0;
}

pub tasks_read : TasksRead
tasks_read t w = written_texts_have_problem t.facts (named_ops t) (named_start t) (named_goal t) (is_task t w)

-- ---- the runs

not_later : (x : List ℕ) (xs : List (List ℕ)) → AllByRecursion (λ y. same x y ≡ false) xs → (j : ℕ) → slice_get xs j ≡ Some x → ⊥
not_later x xs all j at = false≢true (sym (each_member (λ y. same x y ≡ false) xs x all (member_at xs j x at)) ∙ same-refl x)

-- a name stands in one place
one_place : (xs : List (List ℕ)) → IsDistinct same xs → (i j : ℕ) (n : List ℕ) → slice_get xs i ≡ Some n → slice_get xs j ≡ Some n → i ≡ j
unfolding IsDistinct
one_place [] d i j n e f = absurd cc
one_place (x ∷ xs) d zero zero n e f = refl
one_place (x ∷ xs) d zero (suc j) n e f = absurd (not_later x xs d.0 j (f ∙ sym e))
one_place (x ∷ xs) d (suc i) zero n e f = absurd (not_later x xs d.0 i (e ∙ sym f))
one_place (x ∷ xs) d (suc i) (suc j) n e f = ap suc (one_place xs d.1 i j n e f)

-- a result is made where an effect that has its condition makes it, or a later one
pub made_first : (b : Bool) (r : Signed) (rest : List Signed) (holds : Bool) (n : List ℕ) → is_made (only_if b (r ∷ []) ++ rest) holds n ≡ ((b && (beq holds r.holds && same n r.fact)) || is_made rest holds n)
made_first true r rest holds n = refl
made_first false r rest holds n = refl

module _ (facts : List (List ℕ)) (differ : IsDistinct same facts) where
  one_name : (f g : ℕ) → f < length facts → nat_lt g (length facts) ≡ true → same (fact_name facts f) (fact_name facts g) ≡ nat_eq f g
  one_name f g p q =
      bool_same (same (fact_name facts f) (fact_name facts g)) (nat_eq f g)
      (λ e.
      let one : fact_name facts f ≡ fact_name facts g = same-true (fact_name facts f) (fact_name facts g) e in
      let here : f ≡ g = one_place facts differ f g (fact_name facts f) (fact_at facts f p) (fact_at facts g (ltb-true g (length facts) q) ∙ ap Some (sym one)) in
      subst (λ i. nat_eq f i ≡ true) here (same_number f))
      (λ e. let here : f ≡ g = eqb-true f g e in subst (λ i. same (fact_name facts f) (fact_name facts i) ≡ true) here (same-refl (fact_name facts f)))
    where
      same_number : (f : ℕ) → nat_eq f f ≡ true
      same_number f = grind arith

  -- each fact holds by name where it does by number
  abbrev Agree : Facts → Holding → Type 0
  Agree s h = (f : ℕ) → f < length facts → s (fact_name facts f) ≡ h f

  at_start : (fs : List ℕ) → are_below (length facts) fs ≡ true → Agree (is_among (map (fact_name facts) fs)) (λ f. list_any (nat_eq f) fs)
  at_start [] h f below = refl
  at_start (g ∷ gs) h f below =
      let p = and_parts (nat_lt g (length facts)) (are_below (length facts) gs) h in
      rw (one_name f g below p.0, at_start gs p.1 f below) refl

  module _ (s : Facts) (h : Holding) (agree : Agree s h) where
    all_hold : (fs : List ℕ) → are_below (length facts) fs ≡ true → list_all s (map (fact_name facts) fs) ≡ list_all h fs
    all_hold [] p = refl
    all_hold (f ∷ fs) p = let q = and_parts (nat_lt f (length facts)) (are_below (length facts) fs) p in rw (agree f (ltb-true f (length facts) q.0), all_hold fs q.1) refl

    none_hold : (fs : List ℕ) → are_below (length facts) fs ≡ true → list_all (is_so s) (map (signed_fact facts false) fs) ≡ list_all (λ f. not (h f)) fs
    none_hold [] p = refl
    none_hold (f ∷ fs) p = let q = and_parts (nat_lt f (length facts)) (are_below (length facts) fs) p in rw (agree f (ltb-true f (length facts) q.0), none_hold fs q.1) refl

    are_met : (present absent : List ℕ) → are_below (length facts) present ≡ true → are_below (length facts) absent ≡ true → list_all (is_so s) (map (signed_fact facts true) present ++ map (signed_fact facts false) absent) ≡ (list_all h present && list_all (λ f. not (h f)) absent)
    are_met [] absent p q = none_hold absent q
    are_met (f ∷ fs) absent p q =
        let r = and_parts (nat_lt f (length facts)) (are_below (length facts) fs) p in
        rw (agree f (ltb-true f (length facts) r.0), are_met fs absent r.1 q) (assoc (h f) (list_all h fs) (list_all (λ f. not (h f)) absent))
      where
        assoc : (a b c : Bool) → (a && (b && c)) ≡ ((a && b) && c)
        assoc true b c = refl
        assoc false b c = refl

    conds_met : (c : Conds) → fits (length facts) c ≡ true → list_all (is_so s) (named_conds facts c) ≡ meets c h
    conds_met c p = let q = and_parts (are_below (length facts) c.yes) (are_below (length facts) c.no) p in are_met c.yes c.no q.0 q.1

    positive_met : (c : Conds) → c.no ≡ [] → fits (length facts) c ≡ true → list_all s (map (fact_name facts) c.yes) ≡ meets c h
    positive_met c none p =
        all_hold c.yes (and_parts (are_below (length facts) c.yes) (are_below (length facts) c.no) p).0
        ∙ sym (and-true (list_all h c.yes)) ∙ ap (λ (ns : List ℕ). list_all h c.yes && list_all (λ f. not (h f)) ns) (sym none)

    makes : (es : List OpEffect) → list_all (fits_effect (length facts)) es ≡ true → (holds : Bool) (f : ℕ) → f < length facts
        → is_made (flat_map (λ e. only_if (list_all (is_so s) e.conds) (e.result ∷ [])) (map (named_effect facts) es)) holds (fact_name facts f) ≡ fires es h holds f
    makes [] p holds f below = refl
    makes (e ∷ es) p holds f below =
        let q = and_parts (fits_effect (length facts) e) (list_all (fits_effect (length facts)) es) p in
        let r = and_parts (nat_lt e.fact (length facts)) (fits (length facts) e.cond) q.0 in
        made_first (list_all (is_so s) (named_conds facts e.cond)) (signed_fact facts e.adds e.fact) (flat_map (λ e. only_if (list_all (is_so s) e.conds) (e.result ∷ [])) (map (named_effect facts) es)) holds (fact_name facts f)
        ∙ rw (conds_met e.cond r.1, one_name f e.fact below r.0, makes es q.1 holds f below) (turn (meets e.cond h) (beq holds e.adds) (nat_eq f e.fact) (fires es h holds f))
      where
        turn : (a b c d : Bool) → ((a && (b && c)) || d) ≡ ((b && (c && a)) || d)
        turn true true true d = refl
        turn true true false d = refl
        turn true false c d = refl
        turn false true true d = refl
        turn false true false d = refl
        turn false false c d = refl

    goes_on : (o : NumberedOp) → fits_op (length facts) o ≡ true → Agree (after_op (named_op facts o) s) (after o h)
    goes_on o p f below =
        let q = and_parts (fits (length facts) o.pre) (list_all (fits_effect (length facts)) o.effects) p in
        rw (makes o.effects q.1 true f below, makes o.effects q.1 false f below, agree f below) refl

module _ (t : Task) (w : CanBeWritten t) where
  -- these operators are those of these numbers
  abbrev pub AreAt : List ℕ → List Op → Type 0
  AreAt ns os = map (λ n. option_map (named_op t.facts) (slice_get t.ops n)) ns ≡ map Some os

  run_alike : (ns : List ℕ) (os : List Op) → AreAt ns os → (s : Facts) (h : Holding) → Agree t.facts w.facts_differ s h → runs (named_goal t) os s ≡ succeeds t h ns
  run_alike [] [] at s h agree = positive_met t.facts w.facts_differ s h agree t.goal w.goal_positive w.goal_fits
  run_alike [] (o ∷ os) at s h agree = absurd cc
  run_alike (n ∷ ns) [] at s h agree = absurd cc
  run_alike (n ∷ ns) (o ∷ os) at s h agree =
      let here : option_map (named_op t.facts) (slice_get t.ops n) ≡ Some o = cc in
      let rest : AreAt ns os = cc in
      go (slice_get t.ops n) refl here (run_alike ns os rest)
    where
      go : (x : Option NumberedOp) → slice_get t.ops n ≡ x → option_map (named_op t.facts) (slice_get t.ops n) ≡ Some o → ((s : Facts) (h : Holding) → Agree t.facts w.facts_differ s h → runs (named_goal t) os s ≡ succeeds t h ns)
          → runs (named_goal t) (o ∷ os) s ≡ (applicable x h && succeeds t (next x h) ns)
      go None is here rest = let gone : None ≡ Some o = subst (λ (x : Option NumberedOp). option_map (named_op t.facts) x ≡ Some o) is here in absurd cc
      go (Some a) is here rest =
          let it : named_op t.facts a ≡ o = same_Some (named_op t.facts a) o (subst (λ (x : Option NumberedOp). option_map (named_op t.facts) x ≡ Some o) is here) in
          let can : IsWritableOp a = each_member IsWritableOp t.ops a w.operators (member_at t.ops n a is) in
          let ok : fits_op (length t.facts) a ≡ true = all_member (fits_op (length t.facts)) t.ops a (member_at t.ops n a is) w.operators_fit in
          let pre = positive_met t.facts w.facts_differ s h agree a.pre can.positive (and_parts (fits (length t.facts) a.pre) (list_all (fits_effect (length t.facts)) a.effects) ok).0 in
          subst (λ (z : Op). runs (named_goal t) (z ∷ os) s ≡ (applicable (Some a) h && succeeds t (next (Some a) h) ns)) it
          (rw (pre, rest (after_op (named_op t.facts a) s) (after a h) (goes_on t.facts w.facts_differ s h agree a ok)) refl)

  pub from_start : (ns : List ℕ) (os : List Op) → AreAt ns os → runs (named_goal t) os (is_among (named_start t)) ≡ succeeds t (start t) ns
  from_start ns os at = run_alike ns os at (is_among (named_start t)) (start t) (at_start t.facts w.facts_differ t.init w.start_fits)

-- ---- operators by number

record NumbersOf (t : Task) (taken : List Op) : Type 0 where
  pub numbers : List ℕ
  pub at : map (λ n. option_map (named_op t.facts) (slice_get t.ops n)) numbers ≡ map Some taken

numbers_of : (t : Task) (taken : List Op) → AllByRecursion (Member (named_ops t)) taken → NumbersOf t taken
numbers_of t [] all = record { numbers = []; at = refl }
numbers_of t (o ∷ os) all =
    let first = number_at (named_ops t) o all.0 in
    let rest = numbers_of t os all.1 in
    let here : option_map (named_op t.facts) (slice_get t.ops first.0) ≡ Some o = sym (slice_get-map (named_op t.facts) t.ops first.0) ∙ first.1 in
    record { numbers = first.0 ∷ rest.numbers; at = rw (here, rest.at) refl }

steps_at : (t : Task) (ns : List ℕ) (os : List Op) → map (λ n. option_map (named_op t.facts) (slice_get t.ops n)) ns ≡ map Some os → map (operator_step t) ns ≡ map Some (map step_of os)
steps_at t [] [] at = refl
steps_at t [] (o ∷ os) at = absurd cc
steps_at t (n ∷ ns) [] at = absurd cc
steps_at t (n ∷ ns) (o ∷ os) at =
    let here : option_map (named_op t.facts) (slice_get t.ops n) ≡ Some o = cc in
    let rest : map (λ n. option_map (named_op t.facts) (slice_get t.ops n)) ns ≡ map Some os = cc in
    rw (step_is (slice_get t.ops n) here, steps_at t ns os rest) refl
  where
    step_is : (x : Option NumberedOp) → option_map (named_op t.facts) x ≡ Some o → option_map op_step x ≡ Some (step_of o)
    step_is None e = absurd cc
    step_is (Some a) e = ap (λ (z : Op). Some (step_of z)) (same_Some (named_op t.facts a) o e)

record OpsAt (t : Task) (ns : List ℕ) (steps : List Step) : Type 0 where
  pub ops : List Op
  pub at : map (λ n. option_map (named_op t.facts) (slice_get t.ops n)) ns ≡ map Some ops
  pub among : AllByRecursion (Member (named_ops t)) ops
  pub steps_are : map step_of ops ≡ steps

ops_at : (t : Task) (ns : List ℕ) (steps : List Step) → map (operator_step t) ns ≡ map Some steps → OpsAt t ns steps
ops_at t [] [] e = record { ops = []; at = refl; among = tt; steps_are = refl }
ops_at t [] (i ∷ is) e = absurd cc
ops_at t (n ∷ ns) [] e = absurd cc
ops_at t (n ∷ ns) (i ∷ is) e =
    let here : operator_step t n ≡ Some i = cc in
    let rest : map (operator_step t) ns ≡ map Some is = cc in
    go (slice_get t.ops n) refl here (ops_at t ns is rest)
  where
    go : (x : Option NumberedOp) → slice_get t.ops n ≡ x → operator_step t n ≡ Some i → OpsAt t ns is → OpsAt t (n ∷ ns) (i ∷ is)
    go None is' here rest = let gone : None ≡ Some i = subst (λ (x : Option NumberedOp). option_map op_step x ≡ Some i) is' here in absurd cc
    go (Some a) is' here rest =
        let there : Some (step_of (named_op t.facts a)) ≡ Some i = subst (λ (x : Option NumberedOp). option_map op_step x ≡ Some i) is' here in
        record {
          ops = named_op t.facts a ∷ rest.ops;
          at = rw (is', rest.at) refl;
          among = (member_map (named_op t.facts) t.ops a (member_at t.ops n a is'), rest.among);
          steps_are = rw (same_Some (step_of (named_op t.facts a)) i there, rest.steps_are) refl;
        }

pub task_plans_are_runs : TaskPlansAreRuns
task_plans_are_runs t w steps =
    let plans = plans_are_runs t.facts (named_ops t) (named_start t) (named_goal t) (is_task t w) steps in (
      λ p.
          let r = plans.0 p in
          let a = numbers_of t r.taken r.among in
          (a.numbers, record { steps_are = steps_at t a.numbers r.taken a.at ∙ ap (map Some) r.steps_are; succeeds = sym (from_start t w a.numbers r.taken a.at) ∙ r.succeeds }),
      λ r.
          let a = ops_at t r.0 steps r.1.steps_are in
          plans.1 (record { taken = a.ops; among = a.among; steps_are = a.steps_are; succeeds = from_start t w r.0 a.ops a.at ∙ r.1.succeeds }),
    )
