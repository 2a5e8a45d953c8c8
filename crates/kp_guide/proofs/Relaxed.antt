-- A fact that operators reach is reached by a chain of rules.
use Rattle.std.proofs.Common.{◌≡◌, ◌+◌, ℕ, Bool, true, false, not, ◌&&◌, List, [], ◌∷◌, ◌++◌, Option, Some, None, nat_eq, slice_get, refl, sym, subst, ◌∙◌, inl, inr}
use Rattle.std.specs.Bool.{beq}
use Rattle.std.specs.List.{list_all}
use Rattle.std.proofs.lemmas.Bool.{and_parts, and_from, or_cases, eqb-true, false≢true}
use Rattle.std.proofs.lemmas.List.Folds.{list_all-append}
use Rattle.kp_base.specs.Lists.{Member, only_if}
use Rattle.kp_base.proofs.Lists.{any_member, member_flat_map, member_at}
use Rattle.kp_base.proofs.Once.{all_each_once}
use Rattle.kp_classic.specs.declared.task.OpEffect.{OpEffect}
use Rattle.kp_classic.specs.declared.task.Op.{Op}
use Rattle.kp_classic.specs.declared.task.Task.{Task}
use Rattle.kp_classic.specs.Steps.{Holding, meets, fires, applicable, next, succeeds}
use Rattle.kp_guide.specs.declared.rule.Rule.{Rule}
use Rattle.kp_guide.specs.Added.{Costs, rule_of, rules_of_effect, rules_of_op, rules_of, goal_of, IsAdded}
use Rattle.kp_guide.specs.Added.Costs.{none, given, by_rule}

-- facts that hold cost nothing
free : (rules : List Rule) (s : Holding) (fs : List ℕ) → list_all s fs ≡ true → Costs rules s fs 0
free rules s [] h = none
free rules s (f ∷ fs) h = let parts = and_parts (s f) (list_all s fs) h in given f fs 0 parts.0 (free rules s fs parts.1)

is_true : (b : Bool) → beq true b ≡ true → b ≡ true
is_true true h = refl
is_true false h = h

-- ---- one step

module _ (t : Task) (s : Holding) where
  -- a fact that an operator's effect adds
  fired : (k : ℕ) (o : Op) → slice_get t.ops k ≡ Some o → meets o.pre s ≡ true → (f : ℕ) → fires o.effects s true f ≡ true → (n : ℕ) × Costs (rules_of t) s (f ∷ []) n
  fired k o there pre f h =
      let r = any_member (λ (e : OpEffect). beq true e.adds && (nat_eq f e.fact && meets e.cond s)) o.effects h in
      let e = r.0 in
      let parts = and_parts (beq true e.adds) (nat_eq f e.fact && meets e.cond s) r.2 in
      let more = and_parts (nat_eq f e.fact) (meets e.cond s) parts.1 in
      let same : f ≡ e.fact = eqb-true f e.fact more.0 in
      let pre_yes = (and_parts (list_all s o.pre.yes) (list_all (λ g. not (s g)) o.pre.no) pre).0 in
      let cond_yes = (and_parts (list_all s e.cond.yes) (list_all (λ g. not (s g)) e.cond.no) more.1).0 in
      let all = all_each_once nat_eq s (o.pre.yes ++ e.cond.yes) (list_all-append s o.pre.yes e.cond.yes ∙ and_from (list_all s o.pre.yes) (list_all s e.cond.yes) pre_yes cond_yes) in
      let here : Member (rules_of_effect o e) (rule_of o e) = subst (λ b. Member (only_if b (rule_of o e ∷ [])) (rule_of o e)) (sym (is_true e.adds parts.0)) (inl refl) in
      let in_op : Member (rules_of_op o) (rule_of o e) = member_flat_map (rules_of_effect o) o.effects e (rule_of o e) r.1 here in
      let member : Member (rules_of t) (rule_of o e) = member_flat_map rules_of_op t.ops o (rule_of o e) (member_at t.ops k o there) in_op in
      subst (λ g. (n : ℕ) × Costs (rules_of t) s (g ∷ []) n) (sym same) (1 + 0 + 0, by_rule (rule_of o e) 0 [] 0 member (free (rules_of t) s (rule_of o e).needs all) none)

  -- a fact that holds after a step
  stepped : (k : ℕ) → applicable (slice_get t.ops k) s ≡ true → (f : ℕ) → next (slice_get t.ops k) s f ≡ true → (n : ℕ) × Costs (rules_of t) s (f ∷ []) n
  stepped k may f h = by (slice_get t.ops k) refl may h
    where
      by : (o : Option Op) → slice_get t.ops k ≡ o → applicable o s ≡ true → next o s f ≡ true → (n : ℕ) × Costs (rules_of t) s (f ∷ []) n
      by None is c g = absurd (false≢true c)
      by (Some o) is c g = elim (or_cases (fires o.effects s true f) (s f && not (fires o.effects s false f)) g) [
        | inl a ↦ fired k o is c f a
        | inr b ↦ (0, given f [] 0 (and_parts (s f) (not (fires o.effects s false f)) b).0 none)
      ]

-- ---- chains side by side, and one behind another

beside : (rules : List Rule) (s : Holding) (f m : ℕ) (fs : List ℕ) (n : ℕ) → Costs rules s (f ∷ []) m → Costs rules s fs n → (k : ℕ) × Costs rules s (f ∷ fs) k
beside rules s f m fs n (given f' gs k e rest) d = (n, given f' fs n e d)
beside rules s f m fs n (by_rule r k gs j there needs rest) d = (1 + k + n, by_rule r k fs n there needs d)

through : (t : Task) (s : Holding) (k : ℕ) → applicable (slice_get t.ops k) s ≡ true → (fs : List ℕ) (n : ℕ) → Costs (rules_of t) (next (slice_get t.ops k) s) fs n → (m : ℕ) × Costs (rules_of t) s fs m
through t s k may fs n none = (0, none)
through t s k may fs n (given f gs m h rest) =
    let one = stepped t s k may f h in
    let more = through t s k may gs m rest in
    beside (rules_of t) s f one.0 gs more.0 one.1 more.1
through t s k may fs n (by_rule r m gs j there needs rest) =
    let a = through t s k may r.needs m needs in
    let b = through t s k may gs j rest in
    (1 + a.0 + b.0, by_rule r a.0 gs b.0 there a.1 b.1)

-- the goal of operators that succeed
pub relaxed : (t : Task) (s : Holding) (ks : List ℕ) → succeeds t s ks ≡ true → (n : ℕ) × Costs (rules_of t) s (goal_of t) n
relaxed t s [] h =
    let yes_facts = (and_parts (list_all s t.goal.yes) (list_all (λ g. not (s g)) t.goal.no) h).0 in
    (0, free (rules_of t) s (goal_of t) (all_each_once nat_eq s t.goal.yes yes_facts))
relaxed t s (k ∷ ks) h =
    let parts = and_parts (applicable (slice_get t.ops k) s) (succeeds t (next (slice_get t.ops k) s) ks) h in
    let r = relaxed t (next (slice_get t.ops k) s) ks parts.1 in
    through t s k parts.0 (goal_of t) r.0 r.1

-- where no chain reaches the goal, no operators do
pub added_right : (t : Task) (s : Holding) (ks : List ℕ) → IsAdded t s None → succeeds t s ks ≡ true → ⊥
added_right t s ks no_chain h = let r = relaxed t s ks h in no_chain r.0 r.1
