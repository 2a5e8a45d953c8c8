-- From tables of costs to the estimate.
use Rattle.std.proofs.Common.{◌≡◌, ◌<◌, ◌≤◌, ℕ, Bool, true, false, if◌then◌else◌, nat_lt, nat_le, nat_eq, List, [], ◌∷◌, ◌++◌, Some, None, map, fold, length, arith, refl, sym, ap, subst, ◌∙◌, inl, inr}
use Rattle.std.specs.List.{list_all}
use Rattle.std.specs.Cmp.{nat_eq_equiv}
use Rattle.std.proofs.lemmas.Bool.{and_parts, and_from, cases_lt, cases_Bool}
use Rattle.std.proofs.lemmas.List.{get_or_past, get_or-map, length-map}
use Rattle.std.proofs.lemmas.List.Folds.{list_all-append}
use Rattle.std.proofs.lemmas.List.Sums.{fold-append}
use Rattle.kp_base.specs.Lists.{Member, each_once, only_if}
use Rattle.kp_base.proofs.Lists.{all_from, all_member, flat_member}
use Rattle.kp_base.proofs.Once.{all_each_once, once_by_one}
use Rattle.kp_guide.specs.declared.rule.Rule.{Rule}
use Rattle.kp_classic.specs.declared.task.OpEffect.{OpEffect}
use Rattle.kp_classic.specs.declared.task.Op.{Op}
use Rattle.kp_classic.specs.declared.task.Task.{Task}
use Rattle.kp_classic.specs.Fits.{are_below, fits, fits_effect, fits_op, IsFit}
use Rattle.kp_classic.specs.Steps.{Holding}
use Rattle.kp_guide.specs.Added.{IsLeast, rule_of, rules_of_effect, rules_of_op, rules_of, goal_of}
use Rattle.kp_guide.specs.Added.Costs.{none, given}
use Rattle.kp_guide.specs.Relaxed.{at}
use Rattle.kp_guide.specs.CostTables.{value, total, are_costs, fits_rule, first_cost, with_fact, AreAchieved, IsClosed, AreSettled, Lowers}
use Rattle.kp_guide.proofs.Chains.{lower, reached}

-- ---- facts once

pub once_of : (xs ys : List ℕ) → fold with_fact (fold with_fact [] xs) ys ≡ each_once nat_eq (xs ++ ys)
once_of xs ys = sym (fold-append with_fact [] xs ys) ∙ once_by_one nat_eq nat_eq_equiv (xs ++ ys)

-- ---- the rules fit

pub rules_fit : (t : Task) (n : ℕ) → n ≡ length t.facts → IsFit t → list_all (fits_rule n) (rules_of t) ≡ true
rules_fit t n same fit = all_from (fits_rule n) (rules_of t) (λ r m.
    let a = flat_member rules_of_op t.ops r m in
    let o = a.0 in
    let b = flat_member (rules_of_effect o) o.effects r a.2 in
    let e = b.0 in
    let op_ok = subst (λ k. fits_op k o ≡ true) (sym same) (all_member (fits_op (length t.facts)) t.ops o a.1 fit.ops) in
    let parts = and_parts (fits n o.pre) (list_all (fits_effect n) o.effects) op_ok in
    let eff = and_parts (nat_lt e.fact n) (fits n e.cond) (all_member (fits_effect n) o.effects e b.1 parts.1) in
    let pre = (and_parts (are_below n o.pre.yes) (are_below n o.pre.no) parts.0).0 in
    let con = (and_parts (are_below n e.cond.yes) (are_below n e.cond.no) eff.1).0 in
    let rule_ok : fits_rule n (rule_of o e) ≡ true = and_from (nat_lt e.fact n) (are_below n (rule_of o e).needs) eff.0 (all_each_once nat_eq (λ f. nat_lt f n) (o.pre.yes ++ e.cond.yes) (list_all-append (λ f. nat_lt f n) o.pre.yes e.cond.yes ∙ and_from (are_below n o.pre.yes) (are_below n e.cond.yes) pre con)) in
    here n r o e rule_ok e.adds b.2)
  where
    here : (n : ℕ) (r : Rule) (o : Op) (e : OpEffect) → fits_rule n (rule_of o e) ≡ true → (b : Bool) → Member (only_if b (rule_of o e ∷ [])) r → fits_rule n r ≡ true
    here n r o e ok true (inl same_rule) = subst (λ q. fits_rule n q ≡ true) same_rule ok
    here n r o e ok true (inr m) = absurd m
    here n r o e ok false m = absurd m

pub goal_fits : (t : Task) (n : ℕ) → n ≡ length t.facts → IsFit t → are_below n (goal_of t) ≡ true
goal_fits t n same fit =
    all_each_once nat_eq (λ f. nat_lt f n) t.goal.yes
    (and_parts (are_below n t.goal.yes) (are_below n t.goal.no) (subst (λ k. fits k t.goal ≡ true) (sym same) fit.goal)).0

-- ---- the first costs

pub first_costs : (s : Holding) (fs : List ℕ) → are_costs (map (first_cost s) fs) ≡ true
first_costs s [] = refl
first_costs s (f ∷ fs) = and_from (nat_le (first_cost s f) 1000000001) (are_costs (map (first_cost s) fs)) (pick (s f)) (first_costs s fs)
  where
    pick : (b : Bool) → nat_le (if b then 0 else 1000000001) 1000000001 ≡ true
    pick true = refl
    pick false = refl

-- these are the costs of so many facts at first
module _ (rules : List Rule) (s : Holding) (n : ℕ) (first : List ℕ) (long : length first ≡ n) (is : (f : ℕ) → f < n → value first f ≡ first_cost s f) where
  first_given : (f : ℕ) → s f ≡ true → value first f ≡ 0
  first_given f h = elim (cases_lt f n) [
    | inl lt ↦ is f lt ∙ ap {B = ℕ} (λ b. if b then 0 else 1000000001) h
    | inr ge ↦ get_or_past first f 0 (omega (arith, long, ge))
  ]

  first_achieved : AreAchieved rules s first
  first_achieved = record {
    each = λ f lt low.
        let v = is f (omega (arith, lt, long)) in
        elim (cases_Bool (s f)) [
          | inl h ↦ (0, given f [] 0 h none, v ∙ ap {B = ℕ} (λ b. if b then 0 else 1000000001) h)
          | inr h ↦ let e = v ∙ ap {B = ℕ} (λ b. if b then 0 else 1000000001) h in absurd (omega (arith, e, low))
        ];
  }

  -- what comes of them, and no rule lowers
  pub settles : (new : List ℕ) → Lowers rules first new → IsClosed rules new → AreSettled rules s n new
  settles new l closed = record {
    long = l.len ∙ long;
    in_range = l.costs;
    given_free = λ f h. let a = l.low.each f in let b = first_given f h in omega (arith, a, b);
    achieved = l.achieved s first_achieved;
    closed = closed;
  }

-- the costs of the facts at some places
pub settles_placed : (rules : List Rule) (s : Holding) (facts : List ℕ) (new : List ℕ) → Lowers rules (map (first_cost s) facts) new → IsClosed rules new → AreSettled rules (λ i. s (at facts i)) (length facts) new
settles_placed rules s facts = settles rules (λ i. s (at facts i)) (length facts) (map (first_cost s) facts) (length-map facts (first_cost s)) (λ i lt. get_or-map (first_cost s) facts i 0 0 lt)

-- ---- the estimate

module _ (rules : List Rule) (s : Holding) (n : ℕ) (costs : List ℕ) (a : AreSettled rules s n costs) (goal : List ℕ) where
  pub told_some : are_below n goal ≡ true → total costs goal ≤ 1000000000 → IsLeast rules s goal (Some (total costs goal))
  told_some fit low = (reached rules s costs a.achieved goal (subst (λ k. are_below k goal ≡ true) (sym a.long) fit) low, λ m d. (lower rules s costs a.closed a.given_free goal m d).1)

  pub told_none : 1000000000 < total costs goal → IsLeast rules s goal None
  told_none high m d = let l = (lower rules s costs a.closed a.given_free goal m d).0 in absurd (omega (arith, l, high))
