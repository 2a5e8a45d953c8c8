-- One rule relaxed.
use Rattle.std.proofs.Common.{◌≡◌, ◌<◌, ◌≤◌, ◌+◌, ℕ, zero, suc, Bool, true, false, ◌||◌, min, nat_lt, nat_le, nat_eq, List, [], ◌∷◌, length, set, sum, length-set, get_or-set_same, get_or-set_other, arith, refl, sym, ap, ap₂, subst, ◌∙◌, inl, inr}
use Rattle.std.specs.List.{list_any, list_all}
use Rattle.std.proofs.lemmas.Bool.{and_parts, and_from, ltb-true, le-leb, cases_eq, eq-eqb, false≢true}
use Rattle.std.proofs.lemmas.List.Sums.{sum_by-set}
use Rattle.kp_base.specs.Lists.{Member}
use Rattle.kp_classic.specs.Fits.{are_below}
use Rattle.kp_classic.specs.Steps.{Holding}
use Rattle.kp_guide.specs.declared.rule.Rule.{Rule}
use Rattle.kp_guide.specs.Added.{Costs}
use Rattle.kp_guide.specs.Added.Costs.{none, by_rule}
use Rattle.kp_guide.specs.CostTables.{value, joined, total, cost_by, are_costs, fits_rule, AreAchieved, AreLow, Lowers, Relaxes}
use Rattle.kp_guide.proofs.Joins.{joined_is, joined_low}
use Rattle.kp_guide.proofs.Chains.{reached}

-- ---- costs that come of others

pub lowers_none : (rules : List Rule) (old : List ℕ) → are_costs old ≡ true → Lowers rules old old
lowers_none rules old costs = record { len = refl; costs = costs; low = record { each = λ f. omega arith }; achieved = λ s a. a }

pub lowers_on : (rules : List Rule) (a b c : List ℕ) → Lowers rules a b → Lowers rules b c → Lowers rules a c
lowers_on rules a b c x y = record {
  len = y.len ∙ x.len;
  costs = y.costs;
  low = record { each = λ f. let p = x.low.each f in let q = y.low.each f in omega (arith, p, q) };
  achieved = λ s h. y.achieved s (x.achieved s h);
}

all_set : (p : ℕ → Bool) (xs : List ℕ) (i v : ℕ) → list_all p xs ≡ true → p v ≡ true → list_all p (set xs i v) ≡ true
all_set p [] i v h e = h
all_set p (x ∷ xs) zero v h e = and_from (p v) (list_all p xs) e (and_parts (p x) (list_all p xs) h).1
all_set p (x ∷ xs) (suc i) v h e = let parts = and_parts (p x) (list_all p xs) h in and_from (p x) (list_all p (set xs i v)) parts.0 (all_set p xs i v parts.1 e)

-- the cost of a fact that isn't in the list changes no sum
pub total_same : (costs : List ℕ) (f v : ℕ) (fs : List ℕ) → list_any (nat_eq f) fs ≡ false → total (set costs f v) fs ≡ total costs fs
total_same costs f v [] h = refl
total_same costs f v (g ∷ gs) h = elim (cases_eq g f) [
  | inl e ↦ absurd (false≢true (sym h ∙ ap (λ b. b || list_any (nat_eq f) gs) (eq-eqb f g (sym e))))
  | inr ne ↦ ap₂ joined (get_or-set_other costs f g v 0 ne) (total_same costs f v gs (rest (nat_eq f g) h))
]
  where
    rest : (b : Bool) → (b || list_any (nat_eq f) gs) ≡ false → list_any (nat_eq f) gs ≡ false
    rest true e = absurd (false≢true (sym e))
    rest false e = e

-- ---- a table in which one cost fell

module _ (r : Rule) (old : List ℕ) (fits : fits_rule (length old) r ≡ true) (less : cost_by old r < value old r.fact) where
  in_range : r.fact < length old
  in_range = ltb-true r.fact (length old) (and_parts (nat_lt r.fact (length old)) (are_below (length old) r.needs) fits).0

  pub here : value (set old r.fact (cost_by old r)) r.fact ≡ cost_by old r
  here = get_or-set_same old r.fact (cost_by old r) 0 in_range

  pub elsewhere : (f : ℕ) → (f ≡ r.fact → ⊥) → value (set old r.fact (cost_by old r)) f ≡ value old f
  elsewhere f ne = get_or-set_other old r.fact f (cost_by old r) 0 ne

  pub one_low : AreLow old (set old r.fact (cost_by old r))
  one_low = record {
    each = λ f. elim (cases_eq f r.fact) [
      | inl e ↦ let h = here in let l = less in subst (λ g. value (set old r.fact (cost_by old r)) g ≤ value old g) (sym e) (omega (arith, h, l))
      | inr ne ↦ let h = elsewhere f ne in omega (arith, h)
    ];
  }

  one_achieved : (all : List Rule) (s : Holding) → Member all r → AreAchieved all s old → AreAchieved all s (set old r.fact (cost_by old r))
  one_achieved all s there a = record {
    each = λ f lt low. elim (cases_eq f r.fact) [
      | inl e ↦ subst (λ g. (n : ℕ) × Costs all s (g ∷ []) n × (value (set old r.fact (cost_by old r)) g ≡ min n 1000000000)) (sym e)
          (elim (joined_is 1 (total old r.needs)) [
            | inl j ↦
                let c = reached all s old a r.needs (and_parts (nat_lt r.fact (length old)) (are_below (length old) r.needs) fits).1 j.1 in
                let t = j.2 in let g = c.2 in let h = here in let n = c.0 in
                (1 + n + 0, by_rule r n [] 0 there c.1 none, omega (arith, t, g, h))
            | inr j ↦ let t = j.1 in let h = here in let l = subst (λ g. value (set old r.fact (cost_by old r)) g ≤ 1000000000) e low in absurd (omega (arith, t, h, l))
          ])
      | inr ne ↦
          let h = elsewhere f ne in
          let c = a.each f (subst (λ n. f < n) (length-set old r.fact (cost_by old r)) lt) (subst (λ v. v ≤ 1000000000) h low) in
          (c.0, c.1, h ∙ c.2)
    ];
  }

  pub fallen : (all : List Rule) → Member all r → are_costs old ≡ true → Lowers all old (set old r.fact (cost_by old r))
  fallen all there costs = record {
    len = length-set old r.fact (cost_by old r);
    costs = all_set (λ c. nat_le c 1000000001) old r.fact (cost_by old r) costs (le-leb (cost_by old r) 1000000001 (joined_low 1 (total old r.needs)));
    low = one_low;
    achieved = λ s a. one_achieved all s there a;
  }

  pub sum_less : sum (set old r.fact (cost_by old r)) < sum old
  sum_less = let s = sum_by-set (λ x. x) old r.fact (cost_by old r) 0 in_range in let l = less in omega (arith, s, l)

-- a rule that is relaxed
pub relaxed : (all : List Rule) (r : Rule) (old new : List ℕ) (fell : Bool) → Member all r → are_costs old ≡ true → fits_rule (length old) r ≡ true → Relaxes r old fell new → Lowers all old new
relaxed all r old new fell there costs fits one = elim one.is [
  | inl (t, less, is) ↦ subst (Lowers all old) (sym is) (fallen r old fits less all there costs)
  | inr (f, above, is) ↦ subst (Lowers all old) (sym is) (lowers_none all old costs)
]
