-- Of each task and state there is one estimate: lowering costs ends.
use Rattle.std.proofs.Common.{◌≡◌, ◌<◌, ◌≤◌, ◌+◌, ◌⊎◌, ℕ, zero, suc, true, sum, map, set, List, [], ◌∷◌, Option, Some, None, length, arith, refl, sym, ap, subst, inl, inr}
use Rattle.std.specs.List.{list_all, range_with_len}
use Rattle.std.proofs.lemmas.Bool.{cases_lt}
use Rattle.std.proofs.lemmas.List.FromFn.{length-map-range_with_len, get_or-map-range_with_len}
use Rattle.kp_base.specs.Lists.{Member}
use Rattle.kp_base.proofs.Lists.{all_member}
use Rattle.kp_classic.specs.declared.task.Task.{Task}
use Rattle.kp_classic.specs.Fits.{IsFit}
use Rattle.kp_classic.specs.Steps.{Holding}
use Rattle.kp_guide.specs.declared.rule.Rule.{Rule}
use Rattle.kp_guide.specs.Added.{IsAdded, rules_of, goal_of}
use Rattle.kp_guide.specs.CostTables.{value, total, cost_by, are_costs, fits_rule, first_cost, IsClosed, Lowers}
use Rattle.kp_guide.proofs.Relaxing.{lowers_none, lowers_on, fallen, sum_less}
use Rattle.kp_guide.proofs.Estimates.{first_costs, settles, rules_fit, goal_fits, told_some, told_none}

module _ (rules : List Rule) where
  -- a rule that lowers a cost; or none does
  find : (old : List ℕ) (rest : List Rule) → ((r : Rule) × Member rest r × (cost_by old r < value old r.fact)) ⊎ ((r : Rule) → Member rest r → value old r.fact ≤ cost_by old r)
  find old [] = inr (λ r m. absurd m)
  find old (r ∷ rest) = elim (cases_lt (cost_by old r) (value old r.fact)) [
    | inl less ↦ inl (r, inl refl, less)
    | inr above ↦ elim (find old rest) [
      | inl found ↦ inl (found.0, inr found.1, found.2)
      | inr none ↦ inr (λ q m. elim m [ inl e ↦ subst (λ z. value old z.fact ≤ cost_by old z) e above | inr later ↦ none q later ])
    ]
  ]

  -- costs that come of these, and that no rule lowers
  settled : (fuel : ℕ) (old : List ℕ) → sum old < fuel → are_costs old ≡ true → list_all (fits_rule (length old)) rules ≡ true → (new : List ℕ) × Lowers rules old new × IsClosed rules new
  settled zero old lt costs fits = absurd (omega (arith, lt))
  settled (suc fuel) old lt costs fits = elim (find old rules) [
    | inl (r, there, less) ↦
        let fit = all_member (fits_rule (length old)) rules r there fits in
        let fall = fallen r old fit less rules there costs in
        let down = sum_less r old fit less in
        let rest = settled fuel (set old r.fact (cost_by old r)) (omega (arith, down, lt)) fall.costs (subst (λ n. list_all (fits_rule n) rules ≡ true) (sym fall.len) fits) in
        (rest.0, lowers_on rules old _ rest.0 fall rest.1, rest.2)
    | inr none ↦ (old, lowers_none rules old costs, record { each = none })
  ]

pub added_exists : (t : Task) (s : Holding) → IsFit t → (h : Option ℕ) × IsAdded t s h
added_exists t s fit =
    let n = length t.facts in
    let first = map (first_cost s) (range_with_len 0 n) in
    let fits = subst (λ k. list_all (fits_rule k) (rules_of t) ≡ true) (sym (length-map-range_with_len (first_cost s) 0 n)) (rules_fit t n refl fit) in
    let r = settled (rules_of t) (1 + sum first) first (omega arith) (first_costs s (range_with_len 0 n)) fits in
    let a = settles (rules_of t) s n first (length-map-range_with_len (first_cost s) 0 n) (λ f lt. get_or-map-range_with_len (first_cost s) 0 n f f 0 lt (omega arith)) r.0 r.1 r.2 in
    elim (cases_lt 1000000000 (total r.0 (goal_of t))) [
      | inl high ↦ (None, told_none (rules_of t) s n r.0 a (goal_of t) high)
      | inr low ↦ (Some (total r.0 (goal_of t)), told_some (rules_of t) s n r.0 a (goal_of t) (goal_fits t n refl fit) low)
    ]

-- there are no two
pub added_one : (t : Task) (s : Holding) (h k : Option ℕ) → IsAdded t s h → IsAdded t s k → h ≡ k
added_one t s None None a b = refl
added_one t s None (Some k) a b = absurd (a b.0.0 b.0.1)
added_one t s (Some h) None a b = absurd (b a.0.0 a.0.1)
added_one t s (Some h) (Some k) a b =
    let x = a.1 b.0.0 b.0.1 in
    let y = b.1 a.0.0 a.0.1 in
    let e = a.0.2 in
    let f = b.0.2 in
    ap Some (omega (arith, x, y, e, f))
