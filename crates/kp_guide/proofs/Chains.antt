-- A table that is closed and achieved has the least costs.
use Rattle.std.proofs.Common.{◌≡◌, ◌≤◌, ◌+◌, ℕ, Bool, true, min, List, [], ◌∷◌, length, arith, refl, subst, inl, inr}
use Rattle.std.proofs.lemmas.Bool.{and_parts, ltb-true}
use Rattle.kp_base.specs.Lists.{Member}
use Rattle.kp_guide.specs.declared.rule.Rule.{Rule}
use Rattle.kp_classic.specs.Fits.{are_below}
use Rattle.kp_guide.specs.Added.{Costs}
use Rattle.kp_guide.specs.Added.Costs.{none, given, by_rule}
use Rattle.kp_guide.specs.CostTables.{value, joined, total, AreAchieved, IsClosed}
use Rattle.kp_guide.proofs.Joins.{joined_is}

module _ (rules : List Rule) (holds : ℕ → Bool) (costs : List ℕ) where
  -- what some chain reaches has no greater cost in a closed table
  pub lower : IsClosed rules costs → ((f : ℕ) → holds f ≡ true → value costs f ≡ 0) → (fs : List ℕ) (n : ℕ) → Costs rules holds fs n → (total costs fs ≤ 1000000000) × (total costs fs ≤ n)
  lower closed start fs n none = (omega arith, omega arith)
  lower closed start fs n (given f gs m h rest) =
      let r = lower closed start gs m rest in
      let a = r.0 in let b = r.1 in let z = start f h in
      elim (joined_is (value costs f) (total costs gs)) [
        | inl j ↦ let e = j.2 in (omega (arith, e), omega (arith, e, z, b))
        | inr j ↦ absurd (elim j.0 [ inl v ↦ omega (arith, v, z) | inr v ↦ omega (arith, v, a) ])
      ]
  lower closed start fs n (by_rule r m gs k there needs rest) =
      let p = lower closed start r.needs m needs in
      let q = lower closed start gs k rest in
      let a = p.0 in let b = p.1 in let c = q.0 in let d = q.1 in
      let low = closed.each r there in
      let one : (joined 1 (total costs r.needs) ≤ 1000000000) × (joined 1 (total costs r.needs) ≤ 1 + m) = elim (joined_is 1 (total costs r.needs)) [
        | inl j ↦ let e = j.2 in (omega (arith, e), omega (arith, e, b))
        | inr j ↦ absurd (elim j.0 [ inl v ↦ omega (arith, v) | inr v ↦ omega (arith, v, a) ])
      ] in
      let x = one.0 in let y = one.1 in
      elim (joined_is (value costs r.fact) (total costs gs)) [
        | inl j ↦ let e = j.2 in (omega (arith, e), omega (arith, e, low, y, d))
        | inr j ↦ absurd (elim j.0 [ inl v ↦ omega (arith, v, low, x) | inr v ↦ omega (arith, v, c) ])
      ]

  -- two chains side by side
  beside : (f : ℕ) (m : ℕ) (fs : List ℕ) (n : ℕ) → Costs rules holds (f ∷ []) m → Costs rules holds fs n → Costs rules holds (f ∷ fs) (m + n)
  beside f m fs n (given f' gs k h rest) d = given_more f k fs n h (nothing k rest) d
    where
      nothing : (k : ℕ) → Costs rules holds [] k → k ≡ 0
      nothing k none = refl

      given_more : (f : ℕ) (k : ℕ) (fs : List ℕ) (n : ℕ) → holds f ≡ true → k ≡ 0 → Costs rules holds fs n → Costs rules holds (f ∷ fs) (k + n)
      given_more f k fs n h e d = let same : n ≡ k + n = omega (arith, e) in subst (Costs rules holds (f ∷ fs)) same (given f fs n h d)
  beside f m fs n (by_rule r k gs j there needs rest) d = rule_more r k j fs n there needs (nothing j rest) d
    where
      nothing : (k : ℕ) → Costs rules holds [] k → k ≡ 0
      nothing k none = refl

      rule_more : (r : Rule) (k j : ℕ) (fs : List ℕ) (n : ℕ) → Member rules r → Costs rules holds r.needs k → j ≡ 0 → Costs rules holds fs n → Costs rules holds (r.fact ∷ fs) (1 + k + j + n)
      rule_more r k j fs n there needs e d = let same : 1 + k + n ≡ 1 + k + j + n = omega (arith, e) in subst (Costs rules holds (r.fact ∷ fs)) same (by_rule r k fs n there needs d)

  -- a sum of achieved costs is that of a chain
  pub reached : AreAchieved rules holds costs → (fs : List ℕ) → are_below (length costs) fs ≡ true → total costs fs ≤ 1000000000 → (n : ℕ) × Costs rules holds fs n × (total costs fs ≡ min n 1000000000)
  reached a [] below low = (0, none, refl)
  reached a (f ∷ fs) below low =
      let parts = and_parts _ _ below in
      elim (joined_is (value costs f) (total costs fs)) [
        | inl j ↦
            let one = a.each f (ltb-true f (length costs) parts.0) j.0 in
            let more = reached a fs parts.1 j.1 in
            let e = one.2 in let g = more.2 in let s = j.2 in
            let m = one.0 in let n = more.0 in
            (m + n, beside f m fs n one.1 more.1, omega (arith, e, g, s))
        | inr j ↦ let e = j.1 in absurd (omega (arith, e, low))
      ]
