-- Deletes that change nothing.
use Rattle.std.proofs.Common.{◌≡◌, ℕ, Bool, true, false, not, ◌&&◌, ◌||◌, List, [], ◌∷◌, ◌++◌, refl, sym, ap, subst, ◌∙◌, cond, filter}
use Rattle.std.specs.List.{list_any, list_all}
use Rattle.std.proofs.lemmas.Bool.{and_parts, and_from, both_ways, false_from_ne_true}
use Rattle.std.proofs.lemmas.List.Folds.{list_all-append}
use Rattle.std.proofs.Math.Bool.{and-false}
use Rattle.kp_base.specs.declared.lit.Lit.{Lit}
use Rattle.kp_base.specs.declared.ground.Effect.{Effect}
use Rattle.kp_base.specs.Planning.{Member, positive, negative, negated, same_lit, Valuation, fires}
use Rattle.kp_base.specs.Steps.{has}
use Rattle.kp_base.proofs.Lists.{any_member, any_from, any_alike, all_member, bool_same, all_from}
use Rattle.kp_base.proofs.Lits.{same_lit-true, same_lit-refl}
use Rattle.kp_base.specs.Implicates.{is_within}
use Rattle.kp_ground_semantics.specs.Ground.{is_idle, lasting}

-- ---- idle deletes

-- where all of the greater list pass, so do those of the smaller one
pub within_all : (k : Valuation) (xs ys : List Lit) → is_within xs ys ≡ true → list_all k ys ≡ true → list_all k xs ≡ true
within_all k xs ys h all =
    all_from k xs (λ x m.
    let r = any_member (same_lit x) ys (all_member (has ys) xs x m h) in
    subst (λ z. k z ≡ true) (sym (same_lit-true x r.0 r.2)) (all_member k ys r.0 r.1 all))

any-filter : (p q : Effect → Bool) (es : List Effect) → list_any p (filter q es) ≡ list_any (λ e. q e && p e) es
any-filter p q [] = refl
any-filter p q (e ∷ es) = pick (q e) (any-filter p q es)
  where
    pick : (t : Bool) → list_any p (filter q es) ≡ list_any (λ e. q e && p e) es → list_any p (cond t (e ∷ filter q es) (filter q es)) ≡ ((t && p e) || list_any (λ e. q e && p e) es)
    pick true rest = ap (λ t. p e || t) rest
    pick false rest = rest

module _ (pre : List Lit) (es : List Effect) (k : Valuation) (n : ℕ) where
  -- adds stay
  pub lasting_adds : fires (lasting pre es) k (positive n) ≡ fires es k (positive n)
  lasting_adds =
      any-filter (λ e. same_lit e.result (positive n) && list_all k e.cond) (λ d. not (is_idle pre es d)) es
      ∙ any_alike (λ e. not (is_idle pre es e) && (same_lit e.result (positive n) && list_all k e.cond)) (λ e. same_lit e.result (positive n) && list_all k e.cond) es each
    where
      each : (e : Effect) → Member es e → (not (is_idle pre es e) && (same_lit e.result (positive n) && list_all k e.cond)) ≡ (same_lit e.result (positive n) && list_all k e.cond)
      each e m = pick (same_lit e.result (positive n)) refl
        where
          pick : (t : Bool) → same_lit e.result (positive n) ≡ t → (not (is_idle pre es e) && (t && list_all k e.cond)) ≡ (t && list_all k e.cond)
          pick true is =
              let sign = ap (λ (l : Lit). l.positive) (same_lit-true e.result (positive n) is) in
              rw sign refl
          pick false is = and-false (not (is_idle pre es e))

  -- where an idle delete fires, an add of its atom fires
  pub lasting_deletes : list_all k pre ≡ true → fires es k (positive n) ≡ false → fires (lasting pre es) k (negative n) ≡ fires es k (negative n)
  lasting_deletes pre_holds no_add =
      any-filter (λ e. same_lit e.result (negative n) && list_all k e.cond) (λ d. not (is_idle pre es d)) es
      ∙ any_alike (λ e. not (is_idle pre es e) && (same_lit e.result (negative n) && list_all k e.cond)) (λ e. same_lit e.result (negative n) && list_all k e.cond) es each
    where
      adds : (d : Effect) → same_lit d.result (negative n) ≡ true → list_all k d.cond ≡ true → is_idle pre es d ≡ true → ⊥
      adds d result conds idle =
          let parts = and_parts (not d.result.positive) (list_any (λ e. same_lit (negated d.result) e.result && is_within e.cond (d.cond ++ pre)) es) idle in
          let r = any_member (λ e. same_lit (negated d.result) e.result && is_within e.cond (d.cond ++ pre)) es parts.1 in
          let inner = and_parts (same_lit (negated d.result) r.0.result) (is_within r.0.cond (d.cond ++ pre)) r.2 in
          let added : r.0.result ≡ positive n = sym (same_lit-true (negated d.result) r.0.result inner.0) ∙ ap negated (same_lit-true d.result (negative n) result) in
          let all_hold : list_all k (d.cond ++ pre) ≡ true = list_all-append k d.cond pre ∙ and_from (list_all k d.cond) (list_all k pre) conds pre_holds in
          both_ways (fires es k (positive n)) no_add
          (any_from (λ e. same_lit e.result (positive n) && list_all k e.cond) es r.0 r.1
          (and_from (same_lit r.0.result (positive n)) (list_all k r.0.cond) (subst (λ l. same_lit l (positive n) ≡ true) (sym added) (same_lit-refl (positive n))) (within_all k r.0.cond (d.cond ++ pre) inner.1 all_hold)))

      each : (e : Effect) → Member es e → (not (is_idle pre es e) && (same_lit e.result (negative n) && list_all k e.cond)) ≡ (same_lit e.result (negative n) && list_all k e.cond)
      each e m = bool_same (not (is_idle pre es e) && (same_lit e.result (negative n) && list_all k e.cond)) (same_lit e.result (negative n) && list_all k e.cond)
          (λ h. (and_parts (not (is_idle pre es e)) (same_lit e.result (negative n) && list_all k e.cond) h).1)
          (λ h.
          let parts = and_parts (same_lit e.result (negative n)) (list_all k e.cond) h in
          and_from (not (is_idle pre es e)) (same_lit e.result (negative n) && list_all k e.cond) (ap not (false_from_ne_true (is_idle pre es e) (adds e parts.0 parts.1))) h)
