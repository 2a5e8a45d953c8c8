-- Effects of which those with one result come by ascending conditions: what is above the last of its result is new.
use Rattle.std.proofs.Common.{◌≡◌, ℕ, zero, suc, Bool, true, false, cond, List, [], ◌∷◌, ◌++◌, Option, Some, None, length, slice_get, refl, sym, ap, subst, ◌∙◌, true≢false, nat_eq, eqb-true, eq-eqb, inl, inr}
use Rattle.std.specs.List.{list_any}
use Rattle.std.specs.declared.cmp.Ordering.TheVariants.{Less, Equal, Greater}
use Rattle.std.specs.Ordering.{is_eq, is_gt, is_lt, ordering_reverse}
use Rattle.std.specs.Cmp.{IsTotalOrder, tied_itself, on_total, nat_cmp_total}
use Rattle.std.specs.Cmp.Lexicographic.{lists_total}
use Rattle.std.proofs.lemmas.Bool.{and_parts, and_from}
use Rattle.kp_base.specs.declared.ground.Effect.{Effect}
use Rattle.kp_base.specs.Lists.{Member}
use Rattle.kp_base.specs.Lit.{code_of, same_lit}
use Rattle.kp_base.specs.LitSet.{lits_cmp, same_set}
use Rattle.kp_base.proofs.Ascending.{code_of-injective, equal_iff}
use Rattle.kp_base.proofs.Lists.{any_member, any_from, member_at, append_member}
use Rattle.kp_base.proofs.Lits.{same_lit-true, same_lit-refl}
use Rattle.kp_base.proofs.Sets.{same_set-true, same_sets}
use Rattle.kp_ground.specs.Made.{same_made}
use Rattle.kp_ground.specs.Ascents.{beside, beside_last, LeadsTo, IsUnder, IsRising}

order : IsTotalOrder lits_cmp
order = lists_total (on_total code_of nat_cmp_total)

front : (es ds : List Effect) (n : ℕ) (e : Effect) → slice_get es n ≡ Some e → slice_get (es ++ ds) n ≡ Some e
front [] ds n e h = cc
front (d ∷ es) ds zero e h = h
front (d ∷ es) ds (suc n) e h = front es ds n e h

at_end : (es : List Effect) (e : Effect) → slice_get (es ++ e ∷ []) (length es) ≡ Some e
at_end [] e = refl
at_end (d ∷ es) e = at_end es e

module _ (last : ℕ → Option ℕ) (es : List Effect) (rising : IsRising last es) (e : Effect) where
  -- what is above the last of its result is above each effect with that result
  above_other : (x : Effect) (m : Member es x) → beside_last (last (code_of e.result)) es e ≡ Greater → code_of e.result ≡ code_of x.result → lits_cmp (rising.under x m).other.cond e.cond ≡ Less
  above_other x m above same =
      let u = rising.under x m in
      order.antisymm u.other.cond e.cond
      ∙ ap ordering_reverse (sym (ap (λ l. beside_last l es e) (ap last same ∙ u.known) ∙ ap (λ o. beside o e) u.there) ∙ above)

  pub new_above : beside_last (last (code_of e.result)) es e ≡ Greater → list_any (same_made e) es ≡ false
  new_above above = by (list_any (same_made e) es) refl
    where
      by : (t : Bool) → list_any (same_made e) es ≡ t → list_any (same_made e) es ≡ false
      by false is = is
      by true is =
          let found = any_member (same_made e) es is in
          let parts = and_parts (same_lit e.result found.0.result) (same_set e.cond found.0.cond) found.2 in
          let less = above_other found.0 found.1 above (ap code_of (same_lit-true e.result found.0.result parts.0)) in
          absurd ((rising.under found.0 found.1).under (subst (λ c. lits_cmp (rising.under found.0 found.1).other.cond c ≡ Less) (same_set-true e.cond found.0.cond parts.1) less))

  -- what is level with it is there
  pub there_level : beside_last (last (code_of e.result)) es e ≡ Equal → list_any (same_made e) es ≡ true
  there_level level = by (last (code_of e.result)) refl level
    where
      by : (o : Option ℕ) → last (code_of e.result) ≡ o → beside_last o es e ≡ Equal → list_any (same_made e) es ≡ true
      by None is h = absurd (true≢false (ap is_gt h))
      by (Some place) is h =
          let leads = rising.leads (code_of e.result) place is in
          let result : e.result ≡ leads.other.result = sym (code_of-injective leads.other.result e.result leads.result) in
          let cond' : e.cond ≡ leads.other.cond = (equal_iff e.cond leads.other.cond).0 (ap is_eq (sym (ap (λ o. beside o e) leads.there) ∙ h)) in
          any_from (same_made e) es leads.other (member_at es place leads.other leads.there)
          (and_from (same_lit e.result leads.other.result) (same_set e.cond leads.other.cond)
          (subst (λ r. same_lit e.result r ≡ true) result (same_lit-refl e.result))
          (subst (λ c. same_set e.cond c ≡ true) cond' (same_sets.refl e.cond)))

  -- with one more that is above
  module _ (next : ℕ → Option ℕ) (above : beside_last (last (code_of e.result)) es e ≡ Greater) (put : (n : ℕ) → next n ≡ cond (nat_eq (code_of e.result) n) (Some (length es)) (last n)) where
    leads_more : (n place : ℕ) (t : Bool) → nat_eq (code_of e.result) n ≡ t → cond t (Some (length es)) (last n) ≡ Some place → LeadsTo (es ++ e ∷ []) n place
    leads_more n place true is h =
        let at : length es ≡ place = cc in
        record { other = e; there = subst (λ p. slice_get (es ++ e ∷ []) p ≡ Some e) at (at_end es e); result = eqb-true (code_of e.result) n is }
    leads_more n place false is h =
        let old = rising.leads n place h in
        record { other = old.other; there = front es (e ∷ []) place old.other old.there; result = old.result }

    at_code : (n : ℕ) (t : Bool) → nat_eq (code_of e.result) n ≡ t → next n ≡ cond t (Some (length es)) (last n)
    at_code n t is = put n ∙ ap (λ b. cond b (Some (length es)) (last n)) is

    own : IsUnder next (es ++ e ∷ []) e
    own = record {
      place = length es;
      known = at_code (code_of e.result) true (eq-eqb (code_of e.result) (code_of e.result) refl);
      other = e;
      there = at_end es e;
      under = λ less. true≢false (ap is_lt (sym less ∙ tied_itself order e.cond));
    }

    old_under : (x : Effect) (m : Member es x) (t : Bool) → nat_eq (code_of e.result) (code_of x.result) ≡ t → IsUnder next (es ++ e ∷ []) x
    old_under x m true is =
        let u = rising.under x m in
        let less = above_other x m above (eqb-true (code_of e.result) (code_of x.result) is) in
        record {
          place = length es;
          known = at_code (code_of x.result) true is;
          other = e;
          there = at_end es e;
          under = λ below. u.under (order.trans u.other.cond e.cond x.cond less below);
        }
    old_under x m false is =
        let u = rising.under x m in
        record {
          place = u.place;
          known = at_code (code_of x.result) false is ∙ u.known;
          other = u.other;
          there = front es (e ∷ []) u.place u.other u.there;
          under = u.under;
        }

    pub more_above : IsRising next (es ++ e ∷ [])
    more_above = record {
      leads = λ n place h. leads_more n place (nat_eq (code_of e.result) n) refl (sym (put n) ∙ h);
      under = λ x m. elim (append_member es (e ∷ []) x m) [
        | inl i ↦ old_under x i (nat_eq (code_of e.result) (code_of x.result)) refl
        | inr j ↦ elim j [
          | inl same ↦ subst (IsUnder next (es ++ e ∷ [])) same own
          | inr none ↦ absurd none
        ]
      ];
    }
