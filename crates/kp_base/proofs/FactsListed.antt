-- The list of facts has just those that matter, each at its number.
use Rattle.std.proofs.Common.{◌≡◌, ◌<◌, ◌≤◌, ◌+◌, ◌&&◌, ◌||◌, ℕ, zero, suc, Bool, true, false, not, cond, List, [], ◌∷◌, ◌++◌, Some, filter, map, length, slice_get, nat_eq, eqb-true, eq-eqb, refl, sym, ap, ap₂, subst, ◌∙◌, arith, inl, inr}
use Rattle.std.proofs.lemmas.Bool.{and_parts, and_from, or_cases, or_left, or_right, false≢true}
use Rattle.std.specs.List.{list_any, position_or_len}
use Rattle.kp_base.specs.declared.lit.Lit.{Lit}
use Rattle.kp_base.specs.declared.ground.Ground.{Ground}
use Rattle.kp_base.specs.declared.ground.TagTable.{TagTable}
use Rattle.kp_base.specs.declared.ground.FactOf.{FactOf}
use Rattle.kp_base.specs.declared.ground.Merge.{Merge}
use Rattle.kp_base.specs.Lists.{Member}
use Rattle.kp_base.specs.Lit.{same_lit}
use Rattle.kp_base.specs.Relevance.{IsRelevant}
use Rattle.kp_base.proofs.Lists.{any_from, any_member, same_member, member_left, member_right, append_member, member_map, map_member, member_filter, filter_member}
use Rattle.kp_base.proofs.Lits.{same_lit-true, same_lit-refl}
use Rattle.kp_base.specs.Linked.{lits_from, is_relevant, ActsOnItsAtoms}
use Rattle.kp_base.specs.Matters.{Matters, under_tag_0, to_merge, needs, matters, same_fact, under, facts_from, facts_of, is_fact, number}
use Rattle.kp_base.specs.Facts.{FactsAreTold}
use Rattle.kp_base.proofs.Linking.{relevance_is_linked}
use Rattle.kp_base.proofs.AtomOrder.{next_place}
use Rattle.kp_base.proofs.LitsBelow.{listed, lits_below}

-- ---- one fact

pub same_fact-true : (f h : FactOf) → same_fact f h ≡ true → f ≡ h
same_fact-true f h e =
    let parts = and_parts (nat_eq f.tag h.tag) (same_lit f.lit h.lit) e in
    ap₂ (λ (t : ℕ) (l : Lit). let x : FactOf = record { lit = l; tag = t } in x) (eqb-true f.tag h.tag parts.0) (same_lit-true f.lit h.lit parts.1)

pub same_fact-refl : (f : FactOf) → same_fact f f ≡ true
same_fact-refl f = and_from (nat_eq f.tag f.tag) (same_lit f.lit f.lit) (eq-eqb f.tag f.tag refl) (same_lit-refl f.lit)

pub fact_member : (fs : List FactOf) (t : ℕ) (l : Lit) → is_fact fs t l ≡ true → Member fs (record { lit = l; tag = t })
unfolding is_fact
fact_member fs t l h = same_member same_fact same_fact-true fs (record { lit = l; tag = t }) h

pub member_fact : (fs : List FactOf) (t : ℕ) (l : Lit) → Member fs (record { lit = l; tag = t }) → is_fact fs t l ≡ true
unfolding is_fact
member_fact fs t l m = any_from (same_fact (record { lit = l; tag = t })) fs (record { lit = l; tag = t }) m (same_fact-refl (record { lit = l; tag = t }))

-- ---- its number

pub at_number : (fs : List FactOf) (f : FactOf) → Member fs f → slice_get fs (number fs f) ≡ Some f
unfolding number
at_number [] f m = absurd m
at_number (h ∷ hs) f m = pick (λ r. at_number hs f r) (same_fact f h) refl m
  where
    pick : (Member hs f → slice_get hs (position_or_len (same_fact f) hs) ≡ Some f) → (b : Bool) → same_fact f h ≡ b → Member (h ∷ hs) f → slice_get (h ∷ hs) (cond (not b) (1 + position_or_len (same_fact f) hs) 0) ≡ Some f
    pick rest true is m = ap Some (sym (same_fact-true f h is))
    pick rest false is (inl e) = absurd (false≢true (sym is ∙ (subst (λ (x : FactOf). same_fact f x ≡ true) (sym e) (same_fact-refl f))))
    pick rest false is (inr r) = ap (slice_get (h ∷ hs)) (next_place (position_or_len (same_fact f) hs)) ∙ rest r

-- ---- all facts, before those that matter are taken

pub fact_there : (t n d u : ℕ) (ls : List Lit) (l : Lit) → u ≡ t + d → d < n → Member ls l → Member (facts_from t n ls) (record { lit = l; tag = u })
fact_there t zero d u ls l e less m = absurd (omega (arith, less))
fact_there t (suc n) zero u ls l e less m =
    let here : t ≡ u = omega (arith, e) in
    member_left (under t ls) (facts_from (suc t) n ls) (record { lit = l; tag = u }) (subst (λ x. Member (under t ls) (record { lit = l; tag = x })) here (member_map (λ l. record { lit = l; tag = t }) ls l m))
fact_there t (suc n) (suc d) u ls l e less m = member_right (under t ls) (facts_from (suc t) n ls) (record { lit = l; tag = u }) (fact_there (suc t) n d u ls l (omega (arith, e)) (omega (arith, less)) m)

-- where one of them comes from
pub record IsFrom (t n : ℕ) (ls : List Lit) (f : FactOf) : Type 0 where
  pub above : t ≤ f.tag
  pub below : f.tag < t + n
  pub lit : Member ls f.lit

pub fact_from : (t n : ℕ) (ls : List Lit) (f : FactOf) → Member (facts_from t n ls) f → IsFrom t n ls f
fact_from t zero ls f m = absurd m
fact_from t (suc n) ls f m = elim (append_member (under t ls) (facts_from (suc t) n ls) f m) [
  | inl h ↦
      let r = map_member (λ (l : Lit). let x : FactOf = record { lit = l; tag = t } in x) ls f h in
      let tag : t ≡ f.tag = ap (λ (x : FactOf). x.tag) r.2 in
      record { above = omega (arith, tag); below = omega (arith, tag); lit = subst (λ (l : Lit). Member ls l) (ap (λ (x : FactOf). x.lit) r.2) r.1 }
  | inr h ↦
      let r = fact_from (suc t) n ls f h in
      let above = r.above in
      let below = r.below in
      record { above = omega (arith, above); below = omega (arith, below); lit = r.lit }
]

-- ---- those that matter

matters_told : (g : Ground) (table : TagTable) → ActsOnItsAtoms g → (t : ℕ) (l : Lit) → matters g table t l ≡ true → Matters g table t l
unfolding matters
matters_told g table acts_on t l h = elim (or_cases (nat_eq t 0) (list_any (needs g t l) table.merges) h) [
  | inl e ↦ subst (λ u. Matters g table u l) (sym (eqb-true t 0 e)) (under_tag_0 l)
  | inr e ↦
      let m = any_member (needs g t l) table.merges e in
      let parts = and_parts (list_any (nat_eq t) m.0.tags) (is_relevant g l m.0.target) m.2 in
      to_merge t l m.0 m.1 (same_member nat_eq eqb-true m.0.tags t parts.0) ((relevance_is_linked g acts_on l m.0.target).0 parts.1)
]

told_matters : (g : Ground) (table : TagTable) → ActsOnItsAtoms g → (t : ℕ) (l : Lit) → Matters g table t l → matters g table t l ≡ true
unfolding matters
told_matters g table acts_on _ _ (under_tag_0 l) = refl
told_matters g table acts_on _ _ (to_merge t l m in_merges in_tags r) =
    or_right (nat_eq t 0) (list_any (needs g t l) table.merges)
    (any_from (needs g t l) table.merges m in_merges
    (and_from (list_any (nat_eq t) m.tags) (is_relevant g l m.target) (any_from (nat_eq t) m.tags t in_tags (eq-eqb t t refl)) ((relevance_is_linked g acts_on l m.target).1 r)))

-- a fact of the list
pub fact_of_list : (g : Ground) (table : TagTable) (t : ℕ) (l : Lit) → t < length table.tags → l.atom.0 < length g.atoms → matters g table t l ≡ true → is_fact (facts_of g table) t l ≡ true
unfolding facts_of
fact_of_list g table t l below of_atom h =
    member_fact (facts_of g table) t l
    (member_filter (λ f. matters g table f.tag f.lit) (facts_from 0 (length table.tags) (lits_from 0 (length g.atoms))) (record { lit = l; tag = t })
    (fact_there 0 (length table.tags) t t (lits_from 0 (length g.atoms)) l (omega arith) below (listed (length g.atoms) l of_atom)) h)

record IsListed (g : Ground) (table : TagTable) (f : FactOf) : Type 0 where
  pub tag : f.tag < length table.tags
  pub atom : f.lit.atom.0 < length g.atoms
  pub matters : matters g table f.tag f.lit ≡ true

listed_fact : (g : Ground) (table : TagTable) (f : FactOf) → Member (facts_of g table) f → IsListed g table f
unfolding facts_of
listed_fact g table f m =
    let r = filter_member (λ f. matters g table f.tag f.lit) (facts_from 0 (length table.tags) (lits_from 0 (length g.atoms))) f m in
    let from = fact_from 0 (length table.tags) (lits_from 0 (length g.atoms)) f r.0 in
    let tag = from.below in
    let atom = lits_below 0 (length g.atoms) f.lit from.lit in
    record { tag = omega (arith, tag); atom = omega (arith, atom); matters = r.1 }

-- what is a fact is of a tag and an atom, and matters
pub list_of_facts : (g : Ground) (table : TagTable) (t : ℕ) (l : Lit) → is_fact (facts_of g table) t l ≡ true → (t < length table.tags) × (l.atom.0 < length g.atoms) × (matters g table t l ≡ true)
list_of_facts g table t l h = let r = listed_fact g table (record { lit = l; tag = t }) (fact_member (facts_of g table) t l h) in (r.tag, r.atom, r.matters)

pub facts_are_told : FactsAreTold
facts_are_told g table acts_on = record {
  exact = λ t l below of_atom. (
    λ h. matters_told g table acts_on t l (list_of_facts g table t l h).2,
    λ h. fact_of_list g table t l below of_atom (told_matters g table acts_on t l h),
  );
  of_tags = λ f m. (listed_fact g table f m).tag;
  of_atoms = λ f m. (listed_fact g table f m).atom;
  numbered = λ t l h. at_number (facts_of g table) (record { lit = l; tag = t }) (fact_member (facts_of g table) t l h);
}
