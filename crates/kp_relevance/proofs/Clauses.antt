-- The clauses that are gathered are the candidate clauses that are relevant to the target.
use Rattle.std.proofs.Common.{◌≡◌, ◌<◌, ℕ, Bool, true, false, not, List, [], filter, map, length, nat_lt, arith, refl, sym, ap, subst, ◌∙◌, inl, inr}
use Rattle.std.proofs.lemmas.Bool.{and_parts, and_from, not-true, false≢true, ltb-true, lt-ltb}
use Rattle.std.proofs.lemmas.List.Sorted.{IsPermutation-sym}
use Rattle.std.specs.List.{list_any, range_with_len}
use Rattle.std.specs.List.Sorted.{IsPermutation, IsSorted}
use Rattle.kp_base.specs.declared.lit.Lit.{Lit}
use Rattle.kp_base.specs.declared.ground.Ground.{Ground}
use Rattle.kp_base.specs.Planning.{Member, positive, negative, negated, lits_cmp, Entails, IsClosure, HasOneValue, are_below, is_tautology, IsOnce, either_value, IsCandidate, AreRelevant, IsClauseFor, AreClausesFor}
use Rattle.kp_base.specs.Lit.{has}
use Rattle.kp_base.proofs.Members.{permuted_member}
use Rattle.kp_base.proofs.Lists.{all_member, all_from, any_from, any_member, member_left, member_right, append_member, member_map, map_member, member_filter, filter_member, range_there}
use Rattle.kp_base.proofs.Lits.{has-member}
use Rattle.kp_primes.specs.Held.{Held, AreWhole, formula}
use Rattle.kp_relevance.specs.Relevant.{is_pair, ArePairsOf}
use Rattle.kp_relevance.specs.Candidates.{AnswersClausesFor}
use Rattle.kp_relevance.specs.Gathered.{are_paired, is_wanted, is_unsettled, unsettled_below, gathered}
use Rattle.kp_relevance.proofs.Once.{once_filter, once_append, once_map, once_range, range_bounds, permuted_once}

-- ---- atoms with one value

-- each literal of an atom's clause is of that atom
own_atom : (p : ℕ) (l : Lit) → Member (either_value p) l → l.atom.0 ≡ p
own_atom p l m = elim m [
  | inl e ↦ sym (ap (λ (x : Lit). x.atom.0) e)
  | inr r ↦ elim r [ inl e ↦ sym (ap (λ (x : Lit). x.atom.0) e) | inr none ↦ absurd none ]
]

either_tautology : (p : ℕ) → is_tautology (either_value p) ≡ true
either_tautology p = any_from (λ l. has (either_value p) (negated l)) (either_value p) (positive p) (inl refl) (has-member (either_value p) (negative p) (inr (inl refl)))

either_injective : (p q : ℕ) → either_value p ≡ either_value q → p ≡ q
either_injective p q e = own_atom q (positive p) (subst (λ (c : List Lit). Member c (positive p)) e (inl refl))

module _ (h : Held) (known : List Lit) (whole : AreWhole h) (closed : IsClosure h.atoms (formula h) [] known) where
  settled_one : (p : ℕ) → list_any (has known) (either_value p) ≡ true → HasOneValue (formula h) p
  settled_one p k = let l = any_member (has known) (either_value p) k in elim l.1 [
    | inl e ↦ by_positive (closed.entailed (positive p) (subst (λ (x : Lit). has known x ≡ true) (sym e) l.2))
    | inr r ↦ elim r [
      | inl e ↦ by_negative (closed.entailed (negative p) (subst (λ (x : Lit). has known x ≡ true) (sym e) l.2))
      | inr none ↦ absurd none
    ]
  ]
    where
      by_positive : Entails (formula h) [] (positive p) → HasOneValue (formula h) p
      by_positive f s t hs ht = f s hs refl ∙ sym (f t ht refl)

      by_negative : Entails (formula h) [] (negative p) → HasOneValue (formula h) p
      by_negative f s t hs ht = not-true (s p) (f s hs refl) ∙ sym (not-true (t p) (f t ht refl))

  one_settled : (p : ℕ) → p < h.atoms → HasOneValue (formula h) p → list_any (has known) (either_value p) ≡ true
  one_settled p lt one = pick (whole.has_model.state p) refl
    where
      pick : (b : Bool) → whole.has_model.state p ≡ b → list_any (has known) (either_value p) ≡ true
      pick true is = any_from (has known) (either_value p) (positive p) (inl refl) (closed.whole (positive p) lt (λ s hs _. one s whole.has_model.state hs whole.has_model.model ∙ is))
      pick false is = any_from (has known) (either_value p) (negative p) (inr (inl refl)) (closed.whole (negative p) lt (λ s hs _. ap not (one s whole.has_model.state hs whole.has_model.model ∙ is)))

  -- ---- relevant clauses

  module _ (g : Ground) (pairs : List (Lit × Lit)) (target : Lit) (of_ground : ArePairsOf g pairs) (many : length g.atoms ≡ h.atoms) (target_below : target.atom.0 < h.atoms) where
    inside : (p : ℕ) → p < h.atoms → p < length g.atoms
    inside p lt = omega (arith, lt, many)

    paired_relevant : (c : List Lit) → ((l : Lit) → Member c l → l.atom.0 < h.atoms) → are_paired pairs target c ≡ true → AreRelevant g.actions target c
    paired_relevant c below e l m = (of_ground.exact l target (inside l.atom.0 (below l m)) (inside target.atom.0 target_below)).0 (all_member (λ x. is_pair pairs x target) c l m e)

    relevant_paired : (c : List Lit) → ((l : Lit) → Member c l → l.atom.0 < h.atoms) → AreRelevant g.actions target c → are_paired pairs target c ≡ true
    relevant_paired c below r = all_from (λ x. is_pair pairs x target) c (λ l m. (of_ground.exact l target (inside l.atom.0 (below l m)) (inside target.atom.0 target_below)).1 (r l m))

    prime_below : (c : List Lit) → Member h.clauses c → (l : Lit) → Member c l → l.atom.0 < h.atoms
    prime_below c mc l m = ltb-true l.atom.0 h.atoms (all_member (λ (x : Lit). nat_lt x.atom.0 h.atoms) c l m (all_member (are_below h.atoms) h.clauses c mc whole.of_atoms.clauses))

    pair_below : (p : ℕ) → p < h.atoms → (l : Lit) → Member (either_value p) l → l.atom.0 < h.atoms
    pair_below p lt l m = let e = own_atom p l m in omega (arith, lt, e)

    abbrev pub all : List (List Lit)
    all = gathered pairs h.clauses known target h.atoms

    wanted_clause : (c : List Lit) → Member (filter (is_wanted pairs target) h.clauses) c → IsClauseFor g.actions h.atoms (formula h) target c
    wanted_clause c m =
        let f = filter_member (is_wanted pairs target) h.clauses c m in
        let parts = and_parts (nat_lt 1 (length c)) (are_paired pairs target c) f.1 in
        record {
          candidate = IsCandidate.implicate c ((whole.primes.primes.exact c).0 f.0) (ltb-true 1 (length c) parts.0);
          relevant = paired_relevant c (prime_below c f.0) parts.1;
        }

    unsettled_clause : (c : List Lit) → Member (unsettled_below pairs known target h.atoms) c → IsClauseFor g.actions h.atoms (formula h) target c
    unsettled_clause c m =
        let f = filter_member (is_unsettled pairs known target) (map either_value (range_with_len 0 h.atoms)) c m in
        let q = map_member either_value (range_with_len 0 h.atoms) c f.0 in
        let up = (range_bounds 0 h.atoms q.0 q.1).1 in
        let lt : q.0 < h.atoms = omega (arith, up) in
        let parts = and_parts (are_paired pairs target (either_value q.0)) (not (list_any (has known) (either_value q.0))) (subst (λ (z : List Lit). is_unsettled pairs known target z ≡ true) (sym q.2) f.1) in
        subst (IsClauseFor g.actions h.atoms (formula h) target) q.2 (record {
          candidate = IsCandidate.unsettled q.0 lt (λ one. false≢true (sym (not-true (list_any (has known) (either_value q.0)) parts.1) ∙ one_settled q.0 lt one));
          relevant = paired_relevant (either_value q.0) (pair_below q.0 lt) parts.0;
        })

    candidate_gathered : (c : List Lit) → IsCandidate h.atoms (formula h) c → AreRelevant g.actions target c → Member all c
    candidate_gathered _ (IsCandidate.implicate c prime more) r =
        let mc = (whole.primes.primes.exact c).1 prime in
        member_left (filter (is_wanted pairs target) h.clauses) (unsettled_below pairs known target h.atoms) c
        (member_filter (is_wanted pairs target) h.clauses c mc (and_from (nat_lt 1 (length c)) (are_paired pairs target c) (lt-ltb 1 (length c) more) (relevant_paired c (prime_below c mc) r)))
    candidate_gathered _ (IsCandidate.unsettled p lt differ) r =
        member_right (filter (is_wanted pairs target) h.clauses) (unsettled_below pairs known target h.atoms) (either_value p)
        (member_filter (is_unsettled pairs known target) (map either_value (range_with_len 0 h.atoms)) (either_value p)
        (member_map either_value (range_with_len 0 h.atoms) p (range_there 0 h.atoms p (omega arith) (omega (arith, lt))))
        (and_from (are_paired pairs target (either_value p)) (not (list_any (has known) (either_value p))) (relevant_paired (either_value p) (pair_below p lt) r) (unknown (list_any (has known) (either_value p)) refl)))
      where
        unknown : (b : Bool) → list_any (has known) (either_value p) ≡ b → not b ≡ true
        unknown true is = absurd (differ (settled_one p is))
        unknown false is = refl

    -- a prime implicate is no tautology
    apart : (c : List Lit) → Member (filter (is_wanted pairs target) h.clauses) c → Member (unsettled_below pairs known target h.atoms) c → ⊥
    apart c m k =
        let f = filter_member (is_wanted pairs target) h.clauses c m in
        let q = map_member either_value (range_with_len 0 h.atoms) c (filter_member (is_unsettled pairs known target) (map either_value (range_with_len 0 h.atoms)) c k).0 in
        let prime = (whole.primes.primes.exact c).0 f.0 in
        false≢true (sym prime.implicate.proper ∙ subst (λ (z : List Lit). is_tautology z ≡ true) q.2 (either_tautology q.0))

    all_once : IsOnce all
    all_once =
        once_append (filter (is_wanted pairs target) h.clauses) (unsettled_below pairs known target h.atoms)
        (once_filter (is_wanted pairs target) h.clauses whole.primes.primes.once)
        (once_filter (is_unsettled pairs known target) (map either_value (range_with_len 0 h.atoms)) (once_map either_value either_injective (range_with_len 0 h.atoms) (once_range 0 h.atoms)))
        apart

    pub clauses_are : (cs : List (List Lit)) → IsPermutation all cs → IsSorted lits_cmp cs → AreClausesFor g.actions h.atoms (formula h) target cs
    clauses_are cs perm order = record {
      exact = λ c. (
        λ m. elim (append_member (filter (is_wanted pairs target) h.clauses) (unsettled_below pairs known target h.atoms) c (permuted_member all cs perm c m)) [
          | inl w ↦ wanted_clause c w
          | inr u ↦ unsettled_clause c u
        ],
        λ f. permuted_member cs all (IsPermutation-sym all cs perm) c (candidate_gathered c f.candidate f.relevant),
      );
      once = permuted_once all cs perm all_once;
      in_order = order;
    }

pub answers_clauses : (pairs : List (Lit × Lit)) (h : Held) (known : List Lit) (target : Lit) (found cs : List (List Lit)) → AreWhole h → IsClosure h.atoms (formula h) [] known → target.atom.0 < h.atoms
    → found ≡ gathered pairs h.clauses known target h.atoms → IsPermutation found cs → IsSorted lits_cmp cs → AnswersClausesFor pairs h target cs
answers_clauses pairs h known target found cs whole closed below is perm order = λ g of_ground many. clauses_are h known whole closed g pairs target of_ground many below cs (subst (λ (xs : List (List Lit)). IsPermutation xs cs) is perm) order
