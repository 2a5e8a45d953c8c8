-- The tags of clauses: one for each model, with a literal of each clause, and the same under formulas with the same models.
use Rattle.std.proofs.Common.{◌≡◌, ℕ, Bool, true, false, not, List, [], ◌∷◌, filter, map, refl, sym, ap, subst, ◌∙◌, inl, inr}
use Rattle.std.proofs.lemmas.Bool.{and_from}
use Rattle.std.specs.List.{list_any, list_all}
use Rattle.kp_base.specs.declared.lit.Lit.{Lit}
use Rattle.kp_base.specs.declared.ground.Initial.{Initial}
use Rattle.kp_base.specs.Planning.{Member, choices, each_once, positive, negative, same_lit, set_of, same_set, State, holds, is_model, IsConsistent, either_value, IsCandidate, AreTagsOfClauses, AllMeet}
use Rattle.kp_base.specs.Lit.{has}
use Rattle.kp_base.proofs.Lists.{bool_same, all_member, all_from, any_from, any_member, member_flat_map, member_map, map_member, member_filter, filter_member, choice_has}
use Rattle.kp_base.proofs.Lits.{has-member, member-has}
use Rattle.kp_base.proofs.Once.{any-each_once, all_each_once}
use Rattle.kp_base.proofs.Sets.{any-set_of, all-set_of, same_set-true}
use Rattle.kp_cover.specs.Valid.{AreValidTags}
use Rattle.kp_cover.specs.Laws.{TagsOfCandidatesAreGood, IsCovOnce}

-- ---- one for each model

-- an atom has one of two values
pub either_true : (p : ℕ) (s : State) → list_any (holds s) (either_value p) ≡ true
either_true p s = pick (s p) refl
  where
    pick : (b : Bool) → s p ≡ b → list_any (holds s) (either_value p) ≡ true
    pick true is = any_from (holds s) (either_value p) (positive p) (inl refl) is
    pick false is = any_from (holds s) (either_value p) (negative p) (inr (inl refl)) (ap not is)

-- a model makes some literal of a candidate clause true
pub candidate_true : (n : ℕ) (i : Initial) (c : List Lit) → IsCandidate n i c → (s : State) → is_model i s ≡ true → list_any (holds s) c ≡ true
candidate_true n i _ (IsCandidate.implicate c prime more) s m = prime.implicate.holds_always s m
candidate_true n i _ (IsCandidate.unsettled p lt differ) s m = either_true p s

-- a state that makes some literal of each clause true takes one of each
pub record IsTaken (s : State) (cs : List (List Lit)) : Type 0 where
  pub lits : List Lit
  pub choice : Member (choices cs) lits
  pub all_true : list_all (holds s) lits ≡ true

pub taken : (s : State) (cs : List (List Lit)) → ((c : List Lit) → Member cs c → list_any (holds s) c ≡ true) → IsTaken s cs
taken s [] h = record { lits = []; choice = inl refl; all_true = refl }
taken s (c ∷ cs) h =
    let l = any_member (holds s) c (h c (inl refl)) in
    let r = taken s cs (λ d m. h d (inr m)) in
    record {
      lits = l.0 ∷ r.lits;
      choice = member_flat_map (λ l. map (λ rest. l ∷ rest) (choices cs)) c l.0 (l.0 ∷ r.lits) l.1 (member_map (λ rest. l.0 ∷ rest) (choices cs) r.lits r.choice);
      all_true = and_from (holds s l.0) (list_all (holds s) r.lits) l.2 r.all_true;
    }

module _ (i : Initial) (cs tags : List (List Lit)) (is : AreTagsOfClauses i cs tags) where
  abbrev fine : List (List Lit)
  fine = filter is.test (map set_of (choices cs))

  pub tags_valid : ((s : State) → is_model i s ≡ true → (c : List Lit) → Member cs c → list_any (holds s) c ≡ true) → AreValidTags i tags
  tags_valid h s m =
      let r = taken s cs (h s m) in
      let set_true : list_all (holds s) (set_of r.lits) ≡ true = all-set_of (holds s) r.lits ∙ r.all_true in
      let passes : is.test (set_of r.lits) ≡ true = (is.tells (set_of r.lits)).1 (record { state = s; model = m; all_true = set_true }) in
      ap (list_any (list_all (holds s))) is.are
      ∙ (any-each_once same_set (list_all (holds s)) (λ a b e. ap (list_all (holds s)) (same_set-true a b e)) fine
      ∙ any_from (list_all (holds s)) fine (set_of r.lits) (member_filter is.test (map set_of (choices cs)) (set_of r.lits) (member_map set_of (choices cs) r.lits r.choice) passes) set_true)

  pub tags_consistent : (t : List Lit) → Member tags t → IsConsistent i t
  tags_consistent t m =
      (is.tells t).0 (all_member is.test (each_once same_set fine) t (subst (λ (ts : List (List Lit)). Member ts t) is.are m)
      (all_each_once same_set is.test fine (all_from is.test fine (λ u k. (filter_member is.test (map set_of (choices cs)) u k).1))))

  -- a tag has a literal of each clause
  pub tag_has : (t : List Lit) → Member tags t → (c : List Lit) → Member cs c → list_any (has t) c ≡ true
  tag_has t m c k =
      all_member (λ u. list_any (has u) c) (each_once same_set fine) t (subst (λ (ts : List (List Lit)). Member ts t) is.are m)
      (all_each_once same_set (λ u. list_any (has u) c) fine (all_from (λ u. list_any (has u) c) fine (λ u j.
      let q = map_member set_of (choices cs) u (filter_member is.test (map set_of (choices cs)) u j).0 in
      let h = choice_has cs q.0 q.1 c k in
      subst (λ (z : List Lit). list_any (has z) c ≡ true) q.2 (any_from (has (set_of q.0)) c h.0 h.1 (any-set_of (same_lit h.0) q.0 ∙ has-member q.0 h.0 h.2)))))

  -- so each meets all of them
  pub tags_meet : AllMeet i tags cs
  tags_meet t c m k =
      let l = any_member (has t) c (tag_has t m c k) in
      record { lit = l.0; of_clause = l.1; entailed = λ s model all_true. all_member (holds s) t l.0 (member-has t l.0 l.2) all_true }

pub good : TagsOfCandidatesAreGood
good n i cs tags candidates is = record {
  valid = tags_valid i cs tags is (λ s m c k. candidate_true n i c (candidates c k) s m);
  consistent = tags_consistent i cs tags is;
}

-- ---- one list

filter_alike : {X : Type 0} (p q : X → Bool) → ((x : X) → p x ≡ q x) → (xs : List X) → filter p xs ≡ filter q xs
filter_alike p q same [] = refl
filter_alike p q same (x ∷ xs) = rw (same x, filter_alike p q same xs) refl

consistent_by : (i j : Initial) → ((s : State) → is_model i s ≡ is_model j s) → (t : List Lit) → IsConsistent i t → IsConsistent j t
consistent_by i j same t c = record { state = c.state; model = sym (same c.state) ∙ c.model; all_true = c.all_true }

pub one_cov : IsCovOnce
one_cov i j cs a b same is also =
    is.are
    ∙ (ap (each_once same_set) (filter_alike is.test also.test tests_alike (map set_of (choices cs)))
    ∙ sym also.are)
  where
    tests_alike : (t : List Lit) → is.test t ≡ also.test t
    tests_alike t = bool_same (is.test t) (also.test t)
        (λ e. (also.tells t).1 (consistent_by i j same t ((is.tells t).0 e)))
        (λ e. (is.tells t).1 (consistent_by j i (λ s. sym (same s)) t ((also.tells t).0 e)))
