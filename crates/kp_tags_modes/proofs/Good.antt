-- The merges of a mode are valid, of consistent tags, and of the atoms.
use Rattle.std.proofs.Common.{◌≡◌, ◌<◌, ◌&&◌, ℕ, Bool, true, List, [], ◌∷◌, Option, filter, map, length, nat_lt, refl, ap, subst, ◌∙◌, inl, inr}
use Rattle.std.proofs.lemmas.Bool.{and_parts, and_from, lt-ltb, ltb-true}
use Rattle.std.specs.List.{list_any, list_all}
use Rattle.kp_base.specs.declared.lit.Lit.{Lit}
use Rattle.kp_base.specs.declared.ground.Ground.{Ground}
use Rattle.kp_base.specs.declared.ground.Initial.{Initial}
use Rattle.kp_base.specs.Planning.{Member, choices, set_of, same_set, State, holds, is_model, IsConsistent, are_below, effect_below, action_below, IsOfItsAtoms, either_value, IsRelevant, AreClausesFor, AreTagsOfClauses, IsTarget}
use Rattle.kp_base.proofs.Lists.{all_member, all_from, append_member, map_member, flat_member, filter_member}
use Rattle.kp_base.proofs.Once.{all_each_once}
use Rattle.kp_base.proofs.Sets.{all-set_of}
use Rattle.kp_cover_subsets.specs.Subsets.{subsets}
use Rattle.kp_cover_subsets.proofs.Public.{subset_member}
use Rattle.kp_cover.specs.Valid.{AreValidTags}
use Rattle.kp_cover.proofs.Public.{either_value_is_true, candidates_are_true, tags_of_clauses_are_valid, tags_of_clauses_are_consistent, target_is_below}
use Rattle.kp_tags_files.specs.declared.merge.FileMerge.{FileMerge}
use Rattle.kp_tags_modes.specs.declared.way.Way.{Way}
use Rattle.kp_tags_modes.specs.Assignments.{AreAssignments}
use Rattle.kp_tags_modes.specs.Modes.{IsFirstCovering, AreOneForEach, AreOtherwise, AreMergesBy, merge_of, AreMergesInTurn, AreMergesOf}
use Rattle.kp_tags_modes.specs.Laws.{IsGoodMerge, MergesOfModesAreGood}

-- ---- the tags of clauses

-- what is asked of clauses: each holds in each model, and is of the atoms
record AreFine (n : ℕ) (i : Initial) (cs : List (List Lit)) : Type 0 where
  hold : (s : State) → is_model i s ≡ true → (c : List Lit) → Member cs c → list_any (holds s) c ≡ true
  below : (c : List Lit) → Member cs c → are_below n c ≡ true

record IsGood (n : ℕ) (i : Initial) (tags : List (List Lit)) : Type 0 where
  consistent : (tag : List Lit) → Member tags tag → IsConsistent i tag
  valid : AreValidTags i tags
  below : list_all (are_below n) tags ≡ true

choice_below : (n : ℕ) (cs : List (List Lit)) → ((c : List Lit) → Member cs c → are_below n c ≡ true) → (ls : List Lit) → Member (choices cs) ls → are_below n ls ≡ true
choice_below n [] h ls m = elim m [ inl e ↦ subst (λ (z : List Lit). are_below n z ≡ true) e refl | inr none ↦ absurd none ]
choice_below n (c ∷ cs) h ls m =
    let q = flat_member (λ l. map (λ rest. l ∷ rest) (choices cs)) c ls m in
    let r = map_member (λ rest. q.0 ∷ rest) (choices cs) ls q.2 in
    subst (λ (z : List Lit). are_below n z ≡ true) r.2
    (and_from (nat_lt q.0.atom.0 n) (are_below n r.0) (all_member (λ (l : Lit). nat_lt l.atom.0 n) c q.0 q.1 (h c (inl refl))) (choice_below n cs (λ d k. h d (inr k)) r.0 r.1))

cov_good : (n : ℕ) (i : Initial) (cs tags : List (List Lit)) → AreFine n i cs → AreTagsOfClauses i cs tags → IsGood n i tags
cov_good n i cs tags fine is = record {
  consistent = tags_of_clauses_are_consistent i cs tags is;
  valid = tags_of_clauses_are_valid i cs tags is fine.hold;
  below =
      ap (list_all (are_below n)) is.are
      ∙ all_each_once same_set (are_below n) (filter is.test (map set_of (choices cs)))
      (all_from (are_below n) (filter is.test (map set_of (choices cs))) (λ t m.
      let q = map_member set_of (choices cs) t (filter_member is.test (map set_of (choices cs)) t m).0 in
      subst (λ (z : List Lit). are_below n z ≡ true) q.2 (all-set_of (λ (l : Lit). nat_lt l.atom.0 n) q.0 ∙ choice_below n cs fine.below q.0 q.1)));
}

-- ---- clauses

-- what is relevant to a literal of the atoms is of the atoms
relevant_below : (g : Ground) → IsOfItsAtoms g → (l m : Lit) → IsRelevant g.actions l m → m.atom.0 < length g.atoms → l.atom.0 < length g.atoms
relevant_below g of l _ (IsRelevant.itself _) lt = lt
relevant_below g of l m (IsRelevant.condition _ _ q) lt =
    let n = length g.atoms in
    let act = all_member (action_below n) g.actions q.action q.action_in of.actions in
    let eff = all_member (effect_below n) q.action.effects q.effect q.effect_in (and_parts (are_below n q.action.pre) (list_all (effect_below n) q.action.effects) act).1 in
    ltb-true l.atom.0 n (all_member (λ (x : Lit). nat_lt x.atom.0 n) q.effect.cond l q.condition (and_parts (nat_lt q.effect.result.atom.0 n) (are_below n q.effect.cond) eff).1)
relevant_below g of l n (IsRelevant.onward _ m _ a b) lt = relevant_below g of l m a (relevant_below g of m n b lt)
relevant_below g of _ _ (IsRelevant.negation l m a) lt = relevant_below g of l m a lt

module _ (g : Ground) (i : Initial) (of : IsOfItsAtoms g) (target : Lit) (lt : target.atom.0 < length g.atoms) (cs : List (List Lit)) (are : AreClausesFor g.actions (length g.atoms) i target cs) where
  abbrev n : ℕ
  n = length g.atoms

  clause_below : (c : List Lit) → Member cs c → are_below n c ≡ true
  clause_below c m = all_from (λ (l : Lit). nat_lt l.atom.0 n) c (λ l k. lt-ltb l.atom.0 n (relevant_below g of l target (((are.exact c).0 m).relevant l k) lt))

  some_fine : (set : List (List Lit)) → ((c : List Lit) → Member set c → Member cs c) → AreFine n i set
  some_fine set sub = record {
    hold = λ s model c m. candidates_are_true n i c ((are.exact c).0 (sub c m)).candidate s model;
    below = λ c m. clause_below c (sub c m);
  }

  first_in : (sets : List (List (List Lit))) (set : List (List Lit)) → IsFirstCovering i cs sets set → Member sets set
  first_in _ _ (IsFirstCovering.here set sets h) = inl refl
  first_in _ _ (IsFirstCovering.later other set sets miss rest) = inr (first_in sets set rest)

  each_good : (ds : List (List Lit)) (lists : List (List (List Lit))) → ((c : List Lit) → Member ds c → Member cs c) → AreOneForEach i ds lists → (tags : List (List Lit)) → Member lists tags → IsGood n i tags
  each_good _ _ sub AreOneForEach.done tags m = absurd m
  each_good _ _ sub (AreOneForEach.more d ds first lists one rest) tags m = elim m [
    | inl e ↦ subst (IsGood n i) e (cov_good n i (d ∷ []) first (some_fine (d ∷ []) (λ c k. elim k [ inl same ↦ sub c (inl same) | inr none ↦ absurd none ])) one)
    | inr r ↦ each_good ds lists (λ c k. sub c (inr k)) rest tags r
  ]

  either_below : (p : ℕ) → p < n → are_below n (either_value p) ≡ true
  either_below p h = and_from (nat_lt p n) (nat_lt p n && true) (lt-ltb p n h) (and_from (nat_lt p n) true (lt-ltb p n h) refl)

  assignments_good : (tags : List (List Lit)) → AreAssignments i cs tags → IsGood n i tags
  assignments_good tags a = cov_good n i (map either_value a.atoms) tags (record {
    hold = λ s model c m. let q = map_member either_value a.atoms c m in subst (λ (z : List Lit). list_any (holds s) z ≡ true) q.2 (either_value_is_true q.0 s);
    below = λ c m.
        let q = map_member either_value a.atoms c m in
        let h = (a.are_atoms.exact q.0).0 q.1 in
        let b = ltb-true h.lit.atom.0 n (all_member (λ (x : Lit). nat_lt x.atom.0 n) h.clause h.lit h.lit_in (clause_below h.clause h.clause_in)) in
        subst (λ (z : List Lit). are_below n z ≡ true) q.2 (either_below q.0 (subst (λ (p : ℕ). p < n) h.of_atom b));
  }) a.are

  otherwise_good : (b : Bool) (lists : List (List (List Lit))) → AreOtherwise i cs b lists → (tags : List (List Lit)) → Member lists tags → IsGood n i tags
  otherwise_good _ _ (AreOtherwise.for_each lists each) tags m = each_good cs lists (λ c k. k) each tags m
  otherwise_good _ _ (AreOtherwise.by_models only a) tags m = elim m [ inl e ↦ subst (IsGood n i) e (assignments_good only a) | inr none ↦ absurd none ]

  lists_good : (way : Way) (limit : ℕ) (lists : List (List (List Lit))) → AreMergesBy way limit i cs lists → (tags : List (List Lit)) → Member lists tags → IsGood n i tags
  lists_good way limit _ (AreMergesBy.empty_tag covered) tags m = absurd m
  lists_good way limit _ (AreMergesBy.least_cover set only uncovered least is) tags m = elim m [
    | inl e ↦ subst (IsGood n i) e (cov_good n i set only (some_fine set (subset_member (length set) cs set (first_in (subsets (length set) cs) set least.first))) is)
    | inr none ↦ absurd none
  ]
  lists_good way limit _ (AreMergesBy.otherwise lists uncovered passed h) tags m = otherwise_good way.by_models lists h tags m

-- ---- all merges

module _ (way : Way) (limit : ℕ) (g : Ground) (i : Initial) (of : IsOfItsAtoms g) where
  turns_good : (ts : List Lit) (ms : List FileMerge) → ((t : Lit) → Member ts t → IsTarget g t) → AreMergesInTurn way limit g i ts ms → (m : FileMerge) → Member ms m → IsGoodMerge g i m
  turns_good _ _ targets AreMergesInTurn.done m k = absurd k
  turns_good _ _ targets (AreMergesInTurn.more t ts lists ms here rest) m k = elim (append_member (map (merge_of t) lists) ms m k) [
    | inl a ↦
        let q = map_member (merge_of t) lists m a in
        let is = targets t (inl refl) in
        let good = lists_good g i of t (target_is_below g of t is) here.clauses here.are_clauses way limit lists here.by_clauses q.0 q.1 in
        subst (IsGoodMerge g i) q.2 (record { target = is; consistent = good.consistent; valid = good.valid; of_atoms = good.below })
    | inr b ↦ turns_good ts ms (λ u j. targets u (inr j)) rest m b
  ]

all_good : (limit : ℕ) (g : Ground) (i : Initial) (w : Option Way) (ms : List FileMerge) → IsOfItsAtoms g → AreMergesOf limit g i w ms → (m : FileMerge) → Member ms m → IsGoodMerge g i m
all_good limit g i _ _ of AreMergesOf.none m k = absurd k
all_good limit g i _ ms of (AreMergesOf.of_targets way ts _ are turns) m k = turns_good way limit g i of ts ms (λ t j. (are.exact t).0 j) turns m k

pub merges_good : MergesOfModesAreGood
merges_good mode limit g i ms of are m k = all_good limit g i _ ms of are m k
