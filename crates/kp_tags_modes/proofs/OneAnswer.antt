-- A mode has one answer.
use Rattle.std.proofs.Common.{◌≡◌, ◌<◌, ◌≤◌, ◌+◌, ◌⊎◌, ℕ, zero, suc, Bool, List, [], ◌∷◌, ◌++◌, Option, map, length, refl, sym, ap, ap₂, subst, ◌∙◌, inl, inr, arith, Contains}
use Rattle.std.proofs.lemmas.Bool.{false≢true}
use Rattle.kp_base.specs.declared.lit.Lit.{Lit}
use Rattle.kp_base.specs.declared.ground.Ground.{Ground}
use Rattle.kp_base.specs.declared.ground.Initial.{Initial}
use Rattle.kp_base.specs.declared.refused.Refused.{Refused}
use Rattle.kp_base.specs.declared.refused.Refused.TheVariants as refusals
use Rattle.kp_base.specs.Planning.{Member, positive, either_value, AreTagsOfClauses, AllMeet}
use Rattle.kp_base.proofs.Lists.{member_map, map_member, member_contains, contains_member}
use Rattle.kp_base.proofs.Ascending.{same_members}
use Rattle.kp_cover_subsets.specs.Subsets.{subsets, choose}
use Rattle.kp_relevance.proofs.Public.{one_clauses_for}
use Rattle.kp_cover.specs.Targets.{AreTargets}
use Rattle.kp_cover.proofs.Public.{cov_once}
use Rattle.kp_tags_files.specs.declared.merge.FileMerge.{FileMerge}
use Rattle.kp_tags_modes.specs.declared.way.Way.{Way}
use Rattle.kp_tags_modes.specs.Assignments.{AreAtomsOf}
use Rattle.kp_tags_modes.specs.Modes.{IsCovering, IsFirstCovering, IsPassed, ArePassed, IsLeastCover, IsRefusedAt, AreOneForEach, AreOtherwise, AreMergesBy, AreMergesFor, merge_of, AreMergesInTurn, AreMergesOf}
use Rattle.kp_tags_modes.specs.Answers.{IsTargetRefused, RefusesFirstTarget, RefusesMode}
use Rattle.kp_tags_modes.specs.Laws.{ModesHaveOneAnswer}
use Rattle.kp_tags_modes.proofs.ByModels.{back, merges_by, refused_by}

-- which of two numbers is less
which : (a b : ℕ) → (a < b) ⊎ ((a ≡ b) ⊎ (b < a))
which zero zero = inr (inl refl)
which zero (suc b) = inl (omega arith)
which (suc a) zero = inr (inr (omega arith))
which (suc a) (suc b) = elim (which a b) [
  | inl lt ↦ inl (omega (arith, lt))
  | inr r ↦ elim r [ inl e ↦ inr (inl (ap suc e)) | inr gt ↦ inr (inr (omega (arith, gt))) ]
]

-- ---- one list of tags

one_tags : (i : Initial) (cs a b : List (List Lit)) → AreTagsOfClauses i cs a → AreTagsOfClauses i cs b → a ≡ b
one_tags i cs a b = cov_once i i cs a b (λ s. refl)

as_numbers : (ps : List ℕ) → map (λ (l : Lit). l.atom.0) (map positive ps) ≡ ps
as_numbers [] = refl
as_numbers (p ∷ ps) = ap (λ zs. p ∷ zs) (as_numbers ps)

one_atoms : (cs : List (List Lit)) (ps qs : List ℕ) → AreAtomsOf cs ps → AreAtomsOf cs qs → ps ≡ qs
one_atoms cs ps qs a b = sym (as_numbers ps) ∙ (ap (map (λ (l : Lit). l.atom.0)) (same_members (map positive ps) (map positive qs) a.ascending b.ascending (to ps qs a b) (to qs ps b a)) ∙ as_numbers qs)
  where
    to : (ps qs : List ℕ) → AreAtomsOf cs ps → AreAtomsOf cs qs → (l : Lit) → Contains (map positive ps) l → Contains (map positive qs) l
    to ps qs a b l m =
        let q = map_member positive ps l (contains_member (map positive ps) l m) in
        member_contains (map positive qs) l (subst (λ (x : Lit). Member (map positive qs) x) q.2 (member_map positive qs q.0 ((b.exact q.0).1 ((a.exact q.0).0 q.1))))

one_each : (i : Initial) (cs : List (List Lit)) (x y : List (List (List Lit))) → AreOneForEach i cs x → AreOneForEach i cs y → x ≡ y
one_each i _ _ _ AreOneForEach.done AreOneForEach.done = refl
one_each i _ _ _ (AreOneForEach.more c cs a x p others) (AreOneForEach.more _ _ b y q rest) = ap₂ (λ (t : List (List Lit)) (ts : List (List (List Lit))). t ∷ ts) (one_tags i (c ∷ []) a b p q) (one_each i cs x y others rest)

one_otherwise : (i : Initial) (cs : List (List Lit)) (b : Bool) (x y : List (List (List Lit))) → AreOtherwise i cs b x → AreOtherwise i cs b y → x ≡ y
one_otherwise i cs _ _ _ (AreOtherwise.for_each x p) (AreOtherwise.for_each y q) = one_each i cs x y p q
one_otherwise i cs _ _ _ (AreOtherwise.by_models a p) (AreOtherwise.by_models b q) =
    ap (λ (t : List (List Lit)). t ∷ []) (one_tags i (map either_value p.atoms) a b p.are (subst (λ (ps : List ℕ). AreTagsOfClauses i (map either_value ps) b) (one_atoms cs q.atoms p.atoms q.are_atoms p.are_atoms) q.are))

-- ---- one search

module _ (i : Initial) (cs : List (List Lit)) where
  one_first : (sets : List (List (List Lit))) (a b : List (List Lit)) → IsFirstCovering i cs sets a → IsFirstCovering i cs sets b → a ≡ b
  one_first _ _ _ (IsFirstCovering.here a sets h) (IsFirstCovering.here _ _ k) = refl
  one_first _ _ _ (IsFirstCovering.here a sets h) (IsFirstCovering.later _ b _ miss k) = absurd (miss h)
  one_first _ _ _ (IsFirstCovering.later _ a sets miss h) (IsFirstCovering.here _ _ k) = absurd (miss k)
  one_first _ _ _ (IsFirstCovering.later _ a sets miss h) (IsFirstCovering.later _ b _ miss-2 k) = one_first sets a b h k

  found : (sets : List (List (List Lit))) (set : List (List Lit)) → IsFirstCovering i cs sets set → Member sets set × IsCovering i cs set
  found _ _ (IsFirstCovering.here set sets h) = (inl refl, h)
  found _ _ (IsFirstCovering.later other set sets miss rest) = let q = found sets set rest in (inr q.0, q.1)

  module _ (way : Way) (limit : ℕ) where
    -- where a set is found, its size isn't passed
    not_passed : (set : List (List Lit)) → IsLeastCover way limit i cs set → IsPassed way limit i cs (length set) → ⊥
    not_passed set l (IsPassed.none_covers few none) = let q = found (subsets (length set) cs) set l.first in none set q.0 q.1
    not_passed set l (IsPassed.skipped many skips) = absurd (omega (arith, many, l.few))

    -- nor where one is refused
    not_passed_over : (size : ℕ) → IsRefusedAt way limit i cs size → IsPassed way limit i cs size → ⊥
    not_passed_over size r (IsPassed.none_covers few none) = absurd (omega (arith, r.many, few))
    not_passed_over size r (IsPassed.skipped many skips) = false≢true (sym r.stops ∙ skips)

    one_least : (a b : List (List Lit)) → IsLeastCover way limit i cs a → IsLeastCover way limit i cs b → a ≡ b
    one_least a b l m = elim (which (length a) (length b)) [
      | inl lt ↦ absurd (not_passed a l (m.least (length a) l.in_range.0 lt))
      | inr r ↦ elim r [
        | inl e ↦ one_first (subsets (length a) cs) a b l.first (subst (λ (n : ℕ). IsFirstCovering i cs (subsets n cs) b) (sym e) m.first)
        | inr gt ↦ absurd (not_passed b m (l.least (length b) m.in_range.0 gt))
      ]
    ]

    one_size : (a b : ℕ) → IsRefusedAt way limit i cs a → IsRefusedAt way limit i cs b → a ≡ b
    one_size a b l m = elim (which a b) [
      | inl lt ↦ absurd (not_passed_over a l (m.least a l.in_range.0 lt))
      | inr r ↦ elim r [
        | inl e ↦ e
        | inr gt ↦ absurd (not_passed_over b m (l.least b m.in_range.0 gt))
      ]
    ]

    cover_excludes_refusal : (set : List (List Lit)) (size : ℕ) → IsLeastCover way limit i cs set → IsRefusedAt way limit i cs size → ⊥
    cover_excludes_refusal set size l m = elim (which (length set) size) [
      | inl lt ↦ not_passed set l (m.least (length set) l.in_range.0 lt)
      | inr r ↦ elim r [
        | inl e ↦ absurd (omega (arith, m.many, subst (λ (n : ℕ). choose (length cs) n ≤ limit) e l.few))
        | inr gt ↦ not_passed_over size m (l.least size m.in_range.0 gt)
      ]
    ]

    not_none : (set : List (List Lit)) → IsLeastCover way limit i cs set → ArePassed way limit i cs (way.greatest + 1) → ⊥
    not_none set l none = not_passed set l (none (length set) l.in_range.0 (omega (arith, l.in_range.1)))

    one_by : (x y : List (List (List Lit))) → AreMergesBy way limit i cs x → AreMergesBy way limit i cs y → x ≡ y
    one_by _ _ (AreMergesBy.empty_tag p) (AreMergesBy.empty_tag q) = refl
    one_by _ _ (AreMergesBy.empty_tag p) (AreMergesBy.least_cover set tags miss l is) = absurd (miss p)
    one_by _ _ (AreMergesBy.empty_tag p) (AreMergesBy.otherwise y miss none h) = absurd (miss p)
    one_by _ _ (AreMergesBy.least_cover set tags miss l is) (AreMergesBy.empty_tag q) = absurd (miss q)
    one_by _ _ (AreMergesBy.least_cover set tags miss l is) (AreMergesBy.least_cover other more miss-2 m also) =
        ap (λ (t : List (List Lit)). t ∷ []) (one_tags i set tags more is (subst (λ (s : List (List Lit)). AreTagsOfClauses i s more) (one_least other set m l) also))
    one_by _ _ (AreMergesBy.least_cover set tags miss l is) (AreMergesBy.otherwise y miss-2 none h) = absurd (not_none set l none)
    one_by _ _ (AreMergesBy.otherwise x miss none h) (AreMergesBy.empty_tag q) = absurd (miss q)
    one_by _ _ (AreMergesBy.otherwise x miss none h) (AreMergesBy.least_cover set tags miss-2 l is) = absurd (not_none set l none)
    one_by _ _ (AreMergesBy.otherwise x miss none h) (AreMergesBy.otherwise y miss-2 none-2 k) = one_otherwise i cs way.by_models x y h k

    never_refused : (x : List (List (List Lit))) (size : ℕ) → AreMergesBy way limit i cs x → (AllMeet i ([] ∷ []) cs → ⊥) → IsRefusedAt way limit i cs size → ⊥
    never_refused _ size (AreMergesBy.empty_tag p) miss r = miss p
    never_refused _ size (AreMergesBy.least_cover set tags _ l is) miss r = cover_excludes_refusal set size l r
    never_refused _ size (AreMergesBy.otherwise x _ none h) miss r = not_passed_over size r (none size r.in_range.0 (omega (arith, r.in_range.1)))

-- ---- targets in turn

module _ (way : Way) (limit : ℕ) (g : Ground) (i : Initial) where
  one_for : (t : Lit) (x y : List (List (List Lit))) → AreMergesFor way limit g i t x → AreMergesFor way limit g i t y → x ≡ y
  one_for t x y p q =
      let e = one_clauses_for g.actions (length g.atoms) i t q.clauses p.clauses q.are_clauses p.are_clauses in
      one_by i p.clauses way limit x y p.by_clauses (subst (λ (cs : List (List Lit)). AreMergesBy way limit i cs y) e q.by_clauses)

  not_refused : (t : Lit) (x : List (List (List Lit))) (size : ℕ) → AreMergesFor way limit g i t x → IsTargetRefused way limit g i t size → ⊥
  not_refused t x size p r =
      let e = one_clauses_for g.actions (length g.atoms) i t p.clauses r.clauses p.are_clauses r.are_clauses in
      never_refused i r.clauses way limit x size (subst (λ (cs : List (List Lit)). AreMergesBy way limit i cs x) e p.by_clauses) r.uncovered r.refused

  one_refused : (t : Lit) (a b : ℕ) → IsTargetRefused way limit g i t a → IsTargetRefused way limit g i t b → a ≡ b
  one_refused t a b p r =
      let e = one_clauses_for g.actions (length g.atoms) i t r.clauses p.clauses r.are_clauses p.are_clauses in
      one_size i p.clauses way limit a b p.refused (subst (λ (cs : List (List Lit)). IsRefusedAt way limit i cs b) e r.refused)

  one_turns : (ts : List Lit) (ms ns : List FileMerge) → AreMergesInTurn way limit g i ts ms → AreMergesInTurn way limit g i ts ns → ms ≡ ns
  one_turns _ _ _ AreMergesInTurn.done AreMergesInTurn.done = refl
  one_turns _ _ _ (AreMergesInTurn.more t ts x ms p others) (AreMergesInTurn.more _ _ y ns q rest) = ap₂ (λ (l : List (List (List Lit))) (r : List FileMerge). map (merge_of t) l ++ r) (one_for t x y p q) (one_turns ts ms ns others rest)

  one_fault : (ts : List Lit) (r s : Refused) → RefusesFirstTarget way limit g i ts r → RefusesFirstTarget way limit g i ts s → r ≡ s
  one_fault _ _ _ (RefusesFirstTarget.here t ts a p) (RefusesFirstTarget.here _ _ b q) = ap (refusals.SetsOver t) (one_refused t a b p q)
  one_fault _ _ s (RefusesFirstTarget.here t ts a p) (RefusesFirstTarget.later _ _ y _ q more) = absurd (not_refused t y a q p)
  one_fault _ r _ (RefusesFirstTarget.later t ts x _ p others) (RefusesFirstTarget.here _ _ b q) = absurd (not_refused t x b p q)
  one_fault _ r s (RefusesFirstTarget.later t ts x _ p others) (RefusesFirstTarget.later _ _ y _ q more) = one_fault ts r s others more

  no_fault : (ts : List Lit) (ms : List FileMerge) (r : Refused) → AreMergesInTurn way limit g i ts ms → RefusesFirstTarget way limit g i ts r → ⊥
  no_fault _ _ r AreMergesInTurn.done h = elim h [ ]
  no_fault _ _ _ (AreMergesInTurn.more t ts x ms p others) (RefusesFirstTarget.here _ _ b q) = not_refused t x b p q
  no_fault _ _ r (AreMergesInTurn.more t ts x ms p others) (RefusesFirstTarget.later _ _ y _ q more) = no_fault ts ms r others more

-- ---- the whole

one_targets : (g : Ground) (ts us : List Lit) → AreTargets g ts → AreTargets g us → ts ≡ us
one_targets g ts us a b = same_members ts us a.ascending b.ascending
    (λ l m. member_contains us l ((b.exact l).1 ((a.exact l).0 (contains_member ts l m))))
    (λ l m. member_contains ts l ((a.exact l).1 ((b.exact l).0 (contains_member us l m))))

module _ (limit : ℕ) (g : Ground) (i : Initial) where
  one_merges : (w : Option Way) (ms ns : List FileMerge) → AreMergesOf limit g i w ms → AreMergesOf limit g i w ns → ms ≡ ns
  one_merges _ _ _ AreMergesOf.none AreMergesOf.none = refl
  one_merges _ _ _ (AreMergesOf.of_targets way ts ms a p) (AreMergesOf.of_targets _ us ns b q) = one_turns way limit g i ts ms ns p (subst (λ (vs : List Lit). AreMergesInTurn way limit g i vs ns) (one_targets g us ts b a) q)

  one_refusal : (w : Option Way) (r s : Refused) → RefusesMode limit g i w r → RefusesMode limit g i w s → r ≡ s
  one_refusal _ _ _ (RefusesMode.of_targets way ts r a p) (RefusesMode.of_targets _ us s b q) = one_fault way limit g i ts r s p (subst (λ (vs : List Lit). RefusesFirstTarget way limit g i vs s) (one_targets g us ts b a) q)

  never_both : (w : Option Way) (ms : List FileMerge) (r : Refused) → AreMergesOf limit g i w ms → RefusesMode limit g i w r → ⊥
  never_both _ _ r AreMergesOf.none q = elim q [ ]
  never_both _ _ _ (AreMergesOf.of_targets way ts ms a p) (RefusesMode.of_targets _ us r b q) = no_fault way limit g i ts ms r p (subst (λ (vs : List Lit). RefusesFirstTarget way limit g i vs r) (one_targets g us ts b a) q)

pub one_answer : ModesHaveOneAnswer
one_answer mode limit g i j same = record {
  merges = λ ms ns p q. one_merges limit g i _ ms ns p (merges_by limit g j i (back i j same) _ ns q);
  refusals = λ r s p q. one_refusal limit g i _ r s p (refused_by limit g j i (back i j same) _ s q);
  never_both = λ ms r p q. never_both limit g i _ ms r p (refused_by limit g j i (back i j same) _ r q);
}
