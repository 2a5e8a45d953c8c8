-- Each mode has merges, or is refused.
use Rattle.std.proofs.Common.{◌≡◌, ◌⊎◌, ◌<◌, ◌≤◌, ◌+◌, ◌++◌, ℕ, zero, suc, Bool, true, false, List, [], ◌∷◌, Option, Some, None, length, map, refl, sym, ap, subst, ◌∙◌, inl, inr, arith}
use Rattle.std.proofs.lemmas.Bool.{cases_lt, cases_eq}
use Rattle.kp_base.specs.declared.lit.Lit.{Lit}
use Rattle.kp_base.specs.declared.ground.Ground.{Ground}
use Rattle.kp_base.specs.declared.ground.Initial.{Initial}
use Rattle.kp_base.specs.declared.refused.Refused.{Refused}
use Rattle.kp_base.specs.declared.refused.Refused.TheVariants as refusals
use Rattle.kp_base.specs.Planning.{Member, AreTagsOfClauses, AllMeet, IsTarget, IsOfAtoms, AreClausesFor, either_value}
use Rattle.kp_base.proofs.Lists.{append_member, map_member}
use Rattle.kp_cover_subsets.specs.Subsets.{subsets, choose}
use Rattle.kp_cover.specs.Targets.{AreTargets}
use Rattle.kp_cover.proofs.Public.{cov_once, target_is_below}
use Rattle.kp_tags_files.specs.declared.merge.FileMerge.{FileMerge}
use Rattle.kp_tags_modes.specs.declared.way.Way.{Way}
use Rattle.kp_tags_modes.specs.Modes.{way_of, IsCovering, IsFirstCovering, IsPassed, ArePassed, IsLeastCover, IsRefusedAt, AreOneForEach, AreOtherwise, AreMergesBy, AreMergesFor, merge_of, AreMergesInTurn, AreMergesOf}
use Rattle.kp_tags_modes.specs.Answers.{IsTargetRefused, RefusesFirstTarget, RefusesMode}
use Rattle.kp_tags_modes.proofs.Public.{atoms_of_clauses, atoms_of_clauses_are}
use Rattle.kp_law_decidable.specs.Laws.{AreProper, ModesAreDecided}
use Rattle.kp_law_decidable.proofs.Either.{IsEither}
use Rattle.kp_law_decidable.proofs.Tags.{cov, all_meet}
use Rattle.kp_law_decidable.proofs.Candidates.{clauses_decided}
use Rattle.kp_law_decidable.proofs.Needed.{targets_decided}

-- a set of one size has that many elements
subset_length : {X : Type 0} (k : ℕ) (xs s : List X) → Member (subsets k xs) s → length s ≡ k
subset_length zero xs s m = elim m [ inl e ↦ sym (ap length e) | inr none ↦ absurd none ]
subset_length (suc k) [] s m = absurd m
subset_length {X} (suc k) (x ∷ xs) s m = elim (append_member (map (λ (t : List X). x ∷ t) (subsets k xs)) (subsets (suc k) xs) s m) [
  | inl there ↦
      let t = map_member (λ (t : List X). x ∷ t) (subsets k xs) s there in
      sym (ap length t.2) ∙ ap suc (subset_length k xs t.0 t.1)
  | inr there ↦ subset_length (suc k) xs s there
]

module _ (n : ℕ) (i : Initial) (over : IsOfAtoms n i) (cs : List (List Lit)) where
  -- ---- sets of clauses

  covering : (set : List (List Lit)) → IsEither (IsCovering i cs set)
  covering set = go (cov n i over set)
    where
      go : ((tags : List (List Lit)) × AreTagsOfClauses i set tags) → IsEither (IsCovering i cs set)
      go (tags, are) = by (all_meet n i over tags cs)
        where
          by : IsEither (AllMeet i tags cs) → IsEither (IsCovering i cs set)
          by (inl all) = inl (tags, record { are = are; cover = all })
          by (inr never) = inr (λ r. never (subst (λ ts. AllMeet i ts cs) (cov_once i i set r.0 tags (λ s. refl) r.1.are are) r.1.cover))

  -- the first set that covers, or none covers
  abbrev FirstOrNone : List (List (List Lit)) → Type 0
  FirstOrNone sets = ((set : List (List Lit)) × Member sets set × IsFirstCovering i cs sets set) ⊎ ((set : List (List Lit)) → Member sets set → IsCovering i cs set → ⊥)

  first_covering : (sets : List (List (List Lit))) → FirstOrNone sets
  first_covering [] = inr (λ set m. absurd m)
  first_covering (x ∷ xs) = go (covering x) (first_covering xs)
    where
      go : IsEither (IsCovering i cs x) → FirstOrNone xs → FirstOrNone (x ∷ xs)
      go (inl c) rest = inl (x, inl refl, IsFirstCovering.here x xs c)
      go (inr never) (inl (set, m, f)) = inl (set, inr m, IsFirstCovering.later x set xs never f)
      go (inr never) (inr none) = inr (λ set m c. elim m [ inl e ↦ never (subst (IsCovering i cs) (sym e) c) | inr r ↦ none set r c ])

  module _ (way : Way) (limit : ℕ) where
    -- ---- sizes

    -- of the sizes below this one, one has the first set that covers, or is refused, or all are passed
    data Sized (size : ℕ) : Type 0 where
      found : (set : List (List Lit)) → IsLeastCover way limit i cs set → Sized size
      refused : (v : ℕ) → IsRefusedAt way limit i cs v → Sized size
      passed : ArePassed way limit i cs size → Sized size

    none_yet : ArePassed way limit i cs 1
    none_yet v le lt = absurd (omega (arith, le, lt))

    passed_more : (v : ℕ) → ArePassed way limit i cs v → IsPassed way limit i cs v → ArePassed way limit i cs (v + 1)
    passed_more v before here w le lt = elim (cases_eq w v) [
      | inl e ↦ subst (IsPassed way limit i cs) (sym e) here
      | inr other ↦ before w le (omega (arith, lt, other))
    ]

    one_size : (v : ℕ) → 1 ≤ v → v ≤ way.greatest → ArePassed way limit i cs v → Sized (v + 1)
    one_size v low high before = elim (cases_lt limit (choose (length cs) v)) [
      | inl many ↦ too_many many way.skips refl
      | inr few ↦ by few (first_covering (subsets v cs))
    ]
      where
        too_many : limit < choose (length cs) v → (b : Bool) → way.skips ≡ b → Sized (v + 1)
        too_many many true is = Sized.passed (passed_more v before (IsPassed.skipped many is))
        too_many many false is = Sized.refused v (record { in_range = (low, high); many = many; stops = is; least = before })

        by : choose (length cs) v ≤ limit → FirstOrNone (subsets v cs) → Sized (v + 1)
        by few (inl (set, m, f)) =
            let e : v ≡ length set = sym (subset_length v cs set m) in
            Sized.found set (record {
              in_range = (subst (λ k. 1 ≤ k) e low, subst (λ k. k ≤ way.greatest) e high);
              few = subst (λ k. choose (length cs) k ≤ limit) e few;
              first = subst (λ k. IsFirstCovering i cs (subsets k cs) set) e f;
              least = subst (ArePassed way limit i cs) e before;
            })
        by few (inr none) = Sized.passed (passed_more v before (IsPassed.none_covers few none))

    sizes : (k : ℕ) → k ≤ way.greatest → Sized (k + 1)
    sizes zero le = Sized.passed none_yet
    sizes (suc k) le = go (sizes k (omega (arith, le)))
      where
        next : k + 1 ≡ suc k
        next = omega arith

        go : Sized (k + 1) → Sized (suc k + 1)
        go (Sized.found set f) = Sized.found set f
        go (Sized.refused v r) = Sized.refused v r
        go (Sized.passed p) = one_size (suc k) (omega arith) le (subst (ArePassed way limit i cs) next p)

    -- ---- the merges of a target

    for_each : (ds : List (List Lit)) → (merges : List (List (List Lit))) × AreOneForEach i ds merges
    for_each [] = ([], AreOneForEach.done)
    for_each (d ∷ ds) =
        let tags = cov n i over (d ∷ []) in
        let rest = for_each ds in
        (tags.0 ∷ rest.0, AreOneForEach.more d ds tags.0 rest.0 tags.1 rest.1)

    otherwise : (b : Bool) → (merges : List (List (List Lit))) × AreOtherwise i cs b merges
    otherwise false = let r = for_each cs in (r.0, AreOtherwise.for_each r.0 r.1)
    otherwise true =
        let tags = cov n i over (map either_value (atoms_of_clauses cs)) in
        (tags.0 ∷ [], AreOtherwise.by_models tags.0 (record { atoms = atoms_of_clauses cs; are_atoms = atoms_of_clauses_are cs; are = tags.1 }))

    -- there are merges, or a size is refused and the empty tag doesn't cover
    abbrev ByClauses : Type 0
    ByClauses = ((merges : List (List (List Lit))) × AreMergesBy way limit i cs merges) ⊎ ((v : ℕ) × (AllMeet i ([] ∷ []) cs → ⊥) × IsRefusedAt way limit i cs v)

    by_clauses : ByClauses
    by_clauses = go (all_meet n i over ([] ∷ []) cs)
      where
        by : (AllMeet i ([] ∷ []) cs → ⊥) → Sized (way.greatest + 1) → ByClauses
        by bare (Sized.found set least) = let tags = cov n i over set in inl (tags.0 ∷ [], AreMergesBy.least_cover set tags.0 bare least tags.1)
        by bare (Sized.refused v r) = inr (v, bare, r)
        by bare (Sized.passed p) = let r = otherwise way.by_models in inl (r.0, AreMergesBy.otherwise r.0 bare p r.1)

        go : IsEither (AllMeet i ([] ∷ []) cs) → ByClauses
        go (inl all) = inl ([], AreMergesBy.empty_tag all)
        go (inr bare) = by bare (sizes way.greatest (omega arith))

-- ---- targets in turn

module _ (g : Ground) (i : Initial) (proper : AreProper g i) (way : Way) (limit : ℕ) where
  abbrev ForTarget : Lit → Type 0
  ForTarget target = ((merges : List (List (List Lit))) × AreMergesFor way limit g i target merges) ⊎ ((v : ℕ) × IsTargetRefused way limit g i target v)

  for_target : (target : Lit) → IsTarget g target → ForTarget target
  for_target target is = go (clauses_decided g i target proper (target_is_below g proper.own_atoms target is))
    where
      go : ((cs : List (List Lit)) × AreClausesFor g.actions (length g.atoms) i target cs) → ForTarget target
      go (cs, are) = by (by_clauses (length g.atoms) i proper.over cs way limit)
        where
          by : ByClauses (length g.atoms) i proper.over cs way limit → ForTarget target
          by (inl (merges, m)) = inl (merges, record { clauses = cs; are_clauses = are; by_clauses = m })
          by (inr (v, bare, r)) = inr (v, record { clauses = cs; are_clauses = are; uncovered = bare; refused = r })

  abbrev InTurn : List Lit → Type 0
  InTurn targets = ((ms : List FileMerge) × AreMergesInTurn way limit g i targets ms) ⊎ ((r : Refused) × RefusesFirstTarget way limit g i targets r)

  in_turn : (targets : List Lit) → ((l : Lit) → Member targets l → IsTarget g l) → InTurn targets
  in_turn [] are = inl ([], AreMergesInTurn.done)
  in_turn (t ∷ ts) are = go (for_target t (are t (inl refl))) (in_turn ts (λ l m. are l (inr m)))
    where
      go : ForTarget t → InTurn ts → InTurn (t ∷ ts)
      go (inr (v, r)) rest = inr (refusals.SetsOver t v, RefusesFirstTarget.here t ts v r)
      go (inl (merges, m)) (inl (ms, rest)) = inl (map (merge_of t) merges ++ ms, AreMergesInTurn.more t ts merges ms m rest)
      go (inl (merges, m)) (inr (r, rest)) = inr (r, RefusesFirstTarget.later t ts merges r m rest)

pub modes_decided : ModesAreDecided
modes_decided mode limit g i proper = by (way_of mode) (targets_decided g)
  where
    by : (o : Option Way) → ((ts : List Lit) × AreTargets g ts) → ((ms : List FileMerge) × AreMergesOf limit g i o ms) ⊎ ((r : Refused) × RefusesMode limit g i o r)
    by None targets = inl ([], AreMergesOf.none)
    by (Some way) (ts, are) = go (in_turn g i proper way limit ts (λ l m. (are.exact l).0 m))
      where
        go : InTurn g i proper way limit ts → ((ms : List FileMerge) × AreMergesOf limit g i (Some way) ms) ⊎ ((r : Refused) × RefusesMode limit g i (Some way) r)
        go (inl (ms, turns)) = inl (ms, AreMergesOf.of_targets way ts ms are turns)
        go (inr (r, first)) = inr (r, RefusesMode.of_targets way ts r are first)
