-- Where all assignments are taken if no set covers, each target is covered.
use Rattle.std.proofs.Common.{◌≡◌, ◌++◌, ℕ, Bool, true, false, List, [], ◌∷◌, Option, Some, None, map, length, refl, subst, inl, inr}
use Rattle.std.proofs.lemmas.Bool.{false≢true}
use Rattle.kp_base.specs.declared.lit.Lit.{Lit}
use Rattle.kp_base.specs.declared.ground.Ground.{Ground}
use Rattle.kp_base.specs.declared.ground.Initial.{Initial}
use Rattle.kp_base.specs.declared.limits.Mode.{Mode}
use Rattle.kp_base.specs.Planning.{Member, holds, either_value, IsCandidate, AllMeet, Covers, IsTarget}
use Rattle.kp_base.specs.Lit.{has}
use Rattle.kp_base.proofs.Lists.{all_member, any_member, member_map, member_left, member_right}
use Rattle.kp_base.proofs.Lits.{member-has, same_truth}
use Rattle.kp_cover.proofs.Public.{candidates_are_true, tags_of_clauses_are_consistent, tags_have_a_literal_of_each, cov_once, either_value_is_of_atom}
use Rattle.kp_tags_files.specs.declared.merge.FileMerge.{FileMerge}
use Rattle.kp_tags_modes.specs.declared.way.Way.{Way}
use Rattle.kp_tags_modes.specs.Assignments.{AreAssignments}
use Rattle.kp_tags_modes.specs.Modes.{way_of, CoversEach, IsCovering, IsFirstCovering, AreOtherwise, AreMergesBy, AreMergesFor, merge_of, AreMergesInTurn, AreMergesOf}
use Rattle.kp_tags_modes.specs.Laws.{IsCoveredBy, SomeModesCoverEach}

-- ---- the tags of a merge

-- a consistent assignment of all atoms of candidate clauses has a literal of each: one that is true in a model of it
assignments_meet : (n : ℕ) (i : Initial) (cs tags : List (List Lit)) → ((c : List Lit) → Member cs c → IsCandidate n i c) → AreAssignments i cs tags → AllMeet i tags cs
assignments_meet n i cs tags candidates a t c in_tags in_clauses =
    let either = map either_value a.atoms in
    let in_model = tags_of_clauses_are_consistent i either tags a.are t in_tags in
    let l = any_member (holds in_model.state) c (candidates_are_true n i c (candidates c in_clauses) in_model.state in_model.model) in
    let p = l.0.atom.0 in
    let is_atom = (a.are_atoms.exact p).1 (record { clause = c; lit = l.0; clause_in = in_clauses; lit_in = l.1; of_atom = refl }) in
    let k = any_member (has t) (either_value p) (tags_have_a_literal_of_each i either tags a.are t in_tags (either_value p) (member_map either_value a.atoms p is_atom)) in
    let in_tag = member-has t k.0 k.2 in
    let same = same_truth in_model.state k.0 l.0 (either_value_is_of_atom p k.0 k.1) (all_member (holds in_model.state) t k.0 in_tag in_model.all_true) l.2 in
    record { lit = l.0; of_clause = l.1; entailed = λ s model all. subst (λ (x : Lit). holds s x ≡ true) same (all_member (holds s) t k.0 in_tag all) }

-- the first set that covers does
first_covers : (i : Initial) (cs : List (List Lit)) (sets : List (List (List Lit))) (set : List (List Lit)) → IsFirstCovering i cs sets set → IsCovering i cs set
first_covers i cs _ _ (IsFirstCovering.here set sets h) = h
first_covers i cs _ _ (IsFirstCovering.later other set sets miss rest) = first_covers i cs sets set rest

-- the empty tag meets all clauses, or the tags of one of the merges do
data MeetAll (i : Initial) (cs : List (List Lit)) (lists : List (List (List Lit))) : Type 0 where
  by_empty_tag : AllMeet i ([] ∷ []) cs → MeetAll i cs lists
  by_tags : (tags : List (List Lit)) → Member lists tags → AllMeet i tags cs → MeetAll i cs lists

module _ (n : ℕ) (i : Initial) (cs : List (List Lit)) (candidates : (c : List Lit) → Member cs c → IsCandidate n i c) where
  otherwise_meet : (b : Bool) (lists : List (List (List Lit))) → b ≡ true → AreOtherwise i cs b lists → MeetAll i cs lists
  otherwise_meet _ _ is (AreOtherwise.for_each lists each) = absurd (false≢true is)
  otherwise_meet _ _ is (AreOtherwise.by_models tags a) = MeetAll.by_tags tags (inl refl) (assignments_meet n i cs tags candidates a)

  lists_meet : (way : Way) (limit : ℕ) (lists : List (List (List Lit))) → way.by_models ≡ true → AreMergesBy way limit i cs lists → MeetAll i cs lists
  lists_meet way limit _ is (AreMergesBy.empty_tag covered) = MeetAll.by_empty_tag covered
  lists_meet way limit _ is (AreMergesBy.least_cover set tags uncovered least are) =
      let r = first_covers i cs _ set least.first in
      MeetAll.by_tags tags (inl refl) (subst (λ (ts : List (List Lit)). AllMeet i ts cs) (cov_once i i set r.0 tags (λ s. refl) r.1.are are) r.1.cover)
  lists_meet way limit _ is (AreMergesBy.otherwise lists uncovered passed h) = otherwise_meet way.by_models lists is h

-- ---- the targets

module _ (way : Way) (limit : ℕ) (g : Ground) (i : Initial) (is : way.by_models ≡ true) where
  target_covered : (t : Lit) (lists : List (List (List Lit))) (ms : List FileMerge) → AreMergesFor way limit g i t lists → IsCoveredBy g i (map (merge_of t) lists ++ ms) t
  target_covered t lists ms h = by (lists_meet (length g.atoms) i h.clauses (λ c m. ((h.are_clauses.exact c).0 m).candidate) way limit lists is h.by_clauses)
    where
      covers : (tags : List (List Lit)) → AllMeet i tags h.clauses → Covers g i tags t
      covers tags meet tag c m r = meet tag c m ((h.are_clauses.exact c).1 r)

      by : MeetAll i h.clauses lists → IsCoveredBy g i (map (merge_of t) lists ++ ms) t
      by (MeetAll.by_empty_tag meet) = IsCoveredBy.by_empty_tag (covers ([] ∷ []) meet)
      by (MeetAll.by_tags tags m meet) = IsCoveredBy.by_merge (merge_of t tags) (member_left (map (merge_of t) lists) ms (merge_of t tags) (member_map (merge_of t) lists tags m)) refl (covers tags meet)

  -- what is covered by merges is so behind others
  covered_behind : (front ms : List FileMerge) (l : Lit) → IsCoveredBy g i ms l → IsCoveredBy g i (front ++ ms) l
  covered_behind front ms l (IsCoveredBy.by_empty_tag h) = IsCoveredBy.by_empty_tag h
  covered_behind front ms l (IsCoveredBy.by_merge m k same h) = IsCoveredBy.by_merge m (member_right front ms m k) same h

  turns_cover : (ts : List Lit) (ms : List FileMerge) → AreMergesInTurn way limit g i ts ms → (l : Lit) → Member ts l → IsCoveredBy g i ms l
  turns_cover _ _ AreMergesInTurn.done l m = absurd m
  turns_cover _ _ (AreMergesInTurn.more t ts lists ms here rest) l m = elim m [
    | inl e ↦ subst (IsCoveredBy g i (map (merge_of t) lists ++ ms)) e (target_covered t lists ms here)
    | inr later ↦ covered_behind (map (merge_of t) lists) ms l (turns_cover ts ms rest l later)
  ]

-- ---- the modes

-- all assignments are taken where no set covers
abbrev takes_models : Option Way → Bool
takes_models None = false
takes_models (Some way) = way.by_models

mode_takes : (mode : Mode) → CoversEach mode → takes_models (way_of mode) ≡ true
mode_takes _ CoversEach.models = refl
mode_takes _ CoversEach.auto = refl

all_covered : (limit : ℕ) (g : Ground) (i : Initial) (w : Option Way) (ms : List FileMerge) → takes_models w ≡ true → AreMergesOf limit g i w ms → (l : Lit) → IsTarget g l → IsCoveredBy g i ms l
all_covered limit g i _ _ is AreMergesOf.none l t = absurd (false≢true is)
all_covered limit g i _ ms is (AreMergesOf.of_targets way ts _ are turns) l t = turns_cover way limit g i is ts ms turns l ((are.exact l).1 t)

pub each_covered : SomeModesCoverEach
each_covered mode limit g i ms each are l t = all_covered limit g i (way_of mode) ms (mode_takes mode each) are l t
