-- What is said of merges goes by the models alone.
use Rattle.std.proofs.Common.{◌+◌, ℕ, Bool, List, [], ◌∷◌, Option, length, sym, ◌∙◌}
use Rattle.kp_base.specs.declared.lit.Lit.{Lit}
use Rattle.kp_base.specs.declared.ground.Ground.{Ground}
use Rattle.kp_base.specs.declared.ground.Initial.{Initial}
use Rattle.kp_base.specs.declared.ground.Action.{Action}
use Rattle.kp_base.specs.declared.refused.Refused.{Refused}
use Rattle.kp_base.specs.Planning.{IsConsistent, HaveSameModels, IsImplicate, IsCandidate, AreClausesFor, AreTagsOfClauses, AllMeet}
use Rattle.kp_tags_files.specs.declared.merge.FileMerge.{FileMerge}
use Rattle.kp_tags_modes.specs.declared.way.Way.{Way}
use Rattle.kp_tags_modes.specs.Modes.{IsCovering, IsFirstCovering, IsPassed, ArePassed, IsLeastCover, IsRefusedAt, AreOneForEach, AreOtherwise, AreMergesBy, AreMergesFor, AreMergesInTurn, AreMergesOf}
use Rattle.kp_tags_modes.specs.Answers.{IsTargetRefused, RefusesFirstTarget, RefusesMode}

pub back : (i j : Initial) → HaveSameModels i j → HaveSameModels j i
back i j same s = sym (same s)

consistent : (i j : Initial) → HaveSameModels i j → (t : List Lit) → IsConsistent i t → IsConsistent j t
consistent i j same t c = record { state = c.state; model = sym (same c.state) ∙ c.model; all_true = c.all_true }

implicate : (i j : Initial) → HaveSameModels i j → (c : List Lit) → IsImplicate i c → IsImplicate j c
implicate i j same c h = record { proper = h.proper; holds_always = λ s m. h.holds_always s (same s ∙ m) }

pub candidate : (i j : Initial) → HaveSameModels i j → (n : ℕ) (c : List Lit) → IsCandidate n i c → IsCandidate n j c
candidate i j same n c (IsCandidate.implicate _ prime more) = IsCandidate.implicate c (record {
  ascending = prime.ascending;
  implicate = implicate i j same c prime.implicate;
  least = λ d h. prime.least d (implicate j i (back i j same) d h);
}) more
candidate i j same n _ (IsCandidate.unsettled p lt differ) = IsCandidate.unsettled p lt (λ one. differ (λ s t m k. one s t (sym (same s) ∙ m) (sym (same t) ∙ k)))

pub clauses : (i j : Initial) → HaveSameModels i j → (acts : List Action) (n : ℕ) (t : Lit) (cs : List (List Lit)) → AreClausesFor acts n i t cs → AreClausesFor acts n j t cs
clauses i j same acts n t cs are = record {
  exact = λ c. (
    λ m. let h = (are.exact c).0 m in record { candidate = candidate i j same n c h.candidate; relevant = h.relevant },
    λ h. (are.exact c).1 (record { candidate = candidate j i (back i j same) n c h.candidate; relevant = h.relevant }),
  );
  once = are.once;
  in_order = are.in_order;
}

module _ (i j : Initial) (same : HaveSameModels i j) where
  cov : (cs tags : List (List Lit)) → AreTagsOfClauses i cs tags → AreTagsOfClauses j cs tags
  cov cs tags h = record { test = h.test; tells = λ t. (λ e. consistent i j same t ((h.tells t).0 e), λ c. (h.tells t).1 (consistent j i (back i j same) t c)); are = h.are }

  meet : (tags cs : List (List Lit)) → AllMeet i tags cs → AllMeet j tags cs
  meet tags cs h t c m k = let q = h t c m k in record { lit = q.lit; of_clause = q.of_clause; entailed = λ s model. q.entailed s (same s ∙ model) }

  covering : (cs set : List (List Lit)) → IsCovering i cs set → IsCovering j cs set
  covering cs set h = (h.0, record { are = cov set h.0 h.1.are; cover = meet h.0 cs h.1.cover })

module _ (i j : Initial) (same : HaveSameModels i j) where
  first : (cs : List (List Lit)) (sets : List (List (List Lit))) (set : List (List Lit)) → IsFirstCovering i cs sets set → IsFirstCovering j cs sets set
  first cs _ _ (IsFirstCovering.here set sets h) = IsFirstCovering.here set sets (covering i j same cs set h)
  first cs _ _ (IsFirstCovering.later other set sets miss rest) = IsFirstCovering.later other set sets (λ h. miss (covering j i (back i j same) cs other h)) (first cs sets set rest)

  module _ (way : Way) (limit : ℕ) where
    passed : (cs : List (List Lit)) (size : ℕ) → IsPassed way limit i cs size → IsPassed way limit j cs size
    passed cs size (IsPassed.none_covers few none) = IsPassed.none_covers few (λ set m h. none set m (covering j i (back i j same) cs set h))
    passed cs size (IsPassed.skipped many skips) = IsPassed.skipped many skips

    all_passed : (cs : List (List Lit)) (size : ℕ) → ArePassed way limit i cs size → ArePassed way limit j cs size
    all_passed cs size h v from below = passed cs v (h v from below)

    refused : (cs : List (List Lit)) (size : ℕ) → IsRefusedAt way limit i cs size → IsRefusedAt way limit j cs size
    refused cs size h = record { in_range = h.in_range; many = h.many; stops = h.stops; least = all_passed cs size h.least }

    least : (cs set : List (List Lit)) → IsLeastCover way limit i cs set → IsLeastCover way limit j cs set
    least cs set h = record { in_range = h.in_range; few = h.few; first = first cs _ set h.first; least = all_passed cs (length set) h.least }

    for_each : (cs : List (List Lit)) (lists : List (List (List Lit))) → AreOneForEach i cs lists → AreOneForEach j cs lists
    for_each _ _ AreOneForEach.done = AreOneForEach.done
    for_each _ _ (AreOneForEach.more c cs tags lists one rest) = AreOneForEach.more c cs tags lists (cov i j same (c ∷ []) tags one) (for_each cs lists rest)

    otherwise : (cs : List (List Lit)) (b : Bool) (lists : List (List (List Lit))) → AreOtherwise i cs b lists → AreOtherwise j cs b lists
    otherwise cs _ _ (AreOtherwise.for_each lists each) = AreOtherwise.for_each lists (for_each cs lists each)
    otherwise cs _ _ (AreOtherwise.by_models tags a) = AreOtherwise.by_models tags (record { atoms = a.atoms; are_atoms = a.are_atoms; are = cov i j same _ tags a.are })

    by : (cs : List (List Lit)) (lists : List (List (List Lit))) → AreMergesBy way limit i cs lists → AreMergesBy way limit j cs lists
    by cs _ (AreMergesBy.empty_tag covered) = AreMergesBy.empty_tag (meet i j same ([] ∷ []) cs covered)
    by cs _ (AreMergesBy.least_cover set tags uncovered h is) = AreMergesBy.least_cover set tags (λ m. uncovered (meet j i (back i j same) ([] ∷ []) cs m)) (least cs set h) (cov i j same set tags is)
    by cs _ (AreMergesBy.otherwise lists uncovered none h) = AreMergesBy.otherwise lists (λ m. uncovered (meet j i (back i j same) ([] ∷ []) cs m)) (all_passed cs (way.greatest + 1) none) (otherwise cs way.by_models lists h)

    module _ (g : Ground) where
      merges_for : (t : Lit) (lists : List (List (List Lit))) → AreMergesFor way limit g i t lists → AreMergesFor way limit g j t lists
      merges_for t lists h = record { clauses = h.clauses; are_clauses = clauses i j same g.actions (length g.atoms) t h.clauses h.are_clauses; by_clauses = by h.clauses lists h.by_clauses }

      pub turns_by : (ts : List Lit) (ms : List FileMerge) → AreMergesInTurn way limit g i ts ms → AreMergesInTurn way limit g j ts ms
      turns_by _ _ AreMergesInTurn.done = AreMergesInTurn.done
      turns_by _ _ (AreMergesInTurn.more t ts lists ms here rest) = AreMergesInTurn.more t ts lists ms (merges_for t lists here) (turns_by ts ms rest)

      target_refused : (t : Lit) (size : ℕ) → IsTargetRefused way limit g i t size → IsTargetRefused way limit g j t size
      target_refused t size h = record {
        clauses = h.clauses;
        are_clauses = clauses i j same g.actions (length g.atoms) t h.clauses h.are_clauses;
        uncovered = λ m. h.uncovered (meet j i (back i j same) ([] ∷ []) h.clauses m);
        refused = refused h.clauses size h.refused;
      }

      pub first_refused_by : (ts : List Lit) (r : Refused) → RefusesFirstTarget way limit g i ts r → RefusesFirstTarget way limit g j ts r
      first_refused_by _ _ (RefusesFirstTarget.here t ts size h) = RefusesFirstTarget.here t ts size (target_refused t size h)
      first_refused_by _ r (RefusesFirstTarget.later t ts lists _ here rest) = RefusesFirstTarget.later t ts lists r (merges_for t lists here) (first_refused_by ts r rest)

pub merges_by : (limit : ℕ) (g : Ground) (i j : Initial) → HaveSameModels i j → (w : Option Way) (ms : List FileMerge) → AreMergesOf limit g i w ms → AreMergesOf limit g j w ms
merges_by limit g i j same _ _ AreMergesOf.none = AreMergesOf.none
merges_by limit g i j same _ ms (AreMergesOf.of_targets way ts _ are turns) = AreMergesOf.of_targets way ts ms are (turns_by i j same way limit g ts ms turns)

pub refused_by : (limit : ℕ) (g : Ground) (i j : Initial) → HaveSameModels i j → (w : Option Way) (r : Refused) → RefusesMode limit g i w r → RefusesMode limit g j w r
refused_by limit g i j same _ r (RefusesMode.of_targets way ts _ are f) = RefusesMode.of_targets way ts r are (first_refused_by i j same way limit g ts r f)
