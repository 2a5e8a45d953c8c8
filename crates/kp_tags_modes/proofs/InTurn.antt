-- Targets one after the other.
use Rattle.std.proofs.Common.{◌≡◌, ◌<◌, ◌≤◌, ◌+◌, ◌++◌, ℕ, zero, suc, List, [], ◌∷◌, Option, Some, Result, Ok, Err, map, take, drop, length, get_or, refl, sym, ap, subst, ◌∙◌, append_assoc, append-nil, inl, inr, arith}
use Rattle.std.specs.Result.{IsErrAnd}
use Rattle.kp_base.specs.declared.lit.Lit.{Lit}
use Rattle.kp_base.specs.declared.ground.Ground.{Ground}
use Rattle.kp_base.specs.declared.ground.Initial.{Initial}
use Rattle.kp_base.specs.declared.limits.Mode.{Mode}
use Rattle.kp_base.specs.declared.refused.Stop.{Stop}
use Rattle.kp_base.specs.declared.refused.Stop.TheVariants as stops
use Rattle.kp_base.specs.declared.refused.Refused.{Refused}
use Rattle.kp_base.specs.declared.refused.Refused.TheVariants as refusals
use Rattle.kp_base.specs.Lists.{Member}
use Rattle.kp_base.specs.Implicates.{IsOfItsAtoms}
use Rattle.kp_base.specs.Relevance.{AreClausesFor}
use Rattle.kp_primes.specs.Held.{Held, formula}
use Rattle.kp_relevance.specs.Relevant.{ArePairsOf}
use Rattle.kp_relevance.specs.Candidates.{AnswersClausesFor}
use Rattle.kp_cover.specs.Targets.{AreTargets}
use Rattle.kp_tags_files.specs.declared.merge.FileMerge.{FileMerge}
use Rattle.kp_tags_modes.specs.declared.way.Way.{Way}
use Rattle.kp_tags_modes.specs.Modes.{way_of, merge_of, AreMergesFor, AreMergesInTurn, AreMergesOf}
use Rattle.kp_tags_modes.specs.Answers.{RefusesFirstTarget, RefusesMode, AnswersMode}
use Rattle.kp_tags_modes.proofs.Behind.{next_is}
use Rattle.kp_cover.proofs.Public.{target_is_below}
use Rattle.kp_tags_modes.specs.Added.{Adds, AddsOrRefuses, AreByRelevance, IsRefusedByRelevance}

pub split_at : {X : Type 0} (xs : List X) (k : ℕ) (x : X) → k < length xs → x ≡ get_or xs k x → xs ≡ take k xs ++ x ∷ drop (k + 1) xs
split_at [] k x lt is = absurd (omega (arith, lt))
split_at (y ∷ ys) zero x lt is = ap (λ z. z ∷ ys) (sym is)
split_at (y ∷ ys) (suc k) x lt is = let e : suc (k + 1) ≡ suc k + 1 = omega arith in ap (λ zs. y ∷ zs) (split_at ys k x (omega (arith, lt)) is) ∙ ap (λ m. (y ∷ take k ys) ++ x ∷ drop m (y ∷ ys)) e

pub at_itself : {X : Type 0} (xs : List X) (k : ℕ) (d : X) → k < length xs → get_or xs k d ≡ get_or xs k (get_or xs k d)
at_itself [] k d lt = absurd (omega (arith, lt))
at_itself (y ∷ ys) zero d lt = refl
at_itself (y ∷ ys) (suc k) d lt = at_itself ys k d (omega (arith, lt))

member_get : {X : Type 0} (xs : List X) (k : ℕ) (d : X) → k < length xs → Member xs (get_or xs k d)
member_get [] k d lt = absurd (omega (arith, lt))
member_get (y ∷ ys) zero d lt = inl refl
member_get (y ∷ ys) (suc k) d lt = inr (member_get ys k d (omega (arith, lt)))

take_all : {X : Type 0} (xs : List X) (k : ℕ) → length xs ≤ k → take k xs ≡ xs
take_all [] zero le = refl
take_all [] (suc k) le = refl
take_all (x ∷ xs) zero le = absurd (omega (arith, le))
take_all (x ∷ xs) (suc k) le = ap (λ z. x ∷ z) (take_all xs k (omega (arith, le)))

-- the target at a place is of the atoms
pub place_below : (g : Ground) (all ts : List Lit) (k n : ℕ) (d : Lit) → IsOfItsAtoms g → AreTargets g all → ts ≡ all → length g.atoms ≡ n → k < length ts → (get_or ts k d).atom.0 < n
place_below g all ts k n d of are same atoms lt =
    let m = subst (λ (us : List Lit). Member us (get_or ts k d)) same (member_get ts k d lt) in
    subst (λ (m : ℕ). (get_or ts k d).atom.0 < m) atoms (target_is_below g of (get_or ts k d) ((are.exact (get_or ts k d)).0 m))

module _ (way : Way) (limit : ℕ) (g : Ground) (i : Initial) where
  one-more : (ts : List Lit) (ms : List FileMerge) (t : Lit) (lists : List (List (List Lit))) → AreMergesInTurn way limit g i ts ms → AreMergesFor way limit g i t lists → AreMergesInTurn way limit g i (ts ++ t ∷ []) (ms ++ map (merge_of t) lists)
  one-more _ _ t lists AreMergesInTurn.done h = subst (AreMergesInTurn way limit g i (t ∷ [])) (append-nil (map (merge_of t) lists)) (AreMergesInTurn.more t [] lists [] h AreMergesInTurn.done)
  one-more _ _ t lists (AreMergesInTurn.more u ts first ms here others) h =
      subst (AreMergesInTurn way limit g i (u ∷ ts ++ t ∷ [])) (sym (append_assoc (map (merge_of u) first) ms (map (merge_of t) lists)))
      (AreMergesInTurn.more u (ts ++ t ∷ []) first (ms ++ map (merge_of t) lists) here (one-more ts ms t lists others h))

  behind : (ts : List Lit) (ms : List FileMerge) (rest : List Lit) (r : Refused) → AreMergesInTurn way limit g i ts ms → RefusesFirstTarget way limit g i rest r → RefusesFirstTarget way limit g i (ts ++ rest) r
  behind _ _ rest r AreMergesInTurn.done h = h
  behind _ _ rest r (AreMergesInTurn.more u ts first ms here others) h = RefusesFirstTarget.later u (ts ++ rest) first r here (behind ts ms rest r others h)

module _ (way : Way) (limit : ℕ) (g : Ground) (pairs : List (Lit × Lit)) (h : Held) (of_ground : ArePairsOf g pairs) (atoms : length g.atoms ≡ h.atoms) where
  clauses-are : (t : Lit) (cs : List (List Lit)) → AnswersClausesFor pairs h t cs → AreClausesFor g.actions (length g.atoms) (formula h) t cs
  clauses-are t cs f = subst (λ (n : ℕ). AreClausesFor g.actions n (formula h) t cs) (sym atoms) (f g of_ground atoms)

  merges-for : (t : Lit) (lists : List (List (List Lit))) → AreByRelevance way limit pairs h t lists → AreMergesFor way limit g (formula h) t lists
  merges-for t lists a = record { clauses = a.clauses; are_clauses = clauses-are t a.clauses a.are_clauses; by_clauses = a.by_clauses }

  -- the merges of one target more
  pub next_turn : (ts : List Lit) (k : ℕ) (t : Lit) (ms new : List FileMerge) → k < length ts → t ≡ get_or ts k t → AreMergesInTurn way limit g (formula h) (take k ts) ms → Adds t (AreByRelevance way limit pairs h t) ms new → AreMergesInTurn way limit g (formula h) (take (k + 1) ts) new
  next_turn ts k t ms new lt is before a =
      subst (λ (us : List Lit). AreMergesInTurn way limit g (formula h) us new) (sym (next_is ts k t lt is))
      (subst (AreMergesInTurn way limit g (formula h) (take k ts ++ t ∷ [])) (sym a.added) (one-more way limit g (formula h) (take k ts) ms t a.lists before (merges-for t a.lists a.right)))

  -- a target is refused, behind those before it
  pub refused_turn : (ts : List Lit) (k : ℕ) (t : Lit) (ms : List FileMerge) (r : Refused) → k < length ts → t ≡ get_or ts k t → AreMergesInTurn way limit g (formula h) (take k ts) ms
      → ((size : ℕ) × (r ≡ refusals.SetsOver t size) × IsRefusedByRelevance way limit pairs h t size) → RefusesFirstTarget way limit g (formula h) ts r
  refused_turn ts k t ms r lt is before q =
      subst (λ (us : List Lit). RefusesFirstTarget way limit g (formula h) us r) (sym (split_at ts k t lt is))
      (behind way limit g (formula h) (take k ts) ms (t ∷ drop (k + 1) ts) r before
      (subst (RefusesFirstTarget way limit g (formula h) (t ∷ drop (k + 1) ts)) (sym q.1) (RefusesFirstTarget.here t (drop (k + 1) ts) q.0 (record {
        clauses = q.2.clauses;
        are_clauses = clauses-are t q.2.clauses q.2.are_clauses;
        uncovered = q.2.refused.uncovered;
        refused = q.2.refused.refused;
      }))))

  -- what ends the turns
  pub ended : (mode : Mode) (ts : List Lit) (k : ℕ) (t : Lit) (ms new : List FileMerge) (stop : Stop) → way_of mode ≡ Some way → AreTargets g ts → k < length ts → t ≡ get_or ts k t → AreMergesInTurn way limit g (formula h) (take k ts) ms
      → AddsOrRefuses t (AreByRelevance way limit pairs h t) (IsRefusedByRelevance way limit pairs h t) ms new (Err stop) → AnswersMode mode limit g (formula h) (Err stop)
  ended mode ts k t ms new (stops.Refused r) is are lt at before q = subst (λ (w : Option Way). RefusesMode limit g (formula h) w r) (sym is) (RefusesMode.of_targets way ts r are (refused_turn ts k t ms r lt at before q))
  ended mode ts k t ms new stops.Memory is are lt at before q = tt

  pub ended_so : (mode : Mode) (all ts : List Lit) (k : ℕ) (t : Lit) (ms new : List FileMerge) (stop : Stop) (r : Result (List FileMerge) Stop) → way_of mode ≡ Some way → AreTargets g all → ts ≡ all → k < length ts → t ≡ get_or ts k t → AreMergesInTurn way limit g (formula h) (take k ts) ms
      → AddsOrRefuses t (AreByRelevance way limit pairs h t) (IsRefusedByRelevance way limit pairs h t) ms new (Err stop) → IsErrAnd r (λ e. e ≡ stop) → AnswersMode mode limit g (formula h) r
  ended_so mode all ts k t ms new stop (Ok x) is are same lt at before q e = absurd e
  ended_so mode all ts k t ms new stop (Err s) is are same lt at before q e =
      subst (λ (x : Stop). AnswersMode mode limit g (formula h) (Err x)) (sym e) (ended mode ts k t ms new stop is (subst (AreTargets g) (sym same) are) lt at before q)

  pub all_turns : (mode : Mode) (ts : List Lit) (ms : List FileMerge) → way_of mode ≡ Some way → AreTargets g ts → AreMergesInTurn way limit g (formula h) ts ms → AreMergesOf limit g (formula h) (way_of mode) ms
  all_turns mode ts ms is are turns = subst (λ (w : Option Way). AreMergesOf limit g (formula h) w ms) (sym is) (AreMergesOf.of_targets way ts ms are turns)

  pub done_turns : (mode : Mode) (all ts : List Lit) (k : ℕ) (ms : List FileMerge) → way_of mode ≡ Some way → AreTargets g all → ts ≡ all → length ts ≤ k → AreMergesInTurn way limit g (formula h) (take k ts) ms → AreMergesOf limit g (formula h) (way_of mode) ms
  done_turns mode all ts k ms is are same le turns = all_turns mode all ms is are (subst (λ (us : List Lit). AreMergesInTurn way limit g (formula h) us ms) (take_all ts k le ∙ same) turns)
