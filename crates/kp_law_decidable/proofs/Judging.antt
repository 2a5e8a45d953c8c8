-- Steps are a plan, or fail first from some model, and somewhere.
use Rattle.std.proofs.Common.{◌≡◌, ℕ, suc, Bool, true, false, not, ◌&&◌, ◌||◌, nat_lt, List, [], ◌∷◌, Option, Some, None, length, take, slice_get, refl, sym, ap, ap₂, subst, ◌∙◌, arith, ltb-true}
use Rattle.std.proofs.lemmas.Bool.{and_parts, and_from, not-true}
use Rattle.std.specs.List.{list_all}
use Rattle.kp_base.specs.declared.lit.Lit.{Lit}
use Rattle.kp_base.specs.declared.lit.AtomId.{AtomId}
use Rattle.kp_base.specs.declared.ground.Effect.{Effect}
use Rattle.kp_base.specs.declared.ground.Action.{Action}
use Rattle.kp_base.specs.declared.ground.Ground.{Ground}
use Rattle.kp_base.specs.declared.ground.Initial.{Initial}
use Rattle.kp_base.specs.Lit.{positive, negative, same_lit}
use Rattle.kp_base.specs.Steps.{State, SameBelow, holds, IsLeastMissing, is_model, fires, after, applicable, next, runs, succeeds, state_after, pre_of, asked}
use Rattle.kp_base.specs.Implicates.{are_below, effect_below, IsOfAtoms}
use Rattle.kp_base.proofs.Lists.{any_alike, all_member}
use Rattle.kp_base.proofs.Least.{least_missing}
use Rattle.kp_base.proofs.Places.{none_past}
use Rattle.kp_primes_first_model.specs.Asked.{is_wanted}
use Rattle.kp_primes_first_model.specs.Ordered.{state_of_atoms, AreFirst, AnswersFirst}
use Rattle.kp_primes_first_model.proofs.Public.{literals_read_first_atoms, models_read_first_atoms}
use Rattle.kp_check.specs.declared.answer.Judged.{Judged}
use Rattle.kp_check.specs.declared.answer.Judged.TheVariants.{Yes, No}
use Rattle.kp_check.specs.Failing.{FailAt}
use Rattle.kp_check.specs.Judging.{fails, IsVerdict}
use Rattle.kp_check.proofs.Public.{IsGroundOf, is_ground_of, action_is_of_first_atoms, failing_from_none_is_plan}
use Rattle.kp_law_decidable.specs.Laws.{VerdictsAreDecided}
use Rattle.kp_law_decidable.proofs.Firsts.{ReadsFirst, first_or_none}

-- ---- runs read the atoms of the ground problem alone

module _ (n : ℕ) (s t : State) (same : SameBelow n s t) where
  fires_same : (es : List Effect) → list_all (effect_below n) es ≡ true → (l : Lit) → fires es (holds s) l ≡ fires es (holds t) l
  fires_same es below l =
      any_alike (λ e. same_lit e.result l && list_all (holds s) e.cond) (λ e. same_lit e.result l && list_all (holds t) e.cond) es
      (λ e m. ap (λ b. same_lit e.result l && b) (literals_read_first_atoms n s t same e.cond (and_parts (nat_lt e.result.atom.0 n) (are_below n e.cond) (all_member (effect_below n) es e m below)).1))

  after_same : (a : Action) → list_all (effect_below n) a.effects ≡ true → SameBelow n (after a s) (after a t)
  after_same a below p lt =
      ap₂ (λ x y. x || y) (fires_same a.effects below (positive p))
      (ap₂ (λ x y. x && y) (same p lt) (ap not (fires_same a.effects below (negative p))))

run_same : (n : ℕ) (g : Ground) → IsGroundOf n g → (ns : List ℕ) (s t : State) → SameBelow n s t → succeeds g s ns ≡ succeeds g t ns
run_same n g of [] s t same = literals_read_first_atoms n s t same g.goal of.goal
run_same n g of (m ∷ ns) s t same = go (slice_get g.actions m) refl (λ u v h. run_same n g of ns u v h)
  where
    go : (o : Option Action) → slice_get g.actions m ≡ o → ((u v : State) → SameBelow n u v → succeeds g u ns ≡ succeeds g v ns) → (applicable o s && succeeds g (next o s) ns) ≡ (applicable o t && succeeds g (next o t) ns)
    go None is rest = refl
    go (Some a) is rest =
        let parts = action_is_of_first_atoms n g of m a is in
        ap₂ (λ x y. x && y) (literals_read_first_atoms n s t same a.pre parts.0) (rest (after a s) (after a t) (after_same n s t same a parts.1))

reads_fails : (n : ℕ) (g : Ground) (i : Initial) (ns : List ℕ) → IsOfAtoms n i → IsGroundOf n g → ReadsFirst n (is_wanted i (fails g ns))
reads_fails n g i ns over of = record { alike = λ s t same. ap₂ (λ x y. x && y) (models_read_first_atoms n s t same i over) (ap not (run_same n g of ns s t same)) }

-- ---- where steps fail

record Failure (g : Ground) (s : State) (ns : List ℕ) : Type 0 where
  step : ℕ
  literal : Lit
  at : FailAt g s ns step literal

fails_now : (g : Ground) (s : State) (ns : List ℕ) → ((l : Lit) × IsLeastMissing (holds s) (asked g (slice_get ns 0)) l) → Failure g s ns
fails_now g s ns l = record { step = 0; literal = l.0; at = record { in_range = omega arith; reached = refl; fails = here ns l.1 } }
  where
    here : (xs : List ℕ) → IsLeastMissing (holds s) (asked g (slice_get xs 0)) l.0 → IsLeastMissing (holds (state_after g s (take 0 xs))) (asked g (slice_get xs 0)) l.0
    here [] f = f
    here (x ∷ xs) f = f

fails_later : (g : Ground) (s : State) (m : ℕ) (ns : List ℕ) → applicable (slice_get g.actions m) s ≡ true → Failure g (next (slice_get g.actions m) s) ns → Failure g s (m ∷ ns)
fails_later g s m ns can f = record {
  step = suc f.step;
  literal = f.literal;
  at = record {
    in_range = let h = f.at.in_range in omega (arith, h);
    reached = and_from (applicable (slice_get g.actions m) s) (runs g (next (slice_get g.actions m) s) (take f.step ns)) can f.at.reached;
    fails = f.at.fails;
  };
}

failure : (g : Ground) (ns : List ℕ) (s : State) → list_all (λ m. nat_lt m (length g.actions)) ns ≡ true → succeeds g s ns ≡ false → Failure g s ns
failure g [] s inside off = fails_now g s [] (least_missing (holds s) g.goal off)
failure g (m ∷ ns) s inside off = go (slice_get g.actions m) refl (λ t e. failure g ns t parts.1 e)
  where
    parts : (nat_lt m (length g.actions) ≡ true) × (list_all (λ m. nat_lt m (length g.actions)) ns ≡ true)
    parts = and_parts (nat_lt m (length g.actions)) (list_all (λ m. nat_lt m (length g.actions)) ns) inside

    off_later : applicable (slice_get g.actions m) s ≡ true → succeeds g (next (slice_get g.actions m) s) ns ≡ false
    off_later can = sym (ap (λ b. b && succeeds g (next (slice_get g.actions m) s) ns) can) ∙ off

    by : (a : Action) → slice_get g.actions m ≡ Some a → (b : Bool) → list_all (holds s) a.pre ≡ b → ((t : State) → succeeds g t ns ≡ false → Failure g t ns) → Failure g s (m ∷ ns)
    by a is false some rest = fails_now g s (m ∷ ns) (subst (λ o. (l : Lit) × IsLeastMissing (holds s) (pre_of o) l) (sym is) (least_missing (holds s) a.pre some))
    by a is true all rest =
        let can : applicable (slice_get g.actions m) s ≡ true = subst (λ o. applicable o s ≡ true) (sym is) all in
        fails_later g s m ns can (rest (next (slice_get g.actions m) s) (off_later can))

    go : (o : Option Action) → slice_get g.actions m ≡ o → ((t : State) → succeeds g t ns ≡ false → Failure g t ns) → Failure g s (m ∷ ns)
    go None is rest = absurd (none_past g.actions m (ltb-true m (length g.actions) parts.0) is)
    go (Some a) is rest = by a is (list_all (holds s) a.pre) refl rest

-- ---- the verdict

pub verdicts_decided : VerdictsAreDecided
verdicts_decided n g i ns over number of inside = go (first_or_none n (is_wanted i (fails g ns)) (reads_fails n g i ns over (is_ground_of n g number of)))
  where
    told : (ps : List AtomId) → AreFirst n (is_wanted i (fails g ns)) ps → Failure g (state_of_atoms ps) ns → (j : Judged) × IsVerdict n g i ns j
    told ps first f = (No ps f.step f.literal, (first, f.at))

    go : ((o : Option (List AtomId)) × AnswersFirst n (is_wanted i (fails g ns)) o) → (j : Judged) × IsVerdict n g i ns j
    go (None, none) = (Yes, failing_from_none_is_plan g i ns none)
    go (Some ps, first) = told ps first (failure g ns (state_of_atoms ps) inside (not-true (succeeds g (state_of_atoms ps) ns) (and_parts (is_model i (state_of_atoms ps)) (fails g ns (state_of_atoms ps)) first.0.passed).1))
