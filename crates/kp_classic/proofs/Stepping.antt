-- Steps and runs from tests that agree on the facts of a task.
use Rattle.std.proofs.Common.{◌≡◌, ◌<◌, ◌&&◌, ◌||◌, ℕ, Bool, true, false, not, List, [], ◌∷◌, Option, Some, None, length, nat_eq, nat_lt, slice_get, IsTrue, refl, sym, ap, ap₂, subst, ◌∙◌}
use Rattle.std.specs.Bool.{beq, then_some}
use Rattle.std.specs.List.{list_all}
use Rattle.std.proofs.lemmas.Bool.{and_parts, ltb-true}
use Rattle.kp_base.specs.Lists.{Member}
use Rattle.kp_base.proofs.Lists.{all_member, all_alike, any_alike}
use Rattle.kp_classic.specs.declared.task.Conds.{Conds}
use Rattle.kp_classic.specs.declared.task.OpEffect.{OpEffect}
use Rattle.kp_classic.specs.declared.task.Op.{Op}
use Rattle.kp_classic.specs.declared.task.Task.{Task}
use Rattle.kp_classic.specs.Fits.{are_below, fits, fits_effect, IsFit}
use Rattle.kp_classic.specs.States.{FactSet, has, fact_set_of}
use Rattle.kp_classic.specs.Runs.{state_at_end}
use Rattle.kp_classic.specs.Steps.{Holding, meets, fires, after, applicable, next, start, runs, holding_after, succeeds}
use Rattle.kp_classic.proofs.Fitting.{OpFits, op_fits}
use Rattle.kp_classic.proofs.States.{is_state, has_those, those_alike}

-- a state in which the facts hold that hold after a step
pub stepped : (t : Task) (k : ℕ) (o : Op) (s : Holding) (new : FactSet) → slice_get t.ops k ≡ Some o → new ≡ fact_set_of new.facts (has new.hold) → new.facts ≡ length t.facts → ((f : ℕ) → f < length t.facts → has new.hold f ≡ (fires o.effects s true f || (s f && not (fires o.effects s false f)))) → new ≡ fact_set_of (length t.facts) (next (slice_get t.ops k) s)
stepped t k o s new at ascends len each = is_state new (length t.facts) (after o s) ascends len each ∙ ap (λ x. fact_set_of (length t.facts) (next x s)) (sym at)

-- two tests agree on the first n facts
pub record Agree (n : ℕ) (p q : Holding) : Type 0 where
  pub each : (f : ℕ) → f < n → p f ≡ q f

pub agree_those : (n : ℕ) (p : Holding) → Agree n (has (fact_set_of n p).hold) p
agree_those n p = record { each = has_those n p }

pub agree_trans : (n : ℕ) (p q r : Holding) → Agree n p q → Agree n q r → Agree n p r
agree_trans n p q r a b = record { each = λ f lt. a.each f lt ∙ b.each f lt }

module _ (n : ℕ) (p q : Holding) (same : Agree n p q) where
  below : (fs : List ℕ) → are_below n fs ≡ true → (f : ℕ) → Member fs f → p f ≡ q f
  below fs h f m = same.each f (ltb-true f n (all_member (λ x. nat_lt x n) fs f m h))

  pub meets_alike : (c : Conds) → fits n c ≡ true → meets c p ≡ meets c q
  meets_alike c h =
      let both = and_parts (are_below n c.yes) (are_below n c.no) h in
      ap₂ (λ a b. a && b) (all_alike p q c.yes (below c.yes both.0)) (all_alike (λ f. not (p f)) (λ f. not (q f)) c.no (λ f m. ap not (below c.no both.1 f m)))

  pub fires_alike : (es : List OpEffect) → list_all (fits_effect n) es ≡ true → (adds : Bool) (f : ℕ) → fires es p adds f ≡ fires es q adds f
  fires_alike es h adds f =
      any_alike (λ (e : OpEffect). beq adds e.adds && (nat_eq f e.fact && meets e.cond p)) (λ (e : OpEffect). beq adds e.adds && (nat_eq f e.fact && meets e.cond q)) es (λ e m.
      let fit = and_parts (nat_lt e.fact n) (fits n e.cond) (all_member (fits_effect n) es e m h) in
      ap (λ b. beq adds e.adds && (nat_eq f e.fact && b)) (meets_alike e.cond fit.1))

  pub after_alike : (o : Op) → OpFits n o → Agree n (after o p) (after o q)
  after_alike o h = record {
    each = λ f lt. ap₂ (λ a b. a || b) (fires_alike o.effects h.effects true f) (ap₂ (λ a b. a && not b) (same.each f lt) (fires_alike o.effects h.effects false f));
  }

-- the operators of a task that fits do the same from both
module _ (t : Task) (fit : IsFit t) where
  pub applicable_alike : (k : ℕ) (p q : Holding) → Agree (length t.facts) p q → applicable (slice_get t.ops k) p ≡ applicable (slice_get t.ops k) q
  applicable_alike k p q same = go (slice_get t.ops k) refl
    where
      go : (o : Option Op) → slice_get t.ops k ≡ o → applicable o p ≡ applicable o q
      go None e = refl
      go (Some o) e = meets_alike (length t.facts) p q same o.pre (op_fits t k (length t.facts) o fit refl e).pre

  pub next_alike : (k : ℕ) (p q : Holding) → Agree (length t.facts) p q → Agree (length t.facts) (next (slice_get t.ops k) p) (next (slice_get t.ops k) q)
  next_alike k p q same = go (slice_get t.ops k) refl
    where
      go : (o : Option Op) → slice_get t.ops k ≡ o → Agree (length t.facts) (next o p) (next o q)
      go None e = same
      go (Some o) e = after_alike (length t.facts) p q same o (op_fits t k (length t.facts) o fit refl e)

  pub succeeds_alike : (ks : List ℕ) (p q : Holding) → Agree (length t.facts) p q → succeeds t p ks ≡ succeeds t q ks
  succeeds_alike [] p q same = meets_alike (length t.facts) p q same t.goal fit.goal
  succeeds_alike (k ∷ ks) p q same = ap₂ (λ a b. a && b) (applicable_alike k p q same) (succeeds_alike ks (next (slice_get t.ops k) p) (next (slice_get t.ops k) q) (next_alike k p q same))

  pub runs_alike : (ks : List ℕ) (p q : Holding) → Agree (length t.facts) p q → runs t p ks ≡ runs t q ks
  runs_alike [] p q same = refl
  runs_alike (k ∷ ks) p q same = ap₂ (λ a b. a && b) (applicable_alike k p q same) (runs_alike ks (next (slice_get t.ops k) p) (next (slice_get t.ops k) q) (next_alike k p q same))

  pub holding_alike : (ks : List ℕ) (p q : Holding) → Agree (length t.facts) p q → Agree (length t.facts) (holding_after t p ks) (holding_after t q ks)
  holding_alike [] p q same = same
  holding_alike (k ∷ ks) p q same = holding_alike ks (next (slice_get t.ops k) p) (next (slice_get t.ops k) q) (next_alike k p q same)

-- the rest of some operators from what holds in between, and all of them from what held at first, lead to the same
pub record Rests (t : Task) (rest : List ℕ) (s : Holding) (all : List ℕ) (first : Holding) : Type 0 where
  pub runs : runs t s rest ≡ runs t first all
  pub ends : Agree (length t.facts) (holding_after t s rest) (holding_after t first all)

-- one operator more was taken
pub rests_more : (t : Task) → IsFit t → (k : ℕ) (ks all : List ℕ) (s first : Holding) (new : FactSet) → new ≡ fact_set_of (length t.facts) (next (slice_get t.ops k) s) → applicable (slice_get t.ops k) s ≡ true → Rests t (k ∷ ks) s all first → Rests t ks (has new.hold) all first
rests_more t fit k ks all s first new is may r =
    let step = next (slice_get t.ops k) s in
    let agree = subst (λ (x : FactSet). Agree (length t.facts) (has x.hold) step) (sym is) (agree_those (length t.facts) step) in
    record {
      runs = runs_alike t fit ks (has new.hold) step agree ∙ (sym (ap (λ b. b && runs t step ks) may) ∙ r.runs);
      ends = agree_trans (length t.facts) _ _ _ (holding_alike t fit ks (has new.hold) step agree) r.ends;
    }

-- where operators lead from the state at the start
pub outcome_is : (t : Task) → IsFit t → (ks : List ℕ) (s end : FactSet) (b : Bool) → s ≡ fact_set_of (length t.facts) (start t) → b ≡ runs t (has s.hold) ks → (IsTrue b → end ≡ fact_set_of (length t.facts) (holding_after t (has s.hold) ks)) → then_some b end ≡ state_at_end t ks
outcome_is t fit ks s end b is ran ends = go b (ran ∙ runs_alike t fit ks (has s.hold) (start t) agree) ends
  where
    agree : Agree (length t.facts) (has s.hold) (start t)
    agree = subst (λ (x : FactSet). Agree (length t.facts) (has x.hold) (start t)) (sym is) (agree_those (length t.facts) (start t))

    at_end : fact_set_of (length t.facts) (holding_after t (has s.hold) ks) ≡ fact_set_of (length t.facts) (holding_after t (start t) ks)
    at_end = ap (λ (fs : List ℕ). record { facts = length t.facts; hold = fs }) (those_alike (length t.facts) _ _ (holding_alike t fit ks (has s.hold) (start t) agree).each)

    go : (b : Bool) → b ≡ runs t (start t) ks → (IsTrue b → end ≡ fact_set_of (length t.facts) (holding_after t (has s.hold) ks)) → then_some b end ≡ state_at_end t ks
    go true e f = rw (← e) (ap Some (f refl ∙ at_end))
    go false e f = rw (← e) refl

pub success_is_a_run : (t : Task) (s : Holding) (ns : List ℕ) → succeeds t s ns ≡ (runs t s ns && meets t.goal (holding_after t s ns))
success_is_a_run t s [] = refl
success_is_a_run t s (n ∷ ns) = ap (λ b. applicable (slice_get t.ops n) s && b) (success_is_a_run t (next (slice_get t.ops n) s) ns) ∙ regroup (applicable (slice_get t.ops n) s) _ _
  where
    regroup : (a b c : Bool) → (a && (b && c)) ≡ ((a && b) && c)
    regroup true b c = refl
    regroup false b c = refl
