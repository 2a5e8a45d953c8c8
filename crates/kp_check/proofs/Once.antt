-- Steps that fail somewhere don't succeed, and they fail in one place.
use Rattle.std.proofs.Common.{◌≡◌, ◌<◌, ◌≤◌, ℕ, zero, suc, Bool, true, false, ◌&&◌, List, [], ◌∷◌, length, take, Option, Some, None, slice_get, refl, sym, ap, subst, ◌∙◌, inl, inr, arith}
use Rattle.std.proofs.lemmas.Bool.{and_parts, false≢true, cases_lt, and_right}
use Rattle.std.specs.List.{list_all}
use Rattle.kp_base.specs.declared.lit.Lit.{Lit}
use Rattle.kp_base.specs.declared.ground.Action.{Action}
use Rattle.kp_base.specs.declared.ground.Ground.{Ground}
use Rattle.kp_base.specs.Steps.{State, holds, IsLeastMissing, applicable, next, runs, succeeds, state_after, pre_of, asked}
use Rattle.kp_base.proofs.Least.{not_all_facts, least_once}
use Rattle.kp_base.proofs.Lists.{all_member}
use Rattle.kp_check.specs.Failing.{FailAt, IsFailing, IsFailingOnce}

cannot : (o : Option Action) (s : State) (l : Lit) (b : Bool) → IsLeastMissing (holds s) (pre_of o) l → (applicable o s && b) ≡ false
cannot None s l b f = refl
cannot (Some a) s l b f = ap (λ x. x && b) (not_all_facts (holds s) a.pre l f)

pub fail_no : (g : Ground) (ns : List ℕ) (s : State) (k : ℕ) (l : Lit) → IsLeastMissing (holds (state_after g s (take k ns))) (asked g (slice_get ns k)) l → succeeds g s ns ≡ false
fail_no g [] s zero l f = not_all_facts (holds s) g.goal l f
fail_no g [] s (suc k) l f = not_all_facts (holds s) g.goal l f
fail_no g (n ∷ ns) s zero l f = cannot (slice_get g.actions n) s l (succeeds g (next (slice_get g.actions n) s) ns) f
fail_no g (n ∷ ns) s (suc k) l f = and_right (applicable (slice_get g.actions n) s) (succeeds g (next (slice_get g.actions n) s) ns) (fail_no g ns (next (slice_get g.actions n) s) k l f)

pub failing : IsFailing
failing g s ns k l at = fail_no g ns s k l at.fails

-- ---- one place

met : (o : Option Action) (s : State) → applicable o s ≡ true → list_all (holds s) (pre_of o) ≡ true
met None s h = absurd (false≢true h)
met (Some a) s h = h

-- a step before those that were reached is applicable
reached_met : (g : Ground) (ns : List ℕ) (s : State) (k j : ℕ) → k < j → j ≤ length ns → runs g s (take j ns) ≡ true → list_all (holds (state_after g s (take k ns))) (asked g (slice_get ns k)) ≡ true
reached_met g ns s k zero lt le h = absurd (omega (arith, lt))
reached_met g [] s k (suc j) lt le h = absurd (omega (arith, le))
reached_met g (n ∷ ns) s zero (suc j) lt le h = met (slice_get g.actions n) s (and_parts (applicable (slice_get g.actions n) s) (runs g (next (slice_get g.actions n) s) (take j ns)) h).0
reached_met g (n ∷ ns) s (suc k) (suc j) lt le h = reached_met g ns (next (slice_get g.actions n) s) k j (omega arith) (omega arith) (and_parts (applicable (slice_get g.actions n) s) (runs g (next (slice_get g.actions n) s) (take j ns)) h).1

not_before : (g : Ground) (s : State) (ns : List ℕ) (k j : ℕ) (l m : Lit) → FailAt g s ns k l → FailAt g s ns j m → k < j → ⊥
not_before g s ns k j l m a b lt = false≢true (sym a.fails.missing ∙ all_member (holds (state_after g s (take k ns))) (asked g (slice_get ns k)) l a.fails.among (reached_met g ns s k j lt b.in_range b.reached))

pub failing_once : IsFailingOnce
failing_once g s ns k j l m a b =
    let same : k ≡ j = elim (cases_lt k j) [
      | inl lt ↦ absurd (not_before g s ns k j l m a b lt)
      | inr ge ↦ elim (cases_lt j k) [
        | inl lt ↦ absurd (not_before g s ns j k m l b a lt)
        | inr le ↦ omega arith
      ]
    ] in
    (same, least_once (holds (state_after g s (take j ns))) (asked g (slice_get ns j)) l m (subst (λ i. IsLeastMissing (holds (state_after g s (take i ns))) (asked g (slice_get ns i)) l) same a.fails) b.fails)
