-- What is asked of the marks, and what is known at the start.
use Rattle.std.proofs.Common.{◌≡◌, ℕ, zero, suc, Bool, true, false, ◌&&◌, nat_lt, List, [], ◌∷◌, take, map, Some, slice_get, refl, sym, ap, subst, ◌∙◌, ltb-true}
use Rattle.kp_base.specs.declared.lit.Lit.{Lit}
use Rattle.kp_base.specs.declared.ground.Ground.{Ground}
use Rattle.kp_base.specs.declared.ground.Initial.{Initial}
use Rattle.kp_base.specs.Entailed.{IsClosure}
use Rattle.kp_base.specs.Steps.{State, holds, is_model, next, state_after}
use Rattle.kp_base.proofs.Lists.{all_member, all_from, any_map, member_at}
use Rattle.kp_base.proofs.Lits.{has-member}
use Rattle.kp_primes_first_model.specs.declared.truth.Truth.{Truth}
use Rattle.kp_primes_first_model.specs.Asked.{Judges, is_wanted, passes_one, test_at}
use Rattle.kp_primes_first_model.specs.Truths.{IsTruth, opposite}
use Rattle.kp_primes_first_model.proofs.Public.{truth_of_not}
use Rattle.kp_check.specs.declared.failing.At.{At}
use Rattle.kp_check.specs.Judging.{fails}
use Rattle.kp_check.specs.Values.{truth_at, next_values, start}
use Rattle.kp_check.specs.Marks.{later_values, is_false_at, IsReady, AreInEach, AreMarks}
use Rattle.kp_check.proofs.Fitting.{Fits, start_fits, truth_at_is}
use Rattle.kp_check.proofs.Grounded.{IsGroundOf, ground_of, next_fits}

later_fits : (n : ℕ) (known : List Lit) (g : Ground) → IsGroundOf n g → (ns : List ℕ) (k : ℕ) (vs : List Truth) (s : State) → Fits n known vs s → Fits n known (later_values g vs ns k) (state_after g s (take k ns))
later_fits n known g of [] zero vs s f = f
later_fits n known g of [] (suc k) vs s f = f
later_fits n known g of (m ∷ ns) zero vs s f = f
later_fits n known g of (m ∷ ns) (suc k) vs s f = later_fits n known g of ns k (next_values (slice_get g.actions m) vs) (next (slice_get g.actions m) s) (next_fits n known g of vs s f m)

at_number : {X : Type 0} (f : X → State → Bool) (xs : List X) (k : ℕ) (x : X) → slice_get xs k ≡ Some x → (s : State) → test_at (map f xs) k s ≡ f x s
at_number f [] k x is s = cc
at_number f (y ∷ xs) zero x is s = let same : y ≡ x = cc in ap (λ z. f z s) same
at_number f (y ∷ xs) (suc k) x is s = at_number f xs k x is s

pub judged : (n : ℕ) (known : List Lit) (g : Ground) (ns : List ℕ) (ms : List At) → IsReady n g ms → (k : ℕ) (m : At) → slice_get ms k ≡ Some m → Judges n (test_at (map (is_false_at g ns) ms) k) known (opposite (truth_at (later_values g (start known n) ns m.step) m.literal))
judged n known g ns ms ready k m is s met =
    let of = ground_of n g ready.atoms ready.ground in
    let lt = ltb-true m.literal.atom.0 n (all_member (λ m. nat_lt m.literal.atom.0 n) ms m (member_at ms k m is) ready.marks) in
    let t = truth_at (later_values g (start known n) ns m.step) m.literal in
    subst (λ b. IsTruth n known b (opposite t)) (sym (at_number (is_false_at g ns) ms k m is s))
    (truth_of_not n known (holds (state_after g s (take m.step ns)) m.literal) t
    (truth_at_is n known (later_values g (start known n) ns m.step) (state_after g s (take m.step ns)) (later_fits n known g of ns m.step (start known n) s (start_fits n known s met)) m.literal lt))

-- the models that pass one of the tests are those from which the steps fail
pub asks_failing : (n : ℕ) (g : Ground) (i : Initial) (ns : List ℕ) (ms : List At) → AreMarks n g i ns ms → (s : State) → is_wanted i (passes_one (map (is_false_at g ns) ms)) s ≡ is_wanted i (fails g ns) s
asks_failing n g i ns ms are s = pick (is_model i s) refl
  where
    pick : (b : Bool) → is_model i s ≡ b → (b && passes_one (map (is_false_at g ns) ms) s) ≡ (b && fails g ns s)
    pick false h = refl
    pick true h = any_map (is_false_at g ns) (λ test. test s) (λ m. is_false_at g ns m s) ms (λ m. refl) ∙ are.exact s h

-- a closure of no literals is true in each model
pub closed_in_each : (n : ℕ) (i : Initial) (ls : List Lit) → IsClosure n i [] ls → AreInEach i ls
closed_in_each n i ls closed s m = all_from (holds s) ls (λ l k. closed.entailed l (has-member ls l k) s m refl)

-- after no step the values are the first
pub none_later : (g : Ground) (vs : List Truth) (ns : List ℕ) → later_values g vs ns 0 ≡ vs
none_later g vs [] = refl
none_later g vs (m ∷ ns) = refl
