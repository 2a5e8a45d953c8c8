-- Within each implicate there is a prime one.
use Rattle.std.proofs.Common.{◌≡◌, ◌<◌, ◌≤◌, ℕ, zero, suc, Bool, true, false, ◌&&◌, cond, List, [], ◌∷◌, length, filter, sym, ◌∙◌, arith}
use Rattle.std.proofs.lemmas.Bool.{false≢true, false_from_ne_true, true_from_ne_false}
use Rattle.std.specs.List.{list_all}
use Rattle.kp_base.specs.declared.lit.Lit.{Lit}
use Rattle.kp_base.specs.declared.ground.Initial.{Initial}
use Rattle.kp_base.specs.Planning.{Member, negated, same_lit, set_of, holds, is_tautology, IsImplicate, IsPrime}
use Rattle.kp_base.specs.Lit.{has}
use Rattle.kp_base.specs.LitSet.{is_within}
use Rattle.kp_base.proofs.Lists.{all_member, any_member, any_from, member_filter, filter_member}
use Rattle.kp_base.proofs.Lits.{has-member, member-has}
use Rattle.kp_base.proofs.Sets.{any-set_of, all-set_of, set_ascends}

-- ---- filters

filter_no_longer : {X : Type 0} (p : X → Bool) (xs : List X) → length (filter p xs) ≤ length xs
filter_no_longer p [] = omega arith
filter_no_longer {X} p (y ∷ ys) = pick (filter_no_longer p ys) (p y)
  where
    pick : length (filter p ys) ≤ length ys → (b : Bool) → length (cond b (y ∷ filter p ys) (filter p ys)) ≤ length (y ∷ ys)
    pick le true = omega arith
    pick le false = omega arith

-- a filter that takes something away leaves a shorter list
filter_shorter : {X : Type 0} (p : X → Bool) (xs : List X) → list_all p xs ≡ false → length (filter p xs) < length xs
filter_shorter p [] h = absurd (false≢true (sym h))
filter_shorter {X} p (y ∷ ys) h = pick (filter_no_longer p ys) (filter_shorter p ys) (p y) h
  where
    pick : length (filter p ys) ≤ length ys → (list_all p ys ≡ false → length (filter p ys) < length ys) → (b : Bool) → (b && list_all p ys) ≡ false → length (cond b (y ∷ filter p ys) (filter p ys)) < length (y ∷ ys)
    pick le less true e = let lt = less e in omega arith
    pick le less false e = omega arith

-- ---- implicates

-- fewer literals are no tautology either
tautology_of_fewer : (c d : List Lit) → ((x : Lit) → Member c x → Member d x) → is_tautology d ≡ false → is_tautology c ≡ false
tautology_of_fewer c d part h = false_from_ne_true (is_tautology c) (λ e.
    let r = any_member (λ l. has c (negated l)) c e in
    false≢true (sym h ∙ any_from (λ l. has d (negated l)) d r.0 (part r.0 r.1) (has-member d (negated r.0) (part (negated r.0) (member-has c (negated r.0) r.2)))))

set_member : (c : List Lit) (x : Lit) → Member (set_of c) x → Member c x
set_member c x i = member-has c x (sym (any-set_of (same_lit x) c) ∙ has-member (set_of c) x i)

-- an implicate as a set
set_implicate : (i : Initial) (c : List Lit) → IsImplicate i c → IsImplicate i (set_of c)
set_implicate i c imp = record {
  proper = tautology_of_fewer (set_of c) c (set_member c) imp.proper;
  holds_always = λ s model. any-set_of (holds s) c ∙ imp.holds_always s model;
}

-- of the literals of an implicate those of another that is within it are one
common_implicate : (i : Initial) (c d : List Lit) → IsImplicate i c → IsImplicate i d → is_within d (set_of c) ≡ true → IsImplicate i (filter (has d) c)
common_implicate i c d imp imp-d within = record {
  proper = tautology_of_fewer (filter (has d) c) c (λ x m. (filter_member (has d) c x m).0) imp.proper;
  holds_always = λ s model.
      let r = any_member (holds s) d (imp-d.holds_always s model) in
      let there : Member c r.0 = set_member c r.0 (member-has (set_of c) r.0 (all_member (has (set_of c)) d r.0 r.1 within)) in
      any_from (holds s) (filter (has d) c) r.0 (member_filter (has d) c r.0 there (has-member d r.0 r.1)) r.2;
}

-- an implicate is prime as a set, or there is a shorter one within it
prime_or_shorter : (i : Initial) (c : List Lit) → IsImplicate i c → ((d : List Lit) → ((x : Lit) → Member d x → Member c x) → IsPrime i d → ⊥) → ((d : List Lit) → IsImplicate i d → is_within d (set_of c) ≡ true → length (filter (has d) c) < length c → ⊥) → ⊥
prime_or_shorter i c imp none shorter =
    none (set_of c) (set_member c) (record {
      ascending = set_ascends c;
      implicate = set_implicate i c imp;
      least = λ d imp-d within. true_from_ne_false (is_within (set_of c) d) (λ more. shorter d imp-d within (filter_shorter (has d) c (sym (all-set_of (has d) c) ∙ more)));
    })

-- it can't be that no clause of some literals of an implicate is prime
pub some_prime : (i : Initial) (n : ℕ) (c : List Lit) → length c ≤ n → IsImplicate i c → ((d : List Lit) → ((x : Lit) → Member d x → Member c x) → IsPrime i d → ⊥) → ⊥
some_prime i zero c le imp none = prime_or_shorter i c imp none (λ d imp-d within lt. omega (arith, le, lt))
some_prime i (suc n) c le imp none =
    prime_or_shorter i c imp none (λ d imp-d within lt.
    some_prime i n (filter (has d) c) (omega (arith, le, lt)) (common_implicate i c d imp imp-d within) (λ e part. none e (λ x m. (filter_member (has d) c x (part x m)).0)))
