-- Truth values that are known or open, of what is made of others.
use Rattle.std.proofs.Common.{◌≡◌, ◌<◌, ℕ, Bool, true, false, not, ◌&&◌, ◌||◌, if◌then◌else◌, List, [], ◌∷◌, fold, refl, sym, ap, subst, ◌∙◌, inl, inr}
use Rattle.std.proofs.lemmas.Bool.{or_from}
use Rattle.std.specs.List.{list_any, list_all}
use Rattle.kp_base.specs.declared.lit.Lit.{Lit}
use Rattle.kp_base.specs.Lists.{Member}
use Rattle.kp_base.specs.Lit.{positive, negative, negated, has}
use Rattle.kp_base.specs.Steps.{State, holds}
use Rattle.kp_base.proofs.Lists.{all_member, not_not}
use Rattle.kp_base.proofs.Lits.{member-has, holds-negated}
use Rattle.kp_primes_first_model.specs.Known.{is_decided}
use Rattle.kp_primes_first_model.specs.declared.truth.Truth.{Truth}
use Rattle.kp_primes_first_model.specs.declared.truth.Truth.TheVariants.{Yes, No, Open}
use Rattle.kp_primes_first_model.specs.Truths.{IsTruth, opposite, both, either, truth_in}

module _ (n : ℕ) (known : List Lit) where
  pub opposite_is : (a : Bool) (t : Truth) → IsTruth n known a t → IsTruth n known (not a) (opposite t)
  opposite_is a Yes h = ap not h
  opposite_is a No h = ap not h
  opposite_is a (Open x) h = h

  pub both_is : (a b : Bool) (t u : Truth) → IsTruth n known a t → IsTruth n known b u → IsTruth n known (a && b) (both t u)
  both_is a b Yes u h k = rw h k
  both_is a b No u h k = rw h refl
  both_is a b (Open x) No h k = rw k (off a)
    where
      off : (c : Bool) → (c && false) ≡ false
      off true = refl
      off false = refl
  both_is a b (Open x) Yes h k = h
  both_is a b (Open x) (Open y) h k = h

  pub either_is : (a b : Bool) (t u : Truth) → IsTruth n known a t → IsTruth n known b u → IsTruth n known (a || b) (either t u)
  either_is a b t u h k = subst (λ c. IsTruth n known c (either t u)) (turned a b) (opposite_is (not a && not b) (both (opposite t) (opposite u)) (both_is (not a) (not b) (opposite t) (opposite u) (opposite_is a t h) (opposite_is b u k)))
    where
      turned : (c d : Bool) → not (not c && not d) ≡ (c || d)
      turned true d = refl
      turned false true = refl
      turned false false = refl

  -- of all of some
  pub all_is : {X : Type 0} (p : X → Bool) (f : X → Truth) (xs : List X) → ((x : X) → Member xs x → IsTruth n known (p x) (f x)) → (a : Bool) (t : Truth) → IsTruth n known a t → IsTruth n known (a && list_all p xs) (fold (λ u x. both u (f x)) t xs)
  all_is p f [] each a t h = subst (λ c. IsTruth n known c t) (turned a) h
    where
      turned : (c : Bool) → c ≡ (c && true)
      turned true = refl
      turned false = refl
  all_is p f (x ∷ xs) each a t h = subst (λ c. IsTruth n known c (fold (λ u x. both u (f x)) (both t (f x)) xs)) (joined a (p x) (list_all p xs)) (all_is p f xs (λ y m. each y (inr m)) (a && p x) (both t (f x)) (both_is a (p x) t (f x) h (each x (inl refl))))
    where
      joined : (c d e : Bool) → ((c && d) && e) ≡ (c && (d && e))
      joined true d e = refl
      joined false d e = refl

  -- of some one of them
  pub any_is : {X : Type 0} (p : X → Bool) (f : X → Truth) (xs : List X) → ((x : X) → Member xs x → IsTruth n known (p x) (f x)) → (a : Bool) (t : Truth) → IsTruth n known a t → IsTruth n known (a || list_any p xs) (fold (λ u x. either u (f x)) t xs)
  any_is p f [] each a t h = subst (λ c. IsTruth n known c t) (turned a) h
    where
      turned : (c : Bool) → c ≡ (c || false)
      turned true = refl
      turned false = refl
  any_is p f (x ∷ xs) each a t h = subst (λ c. IsTruth n known c (fold (λ u x. either u (f x)) (either t (f x)) xs)) (joined a (p x) (list_any p xs)) (any_is p f xs (λ y m. each y (inr m)) (a || p x) (either t (f x)) (either_is a (p x) t (f x) h (each x (inl refl))))
    where
      joined : (c d e : Bool) → ((c || d) || e) ≡ (c || (d || e))
      joined true d e = refl
      joined false d e = refl

  -- of a literal, in a state that satisfies what is known
  pub truth_in_is : (s : State) → list_all (holds s) known ≡ true → (l : Lit) → l.atom.0 < n → IsTruth n known (holds s l) (truth_in known l)
  truth_in_is s met l lt = pick (has known l) (has known (negated l)) refl refl
    where
      open' : (q : ℕ) (b : Bool) → has known (record { atom = record { 0 = q }; positive = b }) ≡ false → has known (record { atom = record { 0 = q }; positive = not b }) ≡ false → is_decided known q ≡ false
      open' q true h k = or_from (has known (positive q)) (has known (negative q)) h k
      open' q false h k = or_from (has known (positive q)) (has known (negative q)) k h

      pick : (a b : Bool) → has known l ≡ a → has known (negated l) ≡ b → IsTruth n known (holds s l) (if a then Yes else if b then No else Open l.atom)
      pick true b is also = all_member (holds s) known l (member-has known l is) met
      pick false true is also = sym (not_not (holds s l)) ∙ ap not (sym (holds-negated s l) ∙ all_member (holds s) known (negated l) (member-has known (negated l) also) met)
      pick false false is also = (lt, open' l.atom.0 l.positive is also)
