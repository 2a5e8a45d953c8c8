-- Lists with each element once.
use Rattle.std.proofs.Common.{◌≡◌, Bool, true, false, not, ◌&&◌, ◌||◌, cond, if◌then◌else◌, List, [], ◌∷◌, ◌++◌, filter, fold, refl, sym, ap, ◌∙◌, append_assoc, append-nil}
use Rattle.std.specs.List.{list_any, list_all}
use Rattle.std.specs.Cmp.{IsEquivalence}
use Rattle.std.proofs.lemmas.Bool.{and_parts, and_from, or_parts, or_from}
use Rattle.std.proofs.lemmas.List.Folds.{list_any-append}
use Rattle.std.proofs.Math.Bool.{or-true, or-false}
use Rattle.kp_base.specs.Lists.{each_once}
use Rattle.kp_base.proofs.Lists.{not_not, any-not}

-- what holds of all elements holds of those that a filter leaves
pub all_filter : {X : Type 0} (p q : X → Bool) (xs : List X) → list_all p xs ≡ true → list_all p (filter q xs) ≡ true
all_filter p q [] h = refl
all_filter p q (x ∷ xs) h = pick (q x) (all_filter p q xs (and_parts (p x) (list_all p xs) h).1)
  where
    pick : (t : Bool) → list_all p (filter q xs) ≡ true → list_all p (cond t (x ∷ filter q xs) (filter q xs)) ≡ true
    pick true rest = and_from (p x) (list_all p (filter q xs)) (and_parts (p x) (list_all p xs) h).0 rest
    pick false rest = rest

module _ {X : Type 0} (same : X → X → Bool) where
  -- without what is the same as x, some element passes as before, where x doesn't
  any-without : (p : X → Bool) → ((x y : X) → same x y ≡ true → p x ≡ p y) → (x : X) → p x ≡ false → (ys : List X) → list_any p (filter (λ y. not (same x y)) ys) ≡ list_any p ys
  any-without p alike x fails [] = refl
  any-without p alike x fails (y ∷ ys) = pick (same x y) refl (any-without p alike x fails ys)
    where
      pick : (t : Bool) → same x y ≡ t → list_any p (filter (λ y. not (same x y)) ys) ≡ list_any p ys → list_any p (cond (not t) (y ∷ filter (λ y. not (same x y)) ys) (filter (λ y. not (same x y)) ys)) ≡ (p y || list_any p ys)
      pick true is rest = rw (sym (alike x y is) ∙ fails) rest
      pick false is rest = ap (λ t. p y || t) rest

  -- some element passes where some element of the whole list does
  pub any-each_once : (p : X → Bool) → ((x y : X) → same x y ≡ true → p x ≡ p y) → (xs : List X) → list_any p (each_once same xs) ≡ list_any p xs
  any-each_once p alike [] = refl
  any-each_once p alike (x ∷ xs) = pick (p x) refl ∙ ap (λ t. p x || t) (any-each_once p alike xs)
    where
      pick : (t : Bool) → p x ≡ t → (p x || list_any p (filter (λ y. not (same x y)) (each_once same xs))) ≡ (p x || list_any p (each_once same xs))
      pick true is = rw is refl
      pick false is = rw is (any-without p alike x is (each_once same xs))

  -- what holds of all elements holds of those that stay
  pub all_each_once : (p : X → Bool) (xs : List X) → list_all p xs ≡ true → list_all p (each_once same xs) ≡ true
  all_each_once p [] h = refl
  all_each_once p (x ∷ xs) h =
      let parts = and_parts (p x) (list_all p xs) h in
      and_from (p x) (list_all p (filter (λ y. not (same x y)) (each_once same xs))) parts.0 (all_filter p (λ y. not (same x y)) (each_once same xs) (all_each_once p xs parts.1))

-- ---- tests

-- all pass where none fails
all-any : {X : Type 0} (p : X → Bool) (xs : List X) → list_all p xs ≡ not (list_any (λ x. not (p x)) xs)
all-any p xs = sym (not_not (list_all p xs)) ∙ ap not (sym (any-not p (λ x. not (p x)) xs (λ x. refl)))

pub all-each_once : {X : Type 0} (same : X → X → Bool) (p : X → Bool) → ((x y : X) → same x y ≡ true → p x ≡ p y) → (xs : List X) → list_all p (each_once same xs) ≡ list_all p xs
all-each_once same p alike xs =
    all-any p (each_once same xs)
    ∙ (ap not (any-each_once same (λ x. not (p x)) (λ x y h. ap not (alike x y h)) xs)
    ∙ sym (all-any p xs))

-- ---- lists that have each element once

-- no element is the same as a later one
abbrev pub Once : {X : Type 0} → (X → X → Bool) → List X → Type 0
Once same [] = Unit {0}
Once same (x ∷ xs) = (list_any (same x) xs ≡ false) × Once same xs

none_filter : {X : Type 0} (p q : X → Bool) (xs : List X) → list_any p xs ≡ false → list_any p (filter q xs) ≡ false
none_filter p q [] h = refl
none_filter p q (x ∷ xs) h = pick (q x) (none_filter p q xs (or_parts (p x) (list_any p xs) h).1)
  where
    pick : (t : Bool) → list_any p (filter q xs) ≡ false → list_any p (cond t (x ∷ filter q xs) (filter q xs)) ≡ false
    pick true rest = or_from (p x) (list_any p (filter q xs)) (or_parts (p x) (list_any p xs) h).0 rest
    pick false rest = rest

none_left : {X : Type 0} (p : X → Bool) (xs : List X) → list_any p (filter (λ x. not (p x)) xs) ≡ false
none_left p [] = refl
none_left p (x ∷ xs) = pick (p x) refl (none_left p xs)
  where
    pick : (t : Bool) → p x ≡ t → list_any p (filter (λ x. not (p x)) xs) ≡ false → list_any p (cond (not t) (x ∷ filter (λ x. not (p x)) xs) (filter (λ x. not (p x)) xs)) ≡ false
    pick true is rest = rest
    pick false is rest = or_from (p x) (list_any p (filter (λ x. not (p x)) xs)) is rest

once_filter : {X : Type 0} (same : X → X → Bool) (q : X → Bool) (xs : List X) → Once same xs → Once same (filter q xs)
once_filter same q [] o = tt
once_filter same q (x ∷ xs) o = pick (q x) (once_filter same q xs o.1)
  where
    pick : (t : Bool) → Once same (filter q xs) → Once same (cond t (x ∷ filter q xs) (filter q xs))
    pick true rest = (none_filter (same x) q xs o.0, rest)
    pick false rest = rest

pub each_once_is_once : {X : Type 0} (same : X → X → Bool) (xs : List X) → Once same (each_once same xs)
each_once_is_once same [] = tt
each_once_is_once same (x ∷ xs) = (none_left (same x) (each_once same xs), once_filter same (λ y. not (same x y)) (each_once same xs) (each_once_is_once same xs))

-- ---- filters

filter_twice : {X : Type 0} (p q r : X → Bool) → ((x : X) → p x ≡ (q x && r x)) → (xs : List X) → filter p xs ≡ filter q (filter r xs)
filter_twice p q r both [] = refl
filter_twice {X} p q r both (x ∷ xs) = rw (both x, filter_twice p q r both xs) (pick (r x))
  where
    pick : (t : Bool) → cond (q x && t) (x ∷ filter q (filter r xs)) (filter q (filter r xs)) ≡ filter q (cond t (x ∷ filter r xs) (filter r xs))
    pick true = turned (q x)
      where
        turned : (u : Bool) → cond (u && true) (x ∷ filter q (filter r xs)) (filter q (filter r xs)) ≡ cond u (x ∷ filter q (filter r xs)) (filter q (filter r xs))
        turned true = refl
        turned false = refl
    pick false = turned (q x)
      where
        turned : (u : Bool) → cond (u && false) (x ∷ filter q (filter r xs)) (filter q (filter r xs)) ≡ filter q (filter r xs)
        turned true = refl
        turned false = refl

filter_all : {X : Type 0} (p : X → Bool) → ((x : X) → p x ≡ true) → (xs : List X) → filter p xs ≡ xs
filter_all p passes [] = refl
filter_all p passes (x ∷ xs) = rw (passes x, filter_all p passes xs) refl

-- ---- one by one

-- an element at the end, if it isn't there yet
abbrev pub added : {X : Type 0} → (X → X → Bool) → List X → X → List X
added same ys x = if list_any (same x) ys then ys else ys ++ x ∷ []

module _ {X : Type 0} (same : X → X → Bool) (laws : IsEquivalence same) where
  -- the element isn't there yet
  abbrev fresh : List X → X → Bool
  fresh ys x = not (list_any (same x) ys)

  -- what is the same as an element that is there is there
  alike_there : {K : Type 0} (now : K → X) (ks : List K) (x y : X) → same x y ≡ true → list_any (λ k. same x (now k)) ks ≡ list_any (λ k. same y (now k)) ks
  alike_there now [] x y h = refl
  alike_there now (k ∷ ks) x y h = rw (laws.congr x y (now k) h, alike_there now ks x y h) refl

  -- with one more, unless it is there, those are there that were, and what is the same as it
  pub any-added : {K : Type 0} (now : K → X) (ks : List K) (k : K) (x : X) → list_any (λ j. same x (now j)) (if list_any (λ j. same (now k) (now j)) ks then ks else ks ++ k ∷ []) ≡ (list_any (λ j. same x (now j)) ks || same x (now k))
  any-added now ks k x = by (list_any (λ j. same (now k) (now j)) ks) refl
    where
      there : (u : Bool) → list_any (λ j. same (now k) (now j)) ks ≡ true → same x (now k) ≡ u → list_any (λ j. same x (now j)) ks ≡ (list_any (λ j. same x (now j)) ks || u)
      there true is e = alike_there now ks x (now k) e ∙ (is ∙ sym (or-true (list_any (λ j. same x (now j)) ks)))
      there false is e = sym (or-false (list_any (λ j. same x (now j)) ks))

      by : (t : Bool) → list_any (λ j. same (now k) (now j)) ks ≡ t → list_any (λ j. same x (now j)) (if t then ks else ks ++ k ∷ []) ≡ (list_any (λ j. same x (now j)) ks || same x (now k))
      by true is = there (same x (now k)) is refl
      by false is = list_any-append (λ j. same x (now j)) ks (k ∷ []) ∙ ap (λ t. list_any (λ j. same x (now j)) ks || t) (or-false (same x (now k)))

  -- fresh elements aren't the same as one that is there
  fresh_there : (ys : List X) (x y : X) → list_any (same x) ys ≡ true → fresh ys y ≡ (fresh ys y && not (same x y))
  fresh_there ys x y there = pick (same x y) refl
    where
      pick : (t : Bool) → same x y ≡ t → fresh ys y ≡ (fresh ys y && not t)
      pick true is = rw (sym (alike_there (λ z. z) ys x y is) ∙ there) refl
      pick false is = turned (fresh ys y)
        where
          turned : (u : Bool) → u ≡ (u && true)
          turned true = refl
          turned false = refl

  -- fresh elements are those that were fresh and aren't the same as the one that was added
  fresh_more : (ys : List X) (x y : X) → fresh (ys ++ x ∷ []) y ≡ (fresh ys y && not (same x y))
  fresh_more ys x y = rw (list_any-append (same y) ys (x ∷ []), laws.symm y x) (pick (list_any (same y) ys) (same x y))
    where
      pick : (t u : Bool) → not (t || (u || false)) ≡ (not t && not u)
      pick true u = refl
      pick false true = refl
      pick false false = refl

  -- what stays of the elements behind x, where x comes
  abbrev after : X → List X → List X → List X
  after x ys zs = filter (fresh ys) (filter (λ y. not (same x y)) zs)

  one_more : (x : X) (ys : List X) (xs : List X) (t : Bool) → list_any (same x) ys ≡ t
      → ((us : List X) → fold (added same) us xs ≡ us ++ filter (fresh us) (each_once same xs))
      → fold (added same) (if t then ys else ys ++ x ∷ []) xs ≡ ys ++ cond (not t) (x ∷ after x ys (each_once same xs)) (after x ys (each_once same xs))
  one_more x ys xs true is rest = rest ys ∙ ap (λ z. ys ++ z) (filter_twice (fresh ys) (fresh ys) (λ y. not (same x y)) (λ y. fresh_there ys x y is) (each_once same xs))
  one_more x ys xs false is rest =
      rest (ys ++ x ∷ [])
      ∙ (append_assoc ys (x ∷ []) (filter (fresh (ys ++ x ∷ [])) (each_once same xs))
      ∙ ap (λ z. ys ++ x ∷ z) (filter_twice (fresh (ys ++ x ∷ [])) (fresh ys) (λ y. not (same x y)) (fresh_more ys x) (each_once same xs)))

  -- what comes to a list is what is fresh, each once
  pub all_added : (xs ys : List X) → fold (added same) ys xs ≡ ys ++ filter (fresh ys) (each_once same xs)
  all_added [] ys = sym (append-nil ys)
  all_added (x ∷ xs) ys = one_more x ys xs (list_any (same x) ys) refl (λ us. all_added xs us)

  -- elements that come one by one, unless they are there, are each there once
  pub once_by_one : (xs : List X) → fold (added same) [] xs ≡ each_once same xs
  once_by_one xs = all_added xs [] ∙ filter_all (fresh []) (λ x. refl) (each_once same xs)
