-- What a word is and what the value of an option says is decided by tests.
use Rattle.std.proofs.Common.{◌≡◌, ◌≢◌, ◌⊎◌, ◌<◌, ◌≤◌, inl, inr, refl, sym, subst, ◌∙◌, ℕ, zero, suc, Bool, true, List, Option, Some, None, MatchOption, decimal, bytes_eq, arith}
use Rattle.std.specs.List.{find}
use Rattle.std.proofs.lemmas.Bool.{cases_lt, cases_Bool, false≢true}
use Rattle.std.proofs.lemmas.Slice.Eq.{bytes_eq-Decides}
use Rattle.kp_base.specs.declared.limits.Mode.{Mode}
use Rattle.kp_words.specs.declared.source.Family.{Family}
use Rattle.kp_words.specs.Options.{IsOfRange, SaysNumber, SaysLimit, SaysBudget, SaysBound, SaysMode, SaysFamily, SaysSize, AreApart, AreNotBoth, mode_word, family_word, usual_limit, usual_budget, usual_bound, usual_mode, no_family, no_size}
use Rattle.kp_words.proofs.Named.{named_is}
use Rattle.kp_words.proofs.SaidOnce.{all_modes, mode_again, all_families, family_again}

-- ---- what is decided

-- it holds, or it doesn't
abbrev pub Decided : Type 0 → Type 0
Decided P = P ⊎ (P → ⊥)

pub by_test : (P : Type 0) (b : Bool) → (b ≡ true → P) → (P → b ≡ true) → Decided P
by_test P b from to = elim (cases_Bool b) [
  | inl on ↦ inl (from on)
  | inr off ↦ inr (λ p. false≢true (sym off ∙ to p))
]

pub both : (P Q : Type 0) → Decided P → Decided Q → Decided (P × Q)
both P Q (inl p) (inl q) = inl (p, q)
both P Q (inl p) (inr refuted) = inr (λ h. refuted h.1)
both P Q (inr refuted) q = inr (λ h. refuted h.0)

-- what holds where another that is decided does
pub like : (P Q : Type 0) → (P → Q) → (Q → P) → Decided P → Decided Q
like P Q to from (inl p) = inl (to p)
like P Q to from (inr none) = inr (λ q. none (from q))

-- some number below this one is so, or none is
some_below : (P : ℕ → Type 0) → ((n : ℕ) → Decided (P n)) → (k : ℕ) → Decided ((n : ℕ) × (n < k) × P n)
some_below P each zero = inr (λ h. let lt = h.1 in omega (arith, lt))
some_below P each (suc k) = elim (some_below P each k) [
  | inl h ↦ let lt = h.1 in inl (h.0, omega (arith, lt), h.2)
  | inr none ↦ elim (each k) [
    | inl p ↦ inl (k, omega arith, p)
    | inr not_here ↦ inr (λ h. elim (cases_lt h.0 k) [
      | inl below ↦ none (h.0, below, h.2)
      | inr above ↦ let lt = h.1 in let same : h.0 ≡ k = omega (arith, lt, above) in not_here (subst P same h.2)
    ])
  ]
]

-- ---- words

pub same_word : (xs ys : List ℕ) → Decided (xs ≡ ys)
same_word xs ys = by_test (xs ≡ ys) (bytes_eq xs ys) (bytes_eq-Decides xs ys).0 (bytes_eq-Decides xs ys).1

pub other_word : (xs ys : List ℕ) → Decided (xs ≢ ys)
other_word xs ys = elim (same_word xs ys) [ inl same ↦ inr (λ differ. differ same) | inr differ ↦ inl differ ]

-- ---- numbers

in_range : (least most n : ℕ) → Decided (IsOfRange least most n)
in_range least most n = by (cases_lt n least) (cases_lt most n)
  where
    by : (n < least) ⊎ (least ≤ n) → (most < n) ⊎ (n ≤ most) → Decided (IsOfRange least most n)
    by (inl low) high = inr (λ h. let from = h.at_least in omega (arith, low, from))
    by (inr low) (inl high) = inr (λ h. let to = h.at_most in omega (arith, high, to))
    by (inr low) (inr high) = inl (record { at_least = low; at_most = high })

-- a word says a number of the range
within_decided : (least most : ℕ) (word : List ℕ) → Decided ((n : ℕ) × (IsOfRange least most n × (word ≡ decimal n)))
within_decided least most word = elim (some_below (λ n. IsOfRange least most n × (word ≡ decimal n)) (λ n. both (IsOfRange least most n) (word ≡ decimal n) (in_range least most n) (same_word word (decimal n))) (suc most)) [
  | inl h ↦ inl (h.0, h.2)
  | inr none ↦ inr (λ h. let high = h.1.0.at_most in none (h.0, omega (arith, high), h.1))
]

number_decided : (least most usual : ℕ) (value : Option (List ℕ)) → Decided ((n : ℕ) × SaysNumber least most usual value n)
number_decided least most usual None = inl (usual, refl)
number_decided least most usual (Some word) = within_decided least most word

pub limit_decided : (value : Option (List ℕ)) → Decided ((n : ℕ) × SaysLimit value n)
limit_decided = number_decided 1 100000 usual_limit

pub budget_decided : (value : Option (List ℕ)) → Decided ((n : ℕ) × SaysBudget value n)
budget_decided = number_decided 1 1000000 usual_budget

pub bound_decided : (value : Option (List ℕ)) → Decided ((n : ℕ) × SaysBound value n)
bound_decided = number_decided 0 8 usual_bound

pub size_decided : (word : Option (List ℕ)) → Decided ((n : ℕ) × SaysSize word n)
size_decided = number_decided 2 100 no_size

-- ---- modes, sources and families

-- a word is that of one of these, each of which is found by its own
pub named_decided : {X : Type 0} (word : X → List ℕ) (all : List X) → ((x : X) → find (λ y. bytes_eq (word x) (word y)) all ≡ Some x) → (w : List ℕ) → Decided ((x : X) × (w ≡ word x))
named_decided {X} word all again w = by (find (λ y. bytes_eq w (word y)) all) (named_is word all again w)
  where
    by : (o : Option X) → MatchOption o ((x : X) → w ≢ word x) (λ x. w ≡ word x) → Decided ((x : X) × (w ≡ word x))
    by (Some x) is = inl (x, is)
    by None none = inr (λ h. none h.0 h.1)

pub mode_decided : (value : Option (List ℕ)) → Decided ((m : Mode) × SaysMode value m)
mode_decided None = inl (usual_mode, refl)
mode_decided (Some word) = named_decided mode_word all_modes mode_again word

pub family_decided : (word : Option (List ℕ)) → Decided ((f : Family) × SaysFamily word f)
family_decided None = inl (no_family, refl)
family_decided (Some word) = named_decided family_word all_families family_again word

-- ---- names

-- two words, where there are both, differ
pub apart_decided : (a b : Option (List ℕ)) → Decided (AreApart a b)
apart_decided None b = inl tt
apart_decided (Some x) None = inl tt
apart_decided (Some x) (Some y) = elim (same_word x y) [ inl same ↦ inr (λ h. h same) | inr differ ↦ inl differ ]

-- two words aren't both there
pub not_both_decided : (a b : Option (List ℕ)) → Decided (AreNotBoth a b)
not_both_decided None b = inl tt
not_both_decided (Some x) None = inl tt
not_both_decided (Some x) (Some y) = inr (λ h. h)
