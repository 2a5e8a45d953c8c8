-- Marking each pair with one atom, a word of its row at a time.
use Rattle.std.proofs.Common.{◌≡◌, ◌<◌, ◌≤◌, ◌+◌, ◌*◌, ◌/◌, ◌%◌, ℕ, Bool, true, false, not, ◌&&◌, ◌||◌, List, Some, slice_get, nat_eq, nat_lt, inl, inr, sym, ap, subst, ◌∙◌, arith}
use Rattle.std.proofs.lemmas.Bool.{and_parts, or_cases, or_left, ltb-true, eqb-true, false≢true, lt-ltb, cases_lt}
use Rattle.std.proofs.lemmas.Bool.Decides.{nat_tests}
use Rattle.kp_clash_exclusive.specs.Paired.{words_of, is_marked, marked, IsSquare}
use Rattle.kp_clash_exclusive.specs.Starting.{pair_of, between, IsMarkedWith}
use Rattle.kp_clash_exclusive.proofs.Marked.{is_pair_marked, in_word}
use Rattle.kp_clash_exclusive.proofs.Starting.{with_below}

pub nothing_between : (p from r s : ℕ) → between p from from r s ≡ true → ⊥
nothing_between p from r s h = grind (arith, nat_tests)

pub one_between : (p from q r s : ℕ) → from ≤ q → (between p from q r s || pair_of p q r s) ≡ true → between p from (q + 1) r s ≡ true
one_between p from q r s le h = grind (arith, nat_tests)

pub between_one : (p from q r s : ℕ) → from ≤ q → between p from (q + 1) r s ≡ true → (between p from q r s || pair_of p q r s) ≡ true
between_one p from q r s le h = grind (arith, nat_tests)

pub between_less : (p from to end r s : ℕ) → to ≤ end → between p from to r s ≡ true → between p from end r s ≡ true
between_less p from to end r s le h = grind (arith, nat_tests)

pub between_more : (p from to end r s : ℕ) → (r < end → r < to) → (s < end → s < to) → between p from end r s ≡ true → between p from to r s ≡ true
between_more p from to end r s f g h = elim (cases_lt r to) [
  | inl a ↦ elim (cases_lt s to) [
    | inl b ↦ grind (arith, nat_tests)
    | inr b ↦ elim (cases_lt s end) [ inl c ↦ let d = g c in absurd (omega (arith, b, d)) | inr c ↦ grind (arith, nat_tests) ]
  ]
  | inr a ↦ elim (cases_lt r end) [
    | inl c ↦ let d = f c in absurd (omega (arith, a, d))
    | inr c ↦ elim (cases_lt s to) [
      | inl b ↦ grind (arith, nat_tests)
      | inr b ↦ elim (cases_lt s end) [ inl d ↦ let e = g d in absurd (omega (arith, b, e)) | inr d ↦ grind (arith, nat_tests) ]
    ]
  ]
]

-- a word more of those below
pub below_more : (p k r s : ℕ) → (with_below p (k * 64) r s || between p (k * 64) (k * 64 + 64) r s) ≡ true → with_below p ((k + 1) * 64) r s ≡ true
below_more p k r s h = grind (arith, nat_tests)

pub more_below : (p k r s : ℕ) → with_below p ((k + 1) * 64) r s ≡ true → (with_below p (k * 64) r s || between p (k * 64) (k * 64 + 64) r s) ≡ true
more_below p k r s h = grind (arith, nat_tests)

-- where each bit of the word is set, all of them are marked
pub word_full : (n : ℕ) (bits : List Bool) (p k : ℕ) → IsSquare n bits → p < n → k < words_of n → ((j : ℕ) → j < 64 → slice_get bits ((p * words_of n + k) * 64 + j) ≡ Some true) → IsMarkedWith n (between p (k * 64) (k * 64 + 64)) bits bits
word_full n bits p k square hp hk all = record {
  square = square;
  sound = λ r s h. or_left (is_marked n bits r s) (between p (k * 64) (k * 64 + 64) r s) h;
  kept = λ r s h. h;
  full = λ r s _ _ _ h. elim (or_cases (nat_eq r p && (not (nat_lt s (k * 64)) && nat_lt s (k * 64 + 64))) (nat_eq s p && (not (nat_lt r (k * 64)) && nat_lt r (k * 64 + 64))) h) [
    | inl e ↦ by r s e
    | inr e ↦ square.either_order r s ∙ by s r e
  ];
}
  where
    here : (q : ℕ) → q / 64 ≡ k → is_marked n bits p q ≡ true
    here q e = sym (is_pair_marked n bits square p q) ∙ (in_word n bits square p k q hp hk e).0 (all (q % 64) (omega arith))

    by : (r s : ℕ) → (nat_eq r p && (not (nat_lt s (k * 64)) && nat_lt s (k * 64 + 64))) ≡ true → is_marked n bits r s ≡ true
    by r s e =
        let x = and_parts (nat_eq r p) (not (nat_lt s (k * 64)) && nat_lt s (k * 64 + 64)) e in
        let y = and_parts (not (nat_lt s (k * 64))) (nat_lt s (k * 64 + 64)) x.1 in
        let at : s / 64 ≡ k = word_of y.0 (ltb-true s (k * 64 + 64) y.1) in
        subst (λ (m : ℕ). is_marked n bits m s ≡ true) (sym (eqb-true r p x.0)) (here s at)
      where
        word_of : not (nat_lt s (k * 64)) ≡ true → s < k * 64 + 64 → s / 64 ≡ k
        word_of low high = elim (cases_lt s (k * 64)) [
          | inl lt ↦ absurd (false≢true (sym (ap not (lt-ltb s (k * 64) lt)) ∙ low))
          | inr ge ↦ omega (arith, ge, high)
        ]
