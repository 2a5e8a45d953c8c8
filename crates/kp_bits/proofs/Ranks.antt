-- Counting the bits of a row, word by word.
use Rattle.std.proofs.Common.{◌≡◌, ◌<◌, ◌≤◌, ◌+◌, ◌*◌, ◌/◌, ◌%◌, ◌^◌, ◌↔◌, ◌⊎◌, inl, inr, ℕ, zero, suc, Bool, true, false, cond, List, [], ◌∷◌, ◌++◌, Some, length, get_or, slice_get, refl, sym, ap, subst, ◌∙◌, arith}
use Rattle.std.proofs.lemmas.Bool.{false≢true, cases_eq}
use Rattle.std.proofs.lemmas.List.{length_push, get_or_at, get_or_append_left}
use Rattle.std.proofs.lemmas.Nat.{mod-pow-add, ones_cat, mod_below, pow_pos}
use Rattle.std.proofs.lemmas.Nat.Bits.{bit_at-lt}
use Rattle.std.proofs.lemmas.Option.{get_or_from_slice_get}
use Rattle.std.specs.Int.{bit_at}
use Rattle.std.specs.Int.RustNames.{count_ones}
use Rattle.kp_bits.specs.Ranks.{trues_before}

-- ---- bit by bit

none_before : (row : List Bool) → trues_before row zero ≡ 0
none_before [] = refl
none_before (b ∷ bs) = refl

-- one bit more
pub one_more : (row : List Bool) (i : ℕ) → trues_before row (suc i) ≡ trues_before row i + cond (get_or row i false) 1 0
one_more [] i = refl
one_more (b ∷ bs) zero = let e = none_before bs in omega (arith, e)
one_more (b ∷ bs) (suc i) = let e = one_more bs i in omega (arith, e)

-- no more are set than there are
pub trues_fit : (row : List Bool) (i : ℕ) → trues_before row i ≤ length row
trues_fit [] i = omega arith
trues_fit (b ∷ bs) zero = omega arith
trues_fit (b ∷ bs) (suc i) = go b (trues_fit bs i)
  where
    go : (b : Bool) → trues_before bs i ≤ length bs → cond b 1 0 + trues_before bs i ≤ suc (length bs)
    go true h = omega (arith, h)
    go false h = omega (arith, h)

-- ---- word by word

-- the word has the row's bits from 64 k on
abbrev pub IsWordOf : List Bool → ℕ → ℕ → Type 0
IsWordOf row k w = (j : ℕ) → j < 64 → (bit_at w j ≡ 1) ↔ (slice_get row (k * 64 + j) ≡ Some true)

set_there : (row : List Bool) (i : ℕ) → get_or row i false ≡ true → slice_get row i ≡ Some true
set_there [] i h = absurd (false≢true h)
set_there (b ∷ bs) zero h = ap Some h
set_there (b ∷ bs) (suc i) h = set_there bs i h

bit_counts : (row : List Bool) (k w : ℕ) → IsWordOf row k w → (j : ℕ) → j < 64 → bit_at w j ≡ cond (get_or row (k * 64 + j) false) 1 0
bit_counts row k w is j l = go (get_or row (k * 64 + j) false) refl
  where
    not_one : (x : ℕ) → x < 2 → (x ≡ 1 → ⊥) → x ≡ 0
    not_one zero h ne = refl
    not_one (suc zero) h ne = absurd (ne refl)
    not_one (suc (suc x)) h ne = absurd (omega (arith, h))

    go : (b : Bool) → get_or row (k * 64 + j) false ≡ b → bit_at w j ≡ cond b 1 0
    go true e = (is j l).1 (set_there row (k * 64 + j) e)
    go false e = not_one (bit_at w j) (bit_at-lt w j) (λ one. false≢true (sym e ∙ get_or_from_slice_get row (k * 64 + j) true false ((is j l).0 one)))

small : (x : ℕ) → x < 2 → count_ones x ≡ x
unfolding count_ones
small zero h = refl
small (suc zero) h = refl
small (suc (suc x)) h = absurd (omega (arith, h))

-- one bit more of a word
ones_more : (w j : ℕ) → count_ones (w % 2 ^ (1 + j)) ≡ count_ones (w % 2 ^ j) + bit_at w j
ones_more w j =
    let e = ap count_ones (mod-pow-add w 1 j) in
    let f = ones_cat j (bit_at w j) (w % 2 ^ j) (mod_below w (2 ^ j) (pow_pos j)) in
    let h = small (bit_at w j) (bit_at-lt w j) in
    e ∙ (f ∙ turned (count_ones (bit_at w j)) (bit_at w j) (count_ones (w % 2 ^ j)) h)
  where
    turned : (a b c : ℕ) → a ≡ b → a + c ≡ c + b
    turned a b c e = omega (arith, e)

no_ones : (w : ℕ) → count_ones (w % 2 ^ 0) ≡ 0
unfolding count_ones
no_ones w =
    let h = mod_below w (2 ^ 0) (pow_pos 0) in
    let none : w % 2 ^ 0 ≡ 0 = omega (arith, h) in
    ap count_ones none

-- what is set before a place is what is set before its word, and the word's first bits
pub word_counts : (row : List Bool) (k w : ℕ) → IsWordOf row k w → (j : ℕ) → j ≤ 64 → trues_before row (k * 64 + j) ≡ trues_before row (k * 64) + count_ones (w % 2 ^ j)
word_counts row k w is zero h =
    let here : k * 64 + 0 ≡ k * 64 = omega arith in
    let a = ap (trues_before row) here in
    let b = no_ones w in
    omega (arith, a, b)
word_counts row k w is (suc j) h =
    let rest = word_counts row k w is j (omega (arith, h)) in
    let bit = bit_counts row k w is j (omega (arith, h)) in
    let more = one_more row (k * 64 + j) in
    let ones = ones_more w j in
    let place : k * 64 + suc j ≡ suc (k * 64 + j) = omega arith in
    let power : 1 + j ≡ suc j = omega arith in
    let a = ap (trues_before row) place in
    let b = ap (λ n. count_ones (w % 2 ^ n)) power in
    omega (arith, a, b, rest, bit, more, ones)

-- a word more
pub word_more : (row : List Bool) (k w : ℕ) → w < 18446744073709551616 → IsWordOf row k w → trues_before row ((k + 1) * 64) ≡ trues_before row (k * 64) + count_ones w
word_more row k w lt is =
    let e = word_counts row k w is 64 (omega arith) in
    let place : (k + 1) * 64 ≡ k * 64 + 64 = omega arith in
    let whole : w % 2 ^ 64 ≡ w = omega (arith, lt) in
    let a = ap (trues_before row) place in
    let b = ap count_ones whole in
    omega (arith, a, b, e)

-- before a place of the row
pub rank_is : (row : List Bool) (i w : ℕ) → IsWordOf row (i / 64) w → trues_before row i ≡ trues_before row (i / 64 * 64) + count_ones (w % 2 ^ (i % 64))
rank_is row i w is =
    let e = word_counts row (i / 64) w is (i % 64) (omega arith) in
    let place : i / 64 * 64 + i % 64 ≡ i = omega arith in
    let a = ap (trues_before row) place in
    omega (arith, a, e)

-- ---- the counts, as far as a loop has come

-- the counts before the first k words, and what is set before word k
pub record CountsSoFar (row : List Bool) (before : List ℕ) (count k : ℕ) : Type 0 where
  pub here : count ≡ trues_before row (k * 64)
  pub many : length before ≡ k
  pub each : (m : ℕ) → m < k → get_or before m 0 ≡ trues_before row (m * 64)

pub none_counted : (row : List Bool) → CountsSoFar row [] 0 0
none_counted row = record { here = sym (none_before row); many = refl; each = λ m h. absurd (omega (arith, h)) }

pub one_counted : (row : List Bool) (before next : List ℕ) (count k w : ℕ) → w < 18446744073709551616 → IsWordOf row k w → next ≡ before ++ count ∷ [] → CountsSoFar row before count k → CountsSoFar row next (count + count_ones w) (k + 1)
one_counted row before next count k w lt is e c = record {
  here = let more = word_more row k w lt is in let here = c.here in omega (arith, more, here);
  many = let long = ap length e ∙ length_push before count in let many = c.many in omega (arith, long, many);
  each = λ m h. ap (λ xs. get_or xs m 0) e ∙ by m h (cases_eq m k);
}
  where
    by : (m : ℕ) → m < k + 1 → (m ≡ k) ⊎ (m ≡ k → ⊥) → get_or (before ++ count ∷ []) m 0 ≡ trues_before row (m * 64)
    by m h (inl same) = get_or_at before count [] 0 m (c.many ∙ sym same) ∙ (c.here ∙ ap (λ x. trues_before row (x * 64)) (sym same))
    by m h (inr other) = let many = c.many in get_or_append_left before (count ∷ []) 0 m (omega (arith, h, other, many)) ∙ c.each m (omega (arith, h, other))
