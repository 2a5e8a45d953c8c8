-- Rows of bits by their words.
use Rattle.std.proofs.Common.{◌≡◌, ◌≢◌, ◌<◌, ◌≤◌, ◌+◌, ◌*◌, ◌/◌, ◌%◌, ◌↔◌, ⊎_elim, ℕ, zero, suc, Bool, true, false, ◌&&◌, ◌||◌, List, Some, length, map, set, replicate, get_or, slice_get, unwrap_or, nat_eq, min, max, bit_and, bit_or, refl, sym, ap, subst, ◌∙◌, arith, length-set, get_or-set_same, get_or-set_other}
use Rattle.std.proofs.lemmas.Bool.{eqb-true, eq-eqb, cases_eq, cases_lt, both_ways}
use Rattle.std.proofs.lemmas.List.{length-map, ext_get_or, get_or-replicate, get_or-map, length-replicate, get_or_past}
use Rattle.std.proofs.lemmas.Grind.{get_or_default_zero}
use Rattle.std.proofs.lemmas.List.FromFn.{length-map-range_with_len, get_or-map-range_with_len}
use Rattle.std.proofs.lemmas.Option.{slice_get_within, slice_get_past, slice_get-get_or, unwrap_or-slice_get}
use Rattle.std.proofs.lemmas.Nat.{div-mul-add, mod-mul-add}
use Rattle.std.proofs.lemmas.Nat.Bits.{bit_at_and, bit_at_or, bit_at-zero, bit_at-lt}
use Rattle.std.proofs.lemmas.Slice.Zip.{length-zip, get_or-zip}
use Rattle.std.specs.Int.{bit_at}
use Rattle.std.specs.List.{zip}
use Rattle.kp_bits.specs.Packed.{bit_of, bits_of, IsPacked}
use Rattle.kp_bits.specs.Rows.{IsSubset, DifferFirst}

pub length-bits_of : (n : ℕ) (ws : List ℕ) → length (bits_of n ws) ≡ n
length-bits_of n ws = length-map-range_with_len (bit_of ws) 0 n

pub get_or-bits_of : (n : ℕ) (ws : List ℕ) (i : ℕ) (d : Bool) → i < n → get_or (bits_of n ws) i d ≡ bit_of ws i
get_or-bits_of n ws i d h = get_or-map-range_with_len (bit_of ws) 0 n i i d h (omega arith)

pub slice_get-bits_of : (n : ℕ) (ws : List ℕ) (i : ℕ) → i < n → slice_get (bits_of n ws) i ≡ Some (bit_of ws i)
slice_get-bits_of n ws i h = slice_get-get_or (bits_of n ws) i false (rw (length-bits_of n ws) h) ∙ ap Some (get_or-bits_of n ws i false h)

-- the word of a bit is there
pub word_there : (n : ℕ) (ws : List ℕ) (i : ℕ) → IsPacked n ws → i < n → i / 64 < length ws
word_there n ws i p h = let e = p.enough in omega arith

-- rows of one length have as many words
pub same_count : (n m : ℕ) (ws vs : List ℕ) → IsPacked n ws → IsPacked m vs → n ≡ m → length ws ≡ length vs
same_count n m ws vs p q e = let a = p.enough in let b = p.no_more in let c = q.enough in let d = q.no_more in omega arith

-- a row is what each of its bits is
pub row_is : (n : ℕ) (ws : List ℕ) (xs : List Bool) → length xs ≡ n → ((i : ℕ) → i < n → bit_of ws i ≡ get_or xs i false) → bits_of n ws ≡ xs
row_is n ws xs e f =
    ext_get_or false (bits_of n ws) xs (length-bits_of n ws ∙ sym e) (λ i h.
    let in_range : i < n = subst (λ k. i < k) (length-bits_of n ws) h in
    get_or-bits_of n ws i false in_range ∙ f i in_range)

-- a place in the row is below its length
pub in_row : (n : ℕ) (ws : List ℕ) (i : ℕ) (xs : List Bool) → bits_of n ws ≡ xs → i < length xs → i < n
in_row n ws i xs e h = subst (λ k. i < k) (ap length (sym e) ∙ length-bits_of n ws) h

-- the word that a read at a place gives
pub word_read : (n : ℕ) (ws : List ℕ) (i w : ℕ) → IsPacked n ws → i < n → w ≡ get_or ws (i / 64) w → w ≡ get_or ws (i / 64) 0
word_read n ws i w p h e = e ∙ get_or_default_zero ws (i / 64) w (word_there n ws i p h)

-- rows of one length have one number of bits
pub same_size : (n m : ℕ) (ws vs : List ℕ) (xs ys : List Bool) → bits_of n ws ≡ xs → bits_of m vs ≡ ys → length xs ≡ length ys → n ≡ m
same_size n m ws vs xs ys e f h = sym (length-bits_of n ws) ∙ (ap length e ∙ (h ∙ (ap length (sym f) ∙ length-bits_of m vs)))

-- ---- no bits set

pub all_clear : (n m i : ℕ) → bit_of (replicate m 0) i ≡ false
all_clear n m i = ap (λ w. nat_eq (bit_at w (i % 64)) 1) zero_word ∙ ap (λ b. nat_eq b 1) (bit_at-zero (i % 64))
  where
    zero_word : get_or (replicate m zero) (i / 64) zero ≡ zero
    zero_word = ⊎_elim (λ l. get_or-replicate m (i / 64) zero zero l) (λ ge. get_or_past (replicate m zero) (i / 64) zero (rw (length-replicate m zero) ge)) (cases_lt (i / 64) m)

pub zeros : (n m : ℕ) → bits_of n (replicate m 0) ≡ replicate n false
zeros n m = row_is n (replicate m 0) (replicate n false) (length-replicate n false) (λ i h. all_clear n m i ∙ sym (get_or-replicate n i false false h))

-- ---- one bit changed

-- what becomes of a word that holds the bit
abbrev pub IsChanged : ℕ → ℕ → ℕ → ℕ → Type 0
IsChanged old new k b = (bit_at new k ≡ b) × ((j : ℕ) → j < 64 → j ≢ k → bit_at new j ≡ bit_at old j)

bit_same : (n : ℕ) (ws : List ℕ) (i w b : ℕ) → IsPacked n ws → i < n → IsChanged (get_or ws (i / 64) 0) w (i % 64) b → bit_of (set ws (i / 64) w) i ≡ nat_eq b 1
bit_same n ws i w b p h c = ap (λ v. nat_eq (bit_at v (i % 64)) 1) (get_or-set_same ws (i / 64) w 0 (word_there n ws i p h)) ∙ ap (λ x. nat_eq x 1) c.0

bit_other : (n : ℕ) (ws : List ℕ) (i j w b : ℕ) → IsPacked n ws → i < n → IsChanged (get_or ws (i / 64) 0) w (i % 64) b → j ≢ i → bit_of (set ws (i / 64) w) j ≡ bit_of ws j
bit_other n ws i j w b p h c ne = ⊎_elim here there (cases_eq (j / 64) (i / 64))
  where
    there : j / 64 ≢ i / 64 → bit_of (set ws (i / 64) w) j ≡ bit_of ws j
    there e = ap (λ v. nat_eq (bit_at v (j % 64)) 1) (get_or-set_other ws (i / 64) (j / 64) w 0 e)

    here : j / 64 ≡ i / 64 → bit_of (set ws (i / 64) w) j ≡ bit_of ws j
    here e =
        let apart : j % 64 ≢ i % 64 = λ f. ne (omega arith) in
        ap (λ v. nat_eq (bit_at v (j % 64)) 1) (ap (λ k. get_or (set ws (i / 64) w) k 0) e ∙ get_or-set_same ws (i / 64) w 0 (word_there n ws i p h))
        ∙ (ap (λ x. nat_eq x 1) (c.1 (j % 64) (omega arith) apart)
        ∙ ap (λ k. nat_eq (bit_at (get_or ws k 0) (j % 64)) 1) (sym e))

pub changed_row : (n : ℕ) (ws : List ℕ) (i w b : ℕ) → IsPacked n ws → i < n → IsChanged (get_or ws (i / 64) 0) w (i % 64) b → bits_of n (set ws (i / 64) w) ≡ set (bits_of n ws) i (nat_eq b 1)
changed_row n ws i w b p h c = row_is n (set ws (i / 64) w) (set (bits_of n ws) i (nat_eq b 1)) (length-set (bits_of n ws) i (nat_eq b 1) ∙ length-bits_of n ws) each
  where
    each : (j : ℕ) → j < n → bit_of (set ws (i / 64) w) j ≡ get_or (set (bits_of n ws) i (nat_eq b 1)) j false
    each j l = ⊎_elim same other (cases_eq j i)
      where
        same : j ≡ i → bit_of (set ws (i / 64) w) j ≡ get_or (set (bits_of n ws) i (nat_eq b 1)) j false
        same e =
            ap (bit_of (set ws (i / 64) w)) e
            ∙ (bit_same n ws i w b p h c
            ∙ (sym (get_or-set_same (bits_of n ws) i (nat_eq b 1) false (rw (length-bits_of n ws) h))
            ∙ ap (λ k. get_or (set (bits_of n ws) i (nat_eq b 1)) k false) (sym e)))

        other : j ≢ i → bit_of (set ws (i / 64) w) j ≡ get_or (set (bits_of n ws) i (nat_eq b 1)) j false
        other ne =
            bit_other n ws i j w b p h c ne
            ∙ sym (get_or-set_other (bits_of n ws) i j (nat_eq b 1) false ne ∙ get_or-bits_of n ws j false l)

pub changed_packed : (n : ℕ) (ws : List ℕ) (i w b : ℕ) → IsPacked n ws → i < n → IsChanged (get_or ws (i / 64) 0) w (i % 64) b → IsPacked n (set ws (i / 64) w)
changed_packed n ws i w b p h c = record {
  enough = rw (length-set ws (i / 64) w) p.enough;
  no_more = rw (length-set ws (i / 64) w) p.no_more;
  clear_past = λ j l. bit_other n ws i j w b p h c (λ e. omega arith) ∙ p.clear_past j l;
}

-- ---- two rows

-- each word of us is made of those of ws and vs at its place
abbrev pub AreMade : (ℕ → ℕ → ℕ) → List ℕ → List ℕ → List ℕ → Type 0
AreMade op ws vs us = (length us ≡ length ws) × ((k : ℕ) → k < length ws → get_or us k 0 ≡ op (get_or ws k 0) (get_or vs k 0))

pub made_from : (op : ℕ → ℕ → ℕ) (ws vs us old others : List ℕ) → old ≡ ws → others ≡ vs → AreMade op old others us → AreMade op ws vs us
made_from op ws vs us old others e f o = subst (λ xs. AreMade op xs vs us) e (subst (λ xs. AreMade op old xs us) f o)

-- the operation on words does this with the bits of each place
pub record DoesBits (op : ℕ → ℕ → ℕ) (f : Bool → Bool → Bool) : Type 0 where
  pub each : (a b k : ℕ) → nat_eq (bit_at (op a b) k) 1 ≡ f (nat_eq (bit_at a k) 1) (nat_eq (bit_at b k) 1)
  pub none : f false false ≡ false

pub or_does : DoesBits bit_or (λ x y. x || y)
or_does = record { each = λ a b k. ap (λ x. nat_eq x 1) (bit_at_or a b k) ∙ go (bit_at a k) (bit_at b k) (bit_at-lt a k) (bit_at-lt b k); none = refl }
  where
    go : (x y : ℕ) → x < 2 → y < 2 → nat_eq (max x y) 1 ≡ (nat_eq x 1 || nat_eq y 1)
    go zero zero _ _ = refl
    go zero (suc zero) _ _ = refl
    go (suc zero) zero _ _ = refl
    go (suc zero) (suc zero) _ _ = refl
    go (suc (suc x)) y h _ = absurd (omega (arith, h))
    go zero (suc (suc y)) _ h = absurd (omega (arith, h))
    go (suc zero) (suc (suc y)) _ h = absurd (omega (arith, h))

pub and_does : DoesBits bit_and (λ x y. x && y)
and_does = record { each = λ a b k. ap (λ x. nat_eq x 1) (bit_at_and a b k) ∙ go (bit_at a k) (bit_at b k) (bit_at-lt a k) (bit_at-lt b k); none = refl }
  where
    go : (x y : ℕ) → x < 2 → y < 2 → nat_eq (min x y) 1 ≡ (nat_eq x 1 && nat_eq y 1)
    go zero zero _ _ = refl
    go zero (suc zero) _ _ = refl
    go (suc zero) zero _ _ = refl
    go (suc zero) (suc zero) _ _ = refl
    go (suc (suc x)) y h _ = absurd (omega (arith, h))
    go zero (suc (suc y)) _ h = absurd (omega (arith, h))
    go (suc zero) (suc (suc y)) _ h = absurd (omega (arith, h))

-- the rows are made bit by bit
pub made_bit : (op : ℕ → ℕ → ℕ) (f : Bool → Bool → Bool) → DoesBits op f → (ws vs us : List ℕ) → length ws ≡ length vs → AreMade op ws vs us → (i : ℕ) → bit_of us i ≡ f (bit_of ws i) (bit_of vs i)
made_bit op f d ws vs us e o i = ⊎_elim inside past (cases_lt (i / 64) (length ws))
  where
    inside : i / 64 < length ws → bit_of us i ≡ f (bit_of ws i) (bit_of vs i)
    inside l = ap (λ w. nat_eq (bit_at w (i % 64)) 1) (o.1 (i / 64) l) ∙ d.each (get_or ws (i / 64) 0) (get_or vs (i / 64) 0) (i % 64)

    none : (xs : List ℕ) → length xs ≤ i / 64 → bit_of xs i ≡ false
    none xs ge = ap (λ w. nat_eq (bit_at w (i % 64)) 1) (get_or_past xs (i / 64) 0 ge) ∙ ap (λ b. nat_eq b 1) (bit_at-zero (i % 64))

    past : length ws ≤ i / 64 → bit_of us i ≡ f (bit_of ws i) (bit_of vs i)
    past ge = let l = o.0 in rw (none us (omega arith), none ws ge, none vs (omega arith)) (sym d.none)

-- at each place, what is made of the two bits there
abbrev pub at_each : (Bool → Bool → Bool) → List Bool → List Bool → List Bool
at_each f xs ys = map (λ (p : Bool × Bool). f p.0 p.1) (zip xs ys)

pub made_row : (op : ℕ → ℕ → ℕ) (f : Bool → Bool → Bool) → DoesBits op f → (n m : ℕ) (ws vs us : List ℕ) → n ≡ m → length ws ≡ length vs → AreMade op ws vs us → bits_of n us ≡ at_each f (bits_of n ws) (bits_of m vs)
made_row op f d n m ws vs us same e o = subst (λ k. bits_of n us ≡ at_each f (bits_of n ws) (bits_of k vs)) same (row_is n us (at_each f (bits_of n ws) (bits_of n vs)) long each)
  where
    zips : List (Bool × Bool)
    zips = zip (bits_of n ws) (bits_of n vs)

    of_pair : Bool × Bool → Bool
    of_pair p = f p.0 p.1

    zipped : length zips ≡ n
    zipped = let a = length-bits_of n ws in let b = length-bits_of n vs in omega (arith, length-zip (bits_of n ws) (bits_of n vs))

    long : length (at_each f (bits_of n ws) (bits_of n vs)) ≡ n
    long = length-map zips of_pair ∙ zipped

    each : (i : ℕ) → i < n → bit_of us i ≡ get_or (at_each f (bits_of n ws) (bits_of n vs)) i false
    each i h =
        made_bit op f d ws vs us e o i
        ∙ sym (get_or-map of_pair zips i (false, false) false (rw zipped h)
        ∙ (ap of_pair (get_or-zip (bits_of n ws) (bits_of n vs) i (false, false) (rw (length-bits_of n ws) h) (rw (length-bits_of n vs) h))
        ∙ (ap (λ x. f x (get_or (bits_of n vs) i false)) (get_or-bits_of n ws i false h)
        ∙ ap (λ x. f (bit_of ws i) x) (get_or-bits_of n vs i false h))))

pub made_packed : (op : ℕ → ℕ → ℕ) (f : Bool → Bool → Bool) → DoesBits op f → (n m : ℕ) (ws vs us : List ℕ) → n ≡ m → IsPacked n ws → IsPacked m vs → AreMade op ws vs us → IsPacked n us
made_packed op f d n m ws vs us same p q o = record {
  enough = rw o.0 p.enough;
  no_more = rw o.0 p.no_more;
  clear_past = λ i l. made_bit op f d ws vs us (same_count n m ws vs p q same) o i ∙ (rw (p.clear_past i l, q.clear_past i (subst (λ k. k ≤ i) same l)) d.none);
}

-- the bit j of the word k stands at its place
word_bit : (ws : List ℕ) (k j : ℕ) → j < 64 → bit_of ws (k * 64 + j) ≡ nat_eq (bit_at (get_or ws k 0) j) 1
word_bit ws k j l = rw (div-mul-add k 64 j l, mod-mul-add k 64 j l) refl

-- the word k of a row has its bits from 64 k on
pub word_of_row : (n : ℕ) (ws : List ℕ) (k w : ℕ) → IsPacked n ws → w ≡ get_or ws k 0 → (j : ℕ) → j < 64 → (bit_at w j ≡ 1) ↔ (slice_get (bits_of n ws) (k * 64 + j) ≡ Some true)
word_of_row n ws k w p is j l = (set_there, there_set)
  where
    set_there : bit_at w j ≡ 1 → slice_get (bits_of n ws) (k * 64 + j) ≡ Some true
    set_there one =
        let is_set : bit_of ws (k * 64 + j) ≡ true = word_bit ws k j l ∙ eq-eqb _ 1 (ap (λ x. bit_at x j) (sym is) ∙ one) in
        ⊎_elim (λ h. slice_get-bits_of n ws (k * 64 + j) h ∙ ap Some is_set) (λ ge. absurd (both_ways _ (p.clear_past (k * 64 + j) ge) is_set)) (cases_lt (k * 64 + j) n)

    there_set : slice_get (bits_of n ws) (k * 64 + j) ≡ Some true → bit_at w j ≡ 1
    there_set h =
        let in_range : k * 64 + j < n = subst (λ m. k * 64 + j < m) (length-bits_of n ws) (slice_get_within (bits_of n ws) (k * 64 + j) true h) in
        let is_set : bit_of ws (k * 64 + j) ≡ true = (let e = sym (slice_get-bits_of n ws (k * 64 + j) in_range) ∙ h in cc) in
        ap (λ x. bit_at x j) is ∙ eqb-true _ 1 (sym (word_bit ws k j l) ∙ is_set)

-- ---- within

pub within_of_words : (n m : ℕ) (ws vs : List ℕ) → n ≡ m → IsPacked n ws → ((k j : ℕ) → k < length ws → j < 64 → bit_at (get_or ws k 0) j ≡ 1 → bit_at (get_or vs k 0) j ≡ 1) → IsSubset (bits_of n ws) (bits_of m vs)
within_of_words n m ws vs same p f = record { each = λ i h. go i h (subst (λ k. i < k) (length-bits_of n ws) (slice_get_within (bits_of n ws) i true h)) }
  where
    go : (i : ℕ) → slice_get (bits_of n ws) i ≡ Some true → i < n → slice_get (bits_of m vs) i ≡ Some true
    go i h l =
        let is_set : bit_of ws i ≡ true = (let e = sym (slice_get-bits_of n ws i l) ∙ h in cc) in
        let one = f (i / 64) (i % 64) (word_there n ws i p l) (omega arith) (eqb-true _ 1 is_set) in
        slice_get-bits_of m vs i (subst (λ k. i < k) same l) ∙ ap Some (eq-eqb _ 1 one)

pub words_of_within : (n m : ℕ) (ws vs : List ℕ) → n ≡ m → IsPacked n ws → IsSubset (bits_of n ws) (bits_of m vs) → (k j : ℕ) → k < length ws → j < 64 → bit_at (get_or ws k 0) j ≡ 1 → bit_at (get_or vs k 0) j ≡ 1
words_of_within n m ws vs same p w k j in_range l one = ⊎_elim inside past (cases_lt (k * 64 + j) n)
  where
    is_set : bit_of ws (k * 64 + j) ≡ true
    is_set = word_bit ws k j l ∙ eq-eqb _ 1 one

    past : n ≤ k * 64 + j → bit_at (get_or vs k 0) j ≡ 1
    past ge = let e = p.clear_past (k * 64 + j) ge in absurd (both_ways _ e is_set)

    inside : k * 64 + j < n → bit_at (get_or vs k 0) j ≡ 1
    inside h =
        let there = w.each (k * 64 + j) (slice_get-bits_of n ws (k * 64 + j) h ∙ ap Some is_set) in
        let e : bit_of vs (k * 64 + j) ≡ true = (let f = sym (slice_get-bits_of m vs (k * 64 + j) (subst (λ x. k * 64 + j < x) same h)) ∙ there in cc) in
        eqb-true _ 1 (sym (word_bit vs k j l) ∙ e)

-- ---- equal

pub row_of_words : (n m : ℕ) (ws vs : List ℕ) → n ≡ m → IsPacked n ws → ((k j : ℕ) → k < length ws → j < 64 → bit_at (get_or ws k 0) j ≡ bit_at (get_or vs k 0) j) → bits_of n ws ≡ bits_of m vs
row_of_words n m ws vs same p f =
    row_is n ws (bits_of m vs) (length-bits_of m vs ∙ sym same) (λ i h.
    ap (λ x. nat_eq x 1) (f (i / 64) (i % 64) (word_there n ws i p h) (omega arith)) ∙ sym (get_or-bits_of m vs i false (subst (λ k. i < k) same h)))

same_bit : (a b : ℕ) → a < 2 → b < 2 → nat_eq a 1 ≡ nat_eq b 1 → a ≡ b
same_bit zero zero _ _ _ = refl
same_bit (suc zero) (suc zero) _ _ _ = refl
same_bit zero (suc zero) _ _ e = absurd (cc)
same_bit (suc zero) zero _ _ e = absurd (cc)
same_bit (suc (suc a)) b h _ _ = absurd (omega (arith, h))
same_bit zero (suc (suc b)) _ h _ = absurd (omega (arith, h))
same_bit (suc zero) (suc (suc b)) _ h _ = absurd (omega (arith, h))

pub words_of_row : (n m : ℕ) (ws vs : List ℕ) → n ≡ m → IsPacked n ws → IsPacked m vs → bits_of n ws ≡ bits_of m vs → (k j : ℕ) → k < length ws → j < 64 → bit_at (get_or ws k 0) j ≡ bit_at (get_or vs k 0) j
words_of_row n m ws vs same p q e k j in_range l =
    same_bit _ _ (bit_at-lt (get_or ws k 0) j) (bit_at-lt (get_or vs k 0) j)
    (sym (word_bit ws k j l) ∙ (⊎_elim inside past (cases_lt (k * 64 + j) n) ∙ word_bit vs k j l))
  where
    inside : k * 64 + j < n → bit_of ws (k * 64 + j) ≡ bit_of vs (k * 64 + j)
    inside h = sym (get_or-bits_of n ws (k * 64 + j) false h) ∙ (ap (λ xs. get_or xs (k * 64 + j) false) e ∙ get_or-bits_of m vs (k * 64 + j) false (subst (λ x. k * 64 + j < x) same h))

    past : n ≤ k * 64 + j → bit_of ws (k * 64 + j) ≡ bit_of vs (k * 64 + j)
    past ge = p.clear_past (k * 64 + j) ge ∙ sym (q.clear_past (k * 64 + j) (subst (λ x. x ≤ k * 64 + j) same ge))

-- ---- the first difference

-- two rows from the first bit on are the same before a place
abbrev pub AreSameBefore : List Bool → List Bool → ℕ → Type 0
AreSameBefore xs ys k = (i : ℕ) → i < k → slice_get xs i ≡ slice_get ys i

same_at : (n m : ℕ) (ws vs : List ℕ) → n ≡ m → (i : ℕ) → bit_of ws i ≡ bit_of vs i → slice_get (bits_of n ws) i ≡ slice_get (bits_of m vs) i
same_at n m ws vs same i e = ⊎_elim inside past (cases_lt i n)
  where
    inside : i < n → slice_get (bits_of n ws) i ≡ slice_get (bits_of m vs) i
    inside h = slice_get-bits_of n ws i h ∙ (ap Some e ∙ sym (slice_get-bits_of m vs i (subst (λ x. i < x) same h)))

    past : n ≤ i → slice_get (bits_of n ws) i ≡ slice_get (bits_of m vs) i
    past h =
        slice_get_past (bits_of n ws) i (subst (λ x. x ≤ i) (sym (length-bits_of n ws)) h)
        ∙ sym (slice_get_past (bits_of m vs) i (subst (λ x. x ≤ i) (same ∙ sym (length-bits_of m vs)) h))

-- one more word that is the same
pub same_word_more : (n m : ℕ) (ws vs : List ℕ) → n ≡ m → (k : ℕ) → get_or ws k 0 ≡ get_or vs k 0 → AreSameBefore (bits_of n ws) (bits_of m vs) (k * 64) → AreSameBefore (bits_of n ws) (bits_of m vs) ((k + 1) * 64)
same_word_more n m ws vs same k e before i h = ⊎_elim (before i) here (cases_lt i (k * 64))
  where
    here : k * 64 ≤ i → slice_get (bits_of n ws) i ≡ slice_get (bits_of m vs) i
    here ge =
        let f : i / 64 ≡ k = omega arith in
        same_at n m ws vs same i (
        ap (λ x. nat_eq (bit_at (get_or ws x 0) (i % 64)) 1) f
        ∙ (ap (λ w. nat_eq (bit_at w (i % 64)) 1) e
        ∙ ap (λ x. nat_eq (bit_at (get_or vs x 0) (i % 64)) 1) (sym f))
        )

-- rows that are the same before their end are one
pub same_rows : (xs ys : List Bool) (k : ℕ) → length xs ≡ length ys → length xs ≤ k → AreSameBefore xs ys k → xs ≡ ys
same_rows xs ys k e le before =
    ext_get_or false xs ys e (λ i h.
    sym (unwrap_or-slice_get xs i false) ∙ (ap (λ o. unwrap_or o false) (before i (omega arith)) ∙ unwrap_or-slice_get ys i false))

-- a bit in which two words at one place differ
module _ (n m : ℕ) (ws vs : List ℕ) (same : n ≡ m) (p : IsPacked n ws) (q : IsPacked m vs) (k j : ℕ) (l : j < 64) (differ : bit_at (get_or ws k 0) j ≢ bit_at (get_or vs k 0) j) where
  apart : bit_of ws (k * 64 + j) ≢ bit_of vs (k * 64 + j)
  apart e = differ (same_bit _ _ (bit_at-lt (get_or ws k 0) j) (bit_at-lt (get_or vs k 0) j) (sym (word_bit ws k j l) ∙ (e ∙ word_bit vs k j l)))

  -- it is a bit of the rows
  pub difference_in_row : k * 64 + j < n
  difference_in_row = ⊎_elim (λ h. h) (λ ge. absurd (apart (p.clear_past _ ge ∙ sym (q.clear_past _ (subst (λ x. x ≤ k * 64 + j) same ge))))) (cases_lt (k * 64 + j) n)

  bits_differ : slice_get (bits_of n ws) (k * 64 + j) ≢ slice_get (bits_of m vs) (k * 64 + j)
  bits_differ e =
      let one = slice_get-bits_of n ws (k * 64 + j) difference_in_row in
      let other = slice_get-bits_of m vs (k * 64 + j) (subst (λ x. k * 64 + j < x) same difference_in_row) in
      apart (cc)

  -- the first, where the rows are the same before the word, and the words before the bit
  pub difference_is_first : AreSameBefore (bits_of n ws) (bits_of m vs) (k * 64) → ((i : ℕ) → i < j → bit_at (get_or ws k 0) i ≡ bit_at (get_or vs k 0) i) → DifferFirst (bits_of n ws) (bits_of m vs) (k * 64 + j)
  difference_is_first before bits = record {
    in_range = rw (length-bits_of n ws) difference_in_row;
    differ = bits_differ;
    same_before = λ i h. ⊎_elim (before i) (here i h) (cases_lt i (k * 64));
  }
    where
      here : (i : ℕ) → i < k * 64 + j → k * 64 ≤ i → slice_get (bits_of n ws) i ≡ slice_get (bits_of m vs) i
      here i h ge =
          let e : i / 64 ≡ k = omega arith in
          let lt : i % 64 < j = omega arith in
          same_at n m ws vs same i (
          ap (λ x. nat_eq (bit_at (get_or ws x 0) (i % 64)) 1) e
          ∙ (ap (λ b. nat_eq b 1) (bits (i % 64) lt)
          ∙ ap (λ x. nat_eq (bit_at (get_or vs x 0) (i % 64)) 1) (sym e))
          )
