-- Closing marks, one number after another. By it `kp_law_decidable` has that there is a list of pairs; the code closes row by
-- row (`Searching`).
use Rattle.std.proofs.Common.{◌≡◌, ◌<◌, ◌&&◌, ◌+◌, ◌⊎◌, ℕ, Bool, true, List, sym, ◌∙◌, inl, inr, subst, arith}
use Rattle.std.proofs.lemmas.Bool.{and_parts, and_from, or_cases, or_left, or_right, cases_eq}
use Rattle.kp_relevance.specs.Tabled.{marked, IsSquare, AddsMarks, through, Linked, AreClosed, Closes}

pub closes_none : (n : ℕ) (rows : List (List Bool)) → IsSquare n rows → Closes n 0 rows rows
closes_none n rows sq = record { square = sq; kept = λ j i hj hi h. h; closed = λ m j i lt. absurd (omega (arith, lt)); only = λ j i hj hi h. Linked.link j i hj hi h }

module _ (n k : ℕ) (old mid new : List (List Bool)) (lt : k < n) (c : Closes n k old mid) (a : AddsMarks n (through k mid) mid new) where
  stays : (j i : ℕ) → j < n → i < n → marked mid j i ≡ true → marked new j i ≡ true
  stays j i hj hi h = a.each j i hj hi ∙ or_left (marked mid j i) (marked mid j k && marked mid k i) h

  steps : (j i : ℕ) → j < n → i < n → marked mid j k ≡ true → marked mid k i ≡ true → marked new j i ≡ true
  steps j i hj hi h g = a.each j i hj hi ∙ or_right (marked mid j i) (marked mid j k && marked mid k i) (and_from (marked mid j k) (marked mid k i) h g)

  -- what is marked now was marked, or is marked through k
  was : (j i : ℕ) → j < n → i < n → marked new j i ≡ true → (marked mid j i ≡ true) ⊎ ((marked mid j k ≡ true) × (marked mid k i ≡ true))
  was j i hj hi h = elim (or_cases (marked mid j i) (marked mid j k && marked mid k i) (sym (a.each j i hj hi) ∙ h)) [
    | inl e ↦ inl e
    | inr e ↦ inr (and_parts (marked mid j k) (marked mid k i) e)
  ]

  to_k : (j : ℕ) → j < n → marked new j k ≡ true → marked mid j k ≡ true
  to_k j hj h = elim (was j k hj lt h) [ inl e ↦ e | inr e ↦ e.0 ]

  from_k : (i : ℕ) → i < n → marked new k i ≡ true → marked mid k i ≡ true
  from_k i hi h = elim (was k i lt hi h) [ inl e ↦ e | inr e ↦ e.1 ]

  closed_more : AreClosed n (k + 1) new
  closed_more m j i hm hmn hj hi h g = elim (cases_eq m k) [
    | inl e ↦ steps j i hj hi (to_k j hj (subst (λ z. marked new j z ≡ true) e h)) (from_k i hi (subst (λ z. marked new z i ≡ true) e g))
    | inr ne ↦
        let below : m < k = omega (arith, hm, ne) in
        elim (was j m hj hmn h) [
          | inl jm ↦ elim (was m i hmn hi g) [
            | inl mi ↦ stays j i hj hi (c.closed m j i below hmn hj hi jm mi)
            | inr mi ↦ steps j i hj hi (c.closed m j k below hmn hj lt jm mi.0) mi.1
          ]
          | inr jm ↦ elim (was m i hmn hi g) [
            | inl mi ↦ steps j i hj hi jm.0 (c.closed m k i below hmn lt hi jm.1 mi)
            | inr mi ↦ steps j i hj hi jm.0 mi.1
          ]
        ]
  ]

  pub closes_more : Closes n (k + 1) old new
  closes_more = record {
    square = a.square;
    kept = λ j i hj hi h. stays j i hj hi (c.kept j i hj hi h);
    closed = closed_more;
    only = λ j i hj hi h. elim (was j i hj hi h) [
      | inl e ↦ c.only j i hj hi e
      | inr e ↦ Linked.chain j k i (c.only j k hj lt e.0) (c.only k i lt hi e.1)
    ];
  }
