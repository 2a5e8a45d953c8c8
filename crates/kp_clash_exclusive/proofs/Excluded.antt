-- Words of atoms that a precondition asks for.
use Rattle.std.proofs.Common.{◌≡◌, ◌<◌, ◌+◌, ℕ, Bool, true, false, not, ◌&&◌, ◌||◌, List, length, take, get_or, nat_eq, nat_lt, inl, inr, refl, sym, ap, ◌∙◌, arith}
use Rattle.std.proofs.lemmas.Bool.{and_parts, and_from, or_cases, false≢true, false_from_ne_true, lt-ltb, eqb-true, eq-eqb}
use Rattle.std.proofs.lemmas.List.Folds.{list_all_more}
use Rattle.std.specs.List.{list_any}
use Rattle.kp_base.specs.declared.lit.Lit.{Lit}
use Rattle.kp_base.specs.Lists.{Member}
use Rattle.kp_base.specs.Lit.{positive, negative, negated, same_lit, has}
use Rattle.kp_base.specs.Clashes.{Pairs, are_exclusive}
use Rattle.kp_base.proofs.Lists.{all_member, all_weaker, any_member}
use Rattle.kp_base.proofs.Lits.{same_lit-true, same_lit-negated, has-member}
use Rattle.kp_bits.specs.Packed.{bit_in}
use Rattle.kp_clash_exclusive.specs.Left.{KeepsBits, is_asked, all_asked}

stay_asked : (old new : List ℕ) (ls : List Lit) → KeepsBits old new → all_asked old ls ≡ true → all_asked new ls ≡ true
stay_asked old new ls keeps = all_weaker (is_asked old) (is_asked new) ls (λ l _. by l.atom.0 (not l.positive) (not (nat_lt l.atom.0 65536)))
  where
    by : (q : ℕ) (s t : Bool) → (s || (t || nat_eq (bit_in old q) 1)) ≡ true → (s || (t || nat_eq (bit_in new q) 1)) ≡ true
    by q true t h = refl
    by q false true h = refl
    by q false false h = eq-eqb (bit_in new q) 1 (keeps q (eqb-true (bit_in old q) 1 h))

pub asked_more : (old new : List ℕ) (ls : List Lit) (i : ℕ) (d : Lit) → i < length ls → KeepsBits old new → is_asked new (get_or ls i d) ≡ true → all_asked old (take i ls) ≡ true → all_asked new (take (i + 1) ls) ≡ true
asked_more old new ls i d below keeps here h = rw (list_all_more (is_asked new) ls i d below) (and_from (all_asked new (take i ls)) (is_asked new (get_or ls i d)) (stay_asked old new (take i ls) keeps h) here)

-- where the atom is a pair with none that is asked for, and its negation isn't asked for, no literal excludes it
pub asked_free : (pairs : Pairs) → ((p q : ℕ) → pairs p q ≡ pairs q p) → (words : List ℕ) (ls : List Lit) (q : ℕ) → all_asked words ls ≡ true → ((p : ℕ) → pairs q p ≡ true → (p < 65536) × (bit_in words p ≡ 0)) → has ls (negative q) ≡ false → list_any (λ l. are_exclusive pairs l (positive q)) ls ≡ false
asked_free pairs turn words ls q asked apart none = false_from_ne_true (list_any (λ l. are_exclusive pairs l (positive q)) ls) (λ h.
    let x = any_member (λ l. are_exclusive pairs l (positive q)) ls h in
    elim (or_cases (same_lit (negated x.0) (positive q)) (x.0.positive && true && pairs x.0.atom.0 q) x.2) [
      | inl e ↦ opposed x.0 x.1 (sym (same_lit-negated x.0 (positive q)) ∙ e)
      | inr e ↦
          let y = and_parts (x.0.positive && true) (pairs x.0.atom.0 q) e in
          let sign = (and_parts x.0.positive true y.0).0 in
          let far = apart x.0.atom.0 (turn q x.0.atom.0 ∙ y.1) in
          elim (or_cases (not x.0.positive) (not (nat_lt x.0.atom.0 65536) || nat_eq (bit_in words x.0.atom.0) 1) (all_member (is_asked words) ls x.0 x.1 asked)) [
            | inl n ↦ false≢true (ap not (sym sign) ∙ n)
            | inr r ↦ elim (or_cases (not (nat_lt x.0.atom.0 65536)) (nat_eq (bit_in words x.0.atom.0) 1) r) [
              | inl n ↦ false≢true (ap not (sym (lt-ltb x.0.atom.0 65536 far.0)) ∙ n)
              | inr t ↦ let one = eqb-true (bit_in words x.0.atom.0) 1 t in let zero = far.1 in omega (arith, one, zero)
            ]
          ]
    ])
  where
    opposed : (l : Lit) → Member ls l → same_lit l (negative q) ≡ true → ⊥
    opposed l m e = let is : l ≡ negative q = same_lit-true l (negative q) e in false≢true (sym none ∙ has-member ls (negative q) (rw (sym is) m))
