-- The pairs that prime implicates deny are those that no initial state has together, and what is left of them in the end is the exclusive pairs.
use Rattle.std.proofs.Common.{◌≡◌, ◌⊎◌, ◌<◌, ◌*◌, ℕ, zero, suc, Bool, true, false, not, ◌&&◌, ◌||◌, List, [], ◌∷◌, length, replicate, get_or, nat_lt, inl, inr, refl, sym, ap, ◌∙◌, arith}
use Rattle.std.proofs.lemmas.Bool.{and_parts, or_cases, false≢true, false_from_ne_true, not-true, lt-ltb}
use Rattle.std.proofs.lemmas.List.{length-replicate}
use Rattle.std.specs.List.{list_any, list_all}
use Rattle.kp_base.specs.declared.lit.Lit.{Lit}
use Rattle.kp_base.specs.declared.ground.Ground.{Ground}
use Rattle.kp_base.specs.declared.ground.Initial.{Initial}
use Rattle.kp_base.specs.Planning.{Member, negated, IsImplicate, is_tautology, State, holds, is_model, Pairs, ArePairs, IsPart, AreExclusive, IsInductive}
use Rattle.kp_base.specs.Steps.{has}
use Rattle.kp_base.proofs.Lists.{all_member, all_from, any_member}
use Rattle.kp_primes.specs.Held.{Held, formula, AreWhole}
use Rattle.kp_clash_exclusive.specs.Paired.{is_pair, words_of, place_of, is_marked, IsSquare}
use Rattle.kp_clash_exclusive.specs.Starting.{not_both, denies, denied, IsMarkedWith}
use Rattle.kp_clash.specs.Settling.{AreNeverTogether, IsSettled}
use Rattle.kp_clash_exclusive.proofs.Public.{settled_exclusive, pair_turned, inductive_kept, marked_are_two_below, literal_of_a_denied_pair}

-- ---- the start

-- no bit is set at first
none_set : (k i : ℕ) → get_or (replicate k false) i false ≡ false
none_set zero i = refl
none_set (suc k) zero = refl
none_set (suc k) (suc i) = none_set k i

none_marked : (n r s : ℕ) → is_marked n (replicate (n * (words_of n * 64)) false) r s ≡ false
none_marked n r s = false_from_ne_true (is_marked n (replicate (n * (words_of n * 64)) false) r s) (λ h.
    false≢true (sym (none_set (n * (words_of n * 64)) (place_of n r s)) ∙ (and_parts (nat_lt s n) _ (and_parts (nat_lt r n) _ h).1).1))

-- a table of zeros marks nothing
pub square_at_first : (n : ℕ) → n * (words_of n * 64) < 4294967296 → IsSquare n (replicate (n * (words_of n * 64)) false)
square_at_first n h = record {
  square = length-replicate (n * (words_of n * 64)) false;
  counted = h;
  either_order = λ p q. none_marked n p q ∙ sym (none_marked n q p);
  only = λ p q _ _ m. absurd (false≢true (sym (none_set (n * (words_of n * 64)) (place_of n p q)) ∙ m));
}

-- each clause has a literal, since some state satisfies it
pub none_empty : (h : Held) → AreWhole h → list_all (λ c. nat_lt 0 (length c)) h.clauses ≡ true
none_empty h w = all_from (λ c. nat_lt 0 (length c)) h.clauses (λ c m. some c (all_member (list_any (holds w.has_model.state)) h.clauses c m (and_parts (list_all (list_any (holds w.has_model.state)) h.clauses) true w.has_model.model).0))
  where
    some : (c : List Lit) → list_any (holds w.has_model.state) c ≡ true → nat_lt 0 (length c) ≡ true
    some [] e = absurd (false≢true e)
    some (l ∷ c) e = lt-ltb 0 (length (l ∷ c)) (omega arith)

-- a clause that denies a pair is false where both are true
denied_false : (c : List Lit) (p q : ℕ) → denies c p q ≡ true → (s : State) → list_any (holds s) c ≡ true → (s p && s q) ≡ false
denied_false c p q d s h =
    let x = any_member (holds s) c h in
    let y = literal_of_a_denied_pair x.0 p q (all_member (has (not_both p q)) c x.0 x.1 d) in
    one (s p) (s q) (elim y.1 [
      | inl e ↦ inl (false_at x.0 y.0 x.2 p e)
      | inr e ↦ inr (false_at x.0 y.0 x.2 q e)
    ])
  where
    false_at : (l : Lit) → l.positive ≡ false → holds s l ≡ true → (r : ℕ) → l.atom.0 ≡ r → s r ≡ false
    false_at l n t r e = not-true (s r) (ap (λ k. not (s k)) (sym e) ∙ (ap (λ b. holds s (record { atom = l.atom; positive = b })) (sym n) ∙ t))

    one : (a b : Bool) → (a ≡ false) ⊎ (b ≡ false) → (a && b) ≡ false
    one a b (inl e) = ap (λ x. x && b) e
    one true b (inr e) = e
    one false b (inr e) = refl

-- a clause that denies a pair which no model has together is an implicate
is_implicate : (i : Initial) (p q : ℕ) → ((s : State) → is_model i s ≡ true → (s p && s q) ≡ false) → IsImplicate i (not_both p q)
is_implicate i p q never = record {
  proper = false_from_ne_true (is_tautology (not_both p q)) (λ h.
      let x = any_member (λ l. has (not_both p q) (negated l)) (not_both p q) h in
      opposed x.0 x.1 (literal_of_a_denied_pair (negated x.0) p q x.2).0);
  holds_always = λ s model. deny (s p) (s q) (never s model);
}
  where
    opposed : (l : Lit) → Member (not_both p q) l → not l.positive ≡ false → ⊥
    opposed l m n = elim m [
      | inl e ↦ false≢true (sym n ∙ ap (λ k. not k.positive) (sym e))
      | inr r ↦ elim r [ inl e ↦ false≢true (sym n ∙ ap (λ k. not k.positive) (sym e)) | inr z ↦ absurd z ]
    ]

    deny : (a b : Bool) → (a && b) ≡ false → (not a || (not b || false)) ≡ true
    deny true true e = absurd (false≢true (sym e))
    deny true false e = refl
    deny false b e = refl

-- so what is marked is just the pairs that are never together
pub never_together : (h : Held) → AreWhole h → (n : ℕ) (bits : List Bool) → IsMarkedWith n (denied h.clauses) (replicate (n * (words_of n * 64)) false) bits → (pairs : Pairs) → ((p q : ℕ) → pairs p q ≡ is_marked n bits p q) → ((p q : ℕ) → pairs p q ≡ pairs q p) → AreNeverTogether (formula h) n pairs
never_together h w n bits m pairs same turned = record {
  are_pairs = record {
    of_atoms = λ p q k. (marked_are_two_below n bits m.square p q (sym (same p q) ∙ k)).1;
    different = λ p q k. (marked_are_two_below n bits m.square p q (sym (same p q) ∙ k)).0;
    either_order = λ p q k. turned q p ∙ k;
  };
  never = λ p q k s model.
      let x = any_member (λ c. denies c p q) h.clauses (by_clauses p q k) in
      denied_false x.0 p q x.2 s (all_member (list_any (holds s)) h.clauses x.0 x.1 (and_parts (list_all (list_any (holds s)) h.clauses) true model).0);
  all = λ p q below below_too ne k. same p q ∙ m.full p q below below_too ne (w.covers (not_both p q) (is_implicate (formula h) p q k));
}
  where
    by_clauses : (p q : ℕ) → pairs p q ≡ true → denied h.clauses p q ≡ true
    by_clauses p q k = elim (or_cases (is_marked n (replicate (n * (words_of n * 64)) false) p q) (denied h.clauses p q) (m.sound p q (sym (same p q) ∙ k))) [
      | inl e ↦ absurd (false≢true (sym (none_marked n p q) ∙ e))
      | inr e ↦ e
    ]

-- ---- the end

pub left_exclusive : (g : Ground) (i : Initial) (atoms : ℕ) (start end : List (ℕ × ℕ)) → AreNeverTogether i atoms (is_pair start) → IsSettled g start end → AreExclusive g i atoms (is_pair end)
left_exclusive g i atoms start end f s = settled_exclusive g i atoms (is_pair end) are (λ p q h. f.never p q (s.shrinks.part p q h)) s.settled keeps
  where
    are : ArePairs atoms (is_pair end)
    are = record {
      of_atoms = λ p q h. f.are_pairs.of_atoms p q (s.shrinks.part p q h);
      different = λ p q h. f.are_pairs.different p q (s.shrinks.part p q h);
      either_order = λ p q h. pair_turned end q p ∙ h;
    }

    keeps : (some : Pairs) → IsInductive g i atoms some → IsPart some (is_pair end)
    keeps some ind = s.shrinks.keeps some (inductive_kept g i atoms some ind) (λ p q h. f.all p q (ind.are_pairs.of_atoms p q h) (ind.are_pairs.of_atoms q p (ind.are_pairs.either_order p q h)) (ind.are_pairs.different p q h) (ind.never_at_the_start p q h))
