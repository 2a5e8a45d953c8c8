-- Words of atoms that are added, and of atoms that are surely deleted.
use Rattle.std.proofs.Common.{◌≡◌, ⊎_elim, ◌<◌, ◌+◌, ◌/◌, ◌%◌, ℕ, zero, suc, Bool, true, false, not, ◌&&◌, ◌||◌, List, [], ◌∷◌, ◌++◌, length, take, replicate, get_or, nat_eq, nat_lt, inl, inr, refl, sym, ap, ◌∙◌, arith}
use Rattle.std.proofs.lemmas.Bool.{and_parts, and_from, or_cases, or_left, or_right, not-true, false≢true, false_from_ne_true, lt-ltb, eqb-true, eq-eqb, cases_lt}
use Rattle.std.proofs.lemmas.List.{get_or-replicate, length-replicate, get_or_past}
use Rattle.std.proofs.lemmas.List.Folds.{list_all_more, list_any-append}
use Rattle.std.proofs.lemmas.Nat.Bits.{bit_at-lt, bit_at-zero}
use Rattle.std.specs.Int.{bit_at}
use Rattle.std.specs.List.{list_any}
use Rattle.kp_base.specs.declared.lit.Lit.{Lit}
use Rattle.kp_base.specs.declared.ground.Effect.{Effect}
use Rattle.kp_base.specs.declared.ground.Action.{Action}
use Rattle.kp_base.specs.Implicates.{is_within}
use Rattle.kp_base.specs.Planning.{Member, positive, negative, same_lit, Pairs, are_compatible, compatible_effects, firing_with}
use Rattle.kp_base.specs.Lit.{has}
use Rattle.kp_base.proofs.Lists.{all_member, all_weaker, any_weaker, any_from, any_member}
use Rattle.kp_bits.specs.Packed.{bit_in}
use Rattle.kp_clash_exclusive.specs.Settled.{deletes_within, keeps_apart}
use Rattle.kp_clash_exclusive.specs.Left.{KeepsBits, is_added, all_added, AreDeleted}
use Rattle.kp_clash_exclusive.specs.Removed.{breaks, adds_pair, BreaksNone}
use Rattle.kp_clash_exclusive.proofs.Greatest.{is_lit}

-- a bit that isn't set
clear_bit : (b : ℕ) → b < 2 → (b ≡ 1 → ⊥) → b ≡ 0
clear_bit zero h n = refl
clear_bit (suc zero) h n = absurd (n refl)
clear_bit (suc (suc b)) h n = absurd (omega (arith, h))

-- ---- atoms that are added

stay_added : (old new : List ℕ) (es : List Effect) → KeepsBits old new → all_added old es ≡ true → all_added new es ≡ true
stay_added old new es keeps = all_weaker (is_added old) (is_added new) es (λ e _. by e.result.atom.0 (not e.result.positive) (not (nat_lt e.result.atom.0 65536)))
  where
    by : (q : ℕ) (s t : Bool) → (s || (t || nat_eq (bit_in old q) 1)) ≡ true → (s || (t || nat_eq (bit_in new q) 1)) ≡ true
    by q true t h = refl
    by q false true h = refl
    by q false false h = eq-eqb (bit_in new q) 1 (keeps q (eqb-true (bit_in old q) 1 h))

pub added_more : (old new : List ℕ) (es : List Effect) (i : ℕ) (d : Effect) → i < length es → KeepsBits old new → d ≡ get_or es i d → is_added new d ≡ true → all_added old (take i es) ≡ true → all_added new (take (i + 1) es) ≡ true
added_more old new es i d below keeps is here h = rw (list_all_more (is_added new) es i d below) (and_from (all_added new (take i es)) (is_added new (get_or es i d)) (stay_added old new (take i es) keeps h) (ap (is_added new) (sym is) ∙ here))

-- where no pair of its atom is with an atom that is added, the effect adds no pair with another
pub adds_none : (pairs : Pairs) (words : List ℕ) (a : Action) (e : Effect) → all_added words a.effects ≡ true → ((q : ℕ) → pairs e.result.atom.0 q ≡ true → (q < 65536) × (bit_in words q ≡ 0)) → list_any (adds_pair pairs a e) a.effects ≡ false
adds_none pairs words a e added apart = false_from_ne_true (list_any (adds_pair pairs a e) a.effects) (λ h.
    let x = any_member (adds_pair pairs a e) a.effects h in
    let sign = and_parts e.result.positive (x.0.result.positive && pairs e.result.atom.0 x.0.result.atom.0) (and_parts (e.result.positive && (x.0.result.positive && pairs e.result.atom.0 x.0.result.atom.0)) (compatible_effects pairs a e x.0) x.2).0 in
    let both = and_parts x.0.result.positive (pairs e.result.atom.0 x.0.result.atom.0) sign.1 in
    let few = (apart x.0.result.atom.0 both.1).0 in
    let none = (apart x.0.result.atom.0 both.1).1 in
    elim (or_cases (not x.0.result.positive) (not (nat_lt x.0.result.atom.0 65536) || nat_eq (bit_in words x.0.result.atom.0) 1) (all_member (is_added words) a.effects x.0 x.1 added)) [
      | inl n ↦ false≢true (ap not (sym both.0) ∙ n)
      | inr r ↦ elim (or_cases (not (nat_lt x.0.result.atom.0 65536)) (nat_eq (bit_in words x.0.result.atom.0) 1) r) [
        | inl n ↦ false≢true (ap not (sym (lt-ltb x.0.result.atom.0 65536 few)) ∙ n)
        | inr t ↦ let one = eqb-true (bit_in words x.0.result.atom.0) 1 t in omega (arith, one, none)
      ]
    ])

-- a delete adds no pair with another effect
pub delete_adds_none : (pairs : Pairs) (a : Action) (e : Effect) → e.result.positive ≡ false → list_any (adds_pair pairs a e) a.effects ≡ false
delete_adds_none pairs a e sign = false_from_ne_true (list_any (adds_pair pairs a e) a.effects) (λ h.
    let x = any_member (adds_pair pairs a e) a.effects h in
    let both = and_parts (e.result.positive && (x.0.result.positive && pairs e.result.atom.0 x.0.result.atom.0)) (compatible_effects pairs a e x.0) x.2 in
    false≢true (sym sign ∙ (and_parts e.result.positive (x.0.result.positive && pairs e.result.atom.0 x.0.result.atom.0) both.0).0))

-- nor does it break one alone
pub delete_breaks_none : (pairs : Pairs) (a : Action) (e : Effect) → e.result.positive ≡ false → BreaksNone pairs a e
delete_breaks_none pairs a e sign = record {
  alone = λ q. ap (λ b. b && (pairs e.result.atom.0 q && not (keeps_apart pairs e.result.atom.0 q a e))) sign;
  together = delete_adds_none pairs a e sign;
}

-- nor does an effect whose atom no pair has
pub alone_breaks_none : (pairs : Pairs) (a : Action) (e : Effect) → ((q : ℕ) → pairs e.result.atom.0 q ≡ false) → BreaksNone pairs a e
alone_breaks_none pairs a e none = record {
  alone = λ q. false_from_ne_true (breaks pairs a e q) (λ h.
      let both = and_parts e.result.positive (pairs e.result.atom.0 q && not (keeps_apart pairs e.result.atom.0 q a e)) h in
      false≢true (sym (none q) ∙ (and_parts (pairs e.result.atom.0 q) (not (keeps_apart pairs e.result.atom.0 q a e)) both.1).0));
  together = false_from_ne_true (list_any (adds_pair pairs a e) a.effects) (λ h.
      let x = any_member (adds_pair pairs a e) a.effects h in
      let both = and_parts (e.result.positive && (x.0.result.positive && pairs e.result.atom.0 x.0.result.atom.0)) (compatible_effects pairs a e x.0) x.2 in
      let adds = and_parts e.result.positive (x.0.result.positive && pairs e.result.atom.0 x.0.result.atom.0) both.0 in
      false≢true (sym (none x.0.result.atom.0) ∙ (and_parts x.0.result.positive (pairs e.result.atom.0 x.0.result.atom.0) adds.1).1));
}

-- ---- atoms that are surely deleted

-- at first no bit is set
pub none_set : (n q : ℕ) → bit_in (replicate n 0) q ≡ 1 → ⊥
none_set n q one = let none : bit_in (replicate n 0) q ≡ 0 = ap (λ w. bit_at w (q % 64)) word ∙ bit_at-zero (q % 64) in omega (arith, one, none)
  where
    word : get_or (replicate n zero) (q / 64) zero ≡ zero
    word = ⊎_elim (λ l. get_or-replicate n (q / 64) zero zero l) (λ ge. get_or_past (replicate n zero) (q / 64) zero (rw (length-replicate n zero) ge)) (cases_lt (q / 64) n)

pub surely_deletes : (a : Action) (e : Effect) → Member a.effects e → (not e.result.positive && is_within e.cond a.pre) ≡ true → deletes_within a e.result.atom.0 a.pre ≡ true
surely_deletes a e m h =
    let x = and_parts (not e.result.positive) (is_within e.cond a.pre) h in
    any_from (λ d. same_lit d.result (negative e.result.atom.0) && is_within d.cond a.pre) a.effects e m (and_from (same_lit e.result (negative e.result.atom.0)) (is_within e.cond a.pre) (is_lit e.result (negative e.result.atom.0) (ap (λ b. record { atom = e.result.atom; positive = b }) (not-true e.result.positive x.0))) x.1)

-- with the precondition, so with more
deletes_more : (a : Action) (q : ℕ) (more : List Lit) → deletes_within a q a.pre ≡ true → deletes_within a q (a.pre ++ more) ≡ true
deletes_more a q more = any_weaker (λ d. same_lit d.result (negative q) && is_within d.cond a.pre) (λ d. same_lit d.result (negative q) && is_within d.cond (a.pre ++ more)) a.effects (λ d _ h.
    let x = and_parts (same_lit d.result (negative q)) (is_within d.cond a.pre) h in
    and_from (same_lit d.result (negative q)) (is_within d.cond (a.pre ++ more)) x.0 (all_weaker (has a.pre) (has (a.pre ++ more)) d.cond (λ l _ k. list_any-append (same_lit l) a.pre more ∙ or_left (has a.pre l) (has more l) k) x.1))

-- an effect breaks no pair with an atom that is surely deleted
pub breaks_kept : (pairs : Pairs) (words : List ℕ) (a : Action) (e : Effect) (q : ℕ) → AreDeleted words a → breaks pairs a e q ≡ true → bit_in words q ≡ 0
breaks_kept pairs words a e q sure h = clear_bit (bit_in words q) (bit_at-lt (get_or words (q / 64) 0) (q % 64)) (λ one.
    let apart : keeps_apart pairs e.result.atom.0 q a e ≡ true = or_right (not (same_lit e.result (positive e.result.atom.0))) (not (are_compatible pairs (firing_with a e q)) || deletes_within a q (firing_with a e q)) (or_right (not (are_compatible pairs (firing_with a e q))) (deletes_within a q (firing_with a e q)) (deletes_more a q (e.cond ++ positive q ∷ []) (sure q one))) in
    let y = and_parts (pairs e.result.atom.0 q) (not (keeps_apart pairs e.result.atom.0 q a e)) (and_parts e.result.positive (pairs e.result.atom.0 q && not (keeps_apart pairs e.result.atom.0 q a e)) h).1 in
    false≢true (sym (not-true (keeps_apart pairs e.result.atom.0 q a e) y.1) ∙ apart))
