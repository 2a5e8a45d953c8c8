-- Effects that may be compatible with one.
use Rattle.std.proofs.Common.{◌≡◌, ◌≤◌, ◌<◌, ◌++◌, ◌↔◌, ℕ, zero, suc, Bool, true, false, not, ◌&&◌, ◌||◌, List, [], ◌∷◌, set, get_or, replicate, nat_eq, nat_lt, IsTrue, inl, inr, refl, sym, ap, subst, ◌∙◌}
use Rattle.std.proofs.lemmas.Bool.{and_parts, or_left, or_right, false≢true, false_from_ne_true, not-true, eqb-true, eq-eqb, le-ltb, lt-ltb, cases_lt}
use Rattle.std.specs.List.{list_any, list_all}
use Rattle.kp_base.specs.declared.lit.Lit.{Lit}
use Rattle.kp_base.specs.declared.ground.Effect.{Effect}
use Rattle.kp_base.specs.declared.ground.Action.{Action}
use Rattle.kp_base.specs.Lists.{Member}
use Rattle.kp_base.specs.Lit.{positive}
use Rattle.kp_base.specs.Clashes.{Pairs, are_exclusive, compatible_effects}
use Rattle.kp_base.proofs.Lists.{bool_same, all_member, all_from, any_member, member_left, member_right}
use Rattle.kp_bits.specs.Packed.{bit_in}
use Rattle.kp_clash_exclusive.specs.Left.{AreLeft, is_set, is_asked, all_asked}
use Rattle.kp_clash_exclusive.specs.Removed.{adds_pair}
use Rattle.kp_clash_exclusive.proofs.Small.{all_set}

-- at first all bits are set
pub left_first : (pairs : Pairs) (pre cs : List Lit) → AreLeft pairs pre cs (replicate 1024 18446744073709551615)
left_first pairs pre cs q few _ _ = eqb-true (bit_in (replicate 1024 18446744073709551615) q) 1 (sym (ap (λ b. not b || nat_eq (bit_in (replicate 1024 18446744073709551615) q) 1) (lt-ltb q 65536 few)) ∙ all_set q)

-- where a word was put
pub put_word : (P : ℕ → Type 0) (ws : List ℕ) (k j v : ℕ) → (j ≡ k → P v) → P (get_or ws j 0) → P (get_or (set ws k v) j 0)
put_word P [] k j v h p = p
put_word P (w ∷ ws) zero zero v h p = h refl
put_word P (w ∷ ws) zero (suc j) v h p = p
put_word P (w ∷ ws) (suc k) zero v h p = p
put_word P (w ∷ ws) (suc k) (suc j) v h p = put_word P ws k j v (λ e. h (ap suc e)) p

-- whether a bit is set, or there is none
pub set_past : (words : List ℕ) (p : ℕ) → 65536 ≤ p → is_set words p ≡ true
set_past words p ge = or_left (not (nat_lt p 65536)) (nat_eq (bit_in words p) 1) (ap not (le-ltb p 65536 ge))

pub set_there : (words : List ℕ) (p : ℕ) (r : Bool) → p < 65536 → IsTrue r ↔ (bit_in words p ≡ 1) → r ≡ is_set words p
set_there words p r few is = bool_same r (nat_eq (bit_in words p) 1) (λ t. eq-eqb (bit_in words p) 1 (is.0 t)) (λ t. is.1 (eqb-true (bit_in words p) 1 t)) ∙ ap (λ b. not b || nat_eq (bit_in words p) 1) (sym (lt-ltb p 65536 few))

-- an effect that adds a pair with another doesn't exclude its conditions
pub joins_none : (pairs : Pairs) (words : List ℕ) (a : Action) (e f : Effect) → AreLeft pairs a.pre e.cond words → all_asked words f.cond ≡ false → adds_pair pairs a e f ≡ false
joins_none pairs words a e f left none = false_from_ne_true (adds_pair pairs a e f) (λ h.
    let fires = (and_parts (e.result.positive && (f.result.positive && pairs e.result.atom.0 f.result.atom.0)) (compatible_effects pairs a e f) h).1 in
    false≢true (sym none ∙ all_from (is_asked words) f.cond (λ l m. asked fires l m l.positive refl)))
  where
    free : compatible_effects pairs a e f ≡ true → (l : Lit) → Member f.cond l → (ks : List Lit) → ((k : Lit) → Member ks k → Member (a.pre ++ (e.cond ++ f.cond)) k) → list_any (λ k. are_exclusive pairs k l) ks ≡ false
    free fires l m ks there = false_from_ne_true (list_any (λ k. are_exclusive pairs k l) ks) (λ t.
        let x = any_member (λ k. are_exclusive pairs k l) ks t in
        let row = all_member (λ k. list_all (λ l. not (are_exclusive pairs k l)) (a.pre ++ (e.cond ++ f.cond))) (a.pre ++ (e.cond ++ f.cond)) x.0 (there x.0 x.1) fires in
        let apart = all_member (λ l. not (are_exclusive pairs x.0 l)) (a.pre ++ (e.cond ++ f.cond)) l (member_right a.pre (e.cond ++ f.cond) l (member_right e.cond f.cond l m)) row in
        false≢true (sym (not-true (are_exclusive pairs x.0 l) apart) ∙ x.2))

    asked : compatible_effects pairs a e f ≡ true → (l : Lit) → Member f.cond l → (b : Bool) → l.positive ≡ b → is_asked words l ≡ true
    asked fires l m false sign = or_left (not l.positive) (is_set words l.atom.0) (ap not sign)
    asked fires l m true sign = or_right (not l.positive) (is_set words l.atom.0) (elim (cases_lt l.atom.0 65536) [
      | inl few ↦
          let is : l ≡ positive l.atom.0 = ap (λ b. record { atom = l.atom; positive = b }) sign in
          let pre = subst (λ (k : Lit). list_any (λ x. are_exclusive pairs x k) a.pre ≡ false) is (free fires l m a.pre (λ k n. member_left a.pre (e.cond ++ f.cond) k n)) in
          let own = subst (λ (k : Lit). list_any (λ x. are_exclusive pairs x k) e.cond ≡ false) is (free fires l m e.cond (λ k n. member_right a.pre (e.cond ++ f.cond) k (member_left e.cond f.cond k n))) in
          or_right (not (nat_lt l.atom.0 65536)) (nat_eq (bit_in words l.atom.0) 1) (eq-eqb (bit_in words l.atom.0) 1 (left l.atom.0 few pre own))
      | inr ge ↦ set_past words l.atom.0 ge
    ])
