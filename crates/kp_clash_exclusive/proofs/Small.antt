-- What holds of each small action.
use Rattle.std.proofs.Common.{◌≡◌, ⊎_elim, ◌≤◌, ◌<◌, ◌-◌, ◌/◌, ◌%◌, ℕ, zero, true, not, List, length, replicate, get_or, w64, nat_eq, nat_lt, inl, inr, ap, ◌∙◌, arith}
use Rattle.std.proofs.lemmas.Bool.{or_left, or_right, eq-eqb, le-ltb, cases_lt}
use Rattle.std.proofs.lemmas.List.{get_or-replicate, length-replicate, get_or_past}
use Rattle.std.proofs.lemmas.Nat.Bits.{bit_at_not, bit_at-zero}
use Rattle.std.specs.Int.{bit_at}
use Rattle.kp_base.specs.declared.ground.Effect.{Effect}
use Rattle.kp_base.specs.declared.ground.Action.{Action}
use Rattle.kp_base.proofs.Lists.{all_from}
use Rattle.kp_bits.specs.Packed.{bit_in}
use Rattle.kp_clash_exclusive.specs.Between.{AreBetween}
use Rattle.kp_clash_exclusive.specs.Left.{is_set, is_added, is_asked, AreNoted}
use Rattle.kp_clash_exclusive.proofs.Noted.{none_set}
use Rattle.kp_clash_exclusive.proofs.Spans.{get_below}

zeros : (n k : ℕ) → get_or (replicate n zero) k zero ≡ zero
zeros n k = ⊎_elim (λ l. get_or-replicate n k zero zero l) (λ ge. get_or_past (replicate n zero) k zero (rw (length-replicate n zero) ge)) (cases_lt k n)

pub ones : (j : ℕ) → j < 64 → bit_at 18446744073709551615 j ≡ 1
ones j l = bit_at_not w64 0 j (omega arith) l ∙ ap (λ b. 1 - b) (bit_at-zero j)

pub all_set : (p : ℕ) → is_set (replicate 1024 18446744073709551615) p ≡ true
all_set p = elim (cases_lt p 65536) [
  | inl l ↦
      let word : ◌≡◌ {A = ℕ} (get_or (replicate 1024 18446744073709551615) (p / 64) 0) 18446744073709551615 = get_or-replicate 1024 (p / 64) 18446744073709551615 0 (omega (arith, l)) in
      let bit : bit_in (replicate 1024 18446744073709551615) p ≡ 1 = ap (λ w. bit_at w (p % 64)) word ∙ ones (p % 64) (omega arith) in
      or_right (not (nat_lt p 65536)) (nat_eq (bit_in (replicate 1024 18446744073709551615) p) 1) (eq-eqb (bit_in (replicate 1024 18446744073709551615) p) 1 bit)
  | inr ge ↦ or_left (not (nat_lt p 65536)) (nat_eq (bit_in (replicate 1024 18446744073709551615) p) 1) (ap not (le-ltb p 65536 ge))
]

between : (es : List Effect) → length es ≤ 8 → AreBetween (replicate 4096 0) (replicate 4096 8) es
between es few i d at sign =
    let low = zeros 4096 (d.result.atom.0 % 4096) in
    let high : ◌≡◌ {A = ℕ} (get_or (replicate 4096 8) (d.result.atom.0 % 4096) 0) 8 = get_or-replicate 4096 (d.result.atom.0 % 4096) 8 0 (omega arith) in
    let below = get_below es i d at in
    (omega (arith, low), omega (arith, high, below, few))

pub any_noted : (a : Action) → length a.effects ≤ 8 → AreNoted (replicate 4096 0) (replicate 4096 8) (replicate 1024 18446744073709551615) (replicate 1024 18446744073709551615) (replicate 1024 0) a
any_noted a few = record {
  deletes = between a.effects few;
  asks = all_from (is_asked (replicate 1024 18446744073709551615)) a.pre (λ l _. or_right (not l.positive) (is_set (replicate 1024 18446744073709551615) l.atom.0) (all_set l.atom.0));
  adds = all_from (is_added (replicate 1024 18446744073709551615)) a.effects (λ e _. or_right (not e.result.positive) (is_set (replicate 1024 18446744073709551615) e.result.atom.0) (all_set e.result.atom.0));
  deletes_surely = λ q one. absurd (none_set 1024 q one);
}
