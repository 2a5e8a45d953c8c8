-- The literal of a fact's number.
use Rattle.std.proofs.Common.{◌≡◌, ◌<◌, ◌+◌, ◌*◌, ◌/◌, ◌%◌, ℕ, Bool, true, false, nat_eq, eqb-true, if◌then◌else◌, refl, ap, ◌∙◌, arith}
use Rattle.std.proofs.Math.Nat.{mod-lt}
use Rattle.std.proofs.lemmas.Nat.{div-add-mod'}
use Rattle.std.proofs.lemmas.Bool.Decides.{nat_tests}
use Rattle.kp_ktask.specs.Translated.{IsLiteralOf}

-- a code is twice its half, and one more where it is odd
halves : (code : ℕ) → 2 * (code / 2) + (if nat_eq (code % 2) 0 then 0 else 1) ≡ code
halves code = go (nat_eq (code % 2) 0) refl where
  go : (b : Bool) → nat_eq (code % 2) 0 ≡ b → 2 * (code / 2) + (if b then 0 else 1) ≡ code
  go true e = let even = eqb-true (code % 2) 0 e in omega (arith, even)
  go false e = let odd : code % 2 ≡ 1 = grind (arith, nat_tests, e) in omega (arith, odd)

pub literal_found : (atoms fact code : ℕ) → 0 < atoms → code ≡ fact % (2 * atoms) → IsLiteralOf atoms fact (record { atom = record { 0 = code / 2 }; positive = nat_eq (code % 2) 0 })
literal_found atoms fact code some e =
    let less : fact % (2 * atoms) < 2 * atoms = mod-lt fact (omega (arith, some)) in
    record {
      below = omega (arith, less, e);
      tag = fact / (2 * atoms);
      is_number = ap (λ c. fact / (2 * atoms) * (2 * atoms) + c) (halves code ∙ e) ∙ div-add-mod' fact (2 * atoms);
    }
