-- Numbers as words.
use Rattle.std.proofs.Common.{◌≡◌, ◌∙◌, ◌<◌, ◌^◌, ℕ, List, Result, Ok, decimal, arith, sym, subst}
use Rattle.std.specs.Str.Parse.{ParsesUnsigned}
use Rattle.std.proofs.lemmas.Fmt.{decimal_injective, parse-decimal}
use Rattle.kp_words.specs.Options.{IsOfRange}

pub decimal_parses : {E : Type 0} (n : ℕ) (word : List ℕ) (r : Result ℕ E) → n < 2 ^ 32 → word ≡ decimal n → ParsesUnsigned 32 10 word r → r ≡ Ok n
decimal_parses n word r small e h = parse-decimal 32 n word r small (omega (arith, small)) e h

-- a word that says another number says none of the range
pub says_none : (least most m n : ℕ) (word : List ℕ) → most < 2 ^ 32 → m < 2 ^ 32 → word ≡ decimal m → (IsOfRange least most m → ⊥) → IsOfRange least most n → word ≡ decimal n → ⊥
says_none least most m n word high small is none within so =
    let at_most = within.at_most in
    none (subst (IsOfRange least most) (decimal_injective n m (omega (arith, at_most, high)) (omega (arith, small)) (sym so ∙ is)) within)
