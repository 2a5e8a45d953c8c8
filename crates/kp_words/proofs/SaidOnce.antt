-- The value of an option says one thing at most.
use Rattle.std.proofs.Common.{◌≡◌, ◌∙◌, ◌<◌, ◌^◌, List, [], ◌∷◌, ℕ, Option, Some, None, decimal, refl, sym, arith, bytes_eq}
use Rattle.std.specs.List.{find}
use Rattle.std.proofs.lemmas.Fmt.{decimal_injective}
use Rattle.kp_base.specs.declared.limits.Mode.{Mode}
use Rattle.kp_base.specs.declared.limits.Mode.TheVariants as modes
use Rattle.kp_words.specs.declared.source.Family.{Family}
use Rattle.kp_words.specs.declared.source.Family.TheVariants as families
use Rattle.kp_words.specs.Options.{IsOfRange, SaysNumber, SaysMode, mode_word, family_word}
use Rattle.kp_words.proofs.Named.{one_named}

-- numbers of a range that have the same decimal are equal
pub one_within : (least most n m : ℕ) (word : List ℕ) → most < 2 ^ 32 → IsOfRange least most n → word ≡ decimal n → IsOfRange least most m → word ≡ decimal m → n ≡ m
one_within least most n m word high a e b f =
    let above = a.at_most in
    let over = b.at_most in
    decimal_injective n m (omega (arith, high, above)) (omega (arith, high, over)) (sym e ∙ f)

pub one_number : (least most usual n m : ℕ) (value : Option (List ℕ)) → most < 2 ^ 32 → SaysNumber least most usual value n → SaysNumber least most usual value m → n ≡ m
one_number least most usual n m None high a b = a ∙ sym b
one_number least most usual n m (Some word) high a b = one_within least most n m word high a.0 a.1 b.0 b.1

-- each mode is found by its word
abbrev pub all_modes : List Mode
all_modes = modes.K0 ∷ modes.K1 ∷ modes.K2 ∷ modes.K3 ∷ modes.Models ∷ modes.Auto ∷ []

pub mode_again : (m : Mode) → find (λ n. bytes_eq (mode_word m) (mode_word n)) all_modes ≡ Some m
mode_again modes.K0 = refl
mode_again modes.K1 = refl
mode_again modes.K2 = refl
mode_again modes.K3 = refl
mode_again modes.Models = refl
mode_again modes.Auto = refl

pub one_mode : (value : Option (List ℕ)) (m k : Mode) → SaysMode value m → SaysMode value k → m ≡ k
one_mode None m k a b = a ∙ sym b
one_mode (Some word) m k a b = one_named mode_word all_modes mode_again m k (sym a ∙ b)

-- and each family
abbrev pub all_families : List Family
all_families = families.Line ∷ families.Bombs ∷ []

pub family_again : (f : Family) → find (λ g. bytes_eq (family_word f) (family_word g)) all_families ≡ Some f
family_again families.Line = refl
family_again families.Bombs = refl

pub one_family : (f g : Family) → family_word f ≡ family_word g → f ≡ g
one_family f g e = one_named family_word all_families family_again f g e
