-- Truth values that are known or open.
use Rattle.std.specs.Prelude.{◌≡◌, ◌<◌, ℕ, Bool, true, false, if◌then◌else◌, List}
use Rattle.kp_base.specs.declared.lit.Lit.{Lit}
use Rattle.kp_base.specs.Lit.{negated, has}
use Rattle.kp_primes_first_model.specs.Known.{is_decided}
use Rattle.kp_primes_first_model.specs.declared.truth.Truth.{Truth}
use Rattle.kp_primes_first_model.specs.declared.truth.Truth.TheVariants.{Yes, No, Open}

-- what it says of a truth value: it is true; or false; or it may be either, and this atom of the first n isn't decided
abbrev pub IsTruth : ℕ → List Lit → Bool → Truth → Type 0
IsTruth n known b Yes = b ≡ true
IsTruth n known b No = b ≡ false
IsTruth n known b (Open a) = (a.0 < n) × (is_decided known a.0 ≡ false)

abbrev pub opposite : Truth → Truth
opposite Yes = No
opposite No = Yes
opposite (Open a) = Open a

abbrev pub both : Truth → Truth → Truth
both Yes u = u
both No u = No
both (Open a) No = No
both (Open a) Yes = Open a
both (Open a) (Open b) = Open a

abbrev pub either : Truth → Truth → Truth
either t u = opposite (both (opposite t) (opposite u))

-- a literal's, where these are known
abbrev pub truth_in : List Lit → Lit → Truth
truth_in known l = if has known l then Yes else if has known (negated l) then No else Open l.atom
