-- What is promised of cutting.
use Rattle.std.specs.Prelude.{◌≡◌, ℕ, List, Result, Ok, Err, ◌⊎◌}
use Rattle.kp_base.specs.declared.refused.Part.{Part}
use Rattle.kp_base.specs.declared.refused.Stop.{Stop}
use Rattle.kp_base.specs.declared.refused.Stop.TheVariants as stops
use Rattle.kp_base.specs.declared.refused.Refused.TheVariants as refusals
use Rattle.kp_lex.specs.declared.token.Token.{Token}
use Rattle.kp_lex.specs.Cutting.{Cut, BadAt}
use Rattle.kp_lex.specs.declared.cutting.Beginning.{Beginning}
use Rattle.kp_lex.specs.Levels.{BeginsCutting}
use Rattle.kp_lex.specs.Places.{place_of}

-- the tokens are the cutting; a refusal names the place of the bad byte; want of memory is free
abbrev pub IsRight : Part → List ℕ → Result (List Token) Stop → Type 0
IsRight part text (Ok ts) = Cut 0 text ts
IsRight part text (Err stops.Memory) = Unit {0}
IsRight part text (Err (stops.Refused (refusals.BadToken place))) = (i : ℕ) × (BadAt 0 text i × (place ≡ place_of part text i))
IsRight part text (Err (stops.Refused _)) = ⊥

-- these tokens, or want of memory
abbrev pub GivesTokens : List Token → Result (List Token) Stop → Type 0
GivesTokens ts result = (result ≡ Ok ts) ⊎ (result ≡ Err stops.Memory)

-- a refusal at the place of this byte, or want of memory
abbrev pub RefusesAt : Part → List ℕ → ℕ → Result (List Token) Stop → Type 0
RefusesAt part text i result = (result ≡ Err (stops.Refused (refusals.BadToken (place_of part text i)))) ⊎ (result ≡ Err stops.Memory)

-- what is kept is the beginning of the cutting; what is refused, is refused as where all tokens are asked for
abbrev pub IsRightWithin : Part → ℕ → List ℕ → Result Beginning Stop → Type 0
IsRightWithin part levels text (Ok b) = BeginsCutting levels text b
IsRightWithin part levels text (Err e) = IsRight part text (Err e)
