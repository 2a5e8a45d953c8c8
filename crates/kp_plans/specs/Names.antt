-- Which name a word stands for, and which of several names is one.
use Rattle.std.specs.Prelude.{◌≡◌, ℕ, List, Option, Some, None}
use Rattle.std.specs.List.{position_from}
use Rattle.kp_base.specs.declared.ground.GroundName.{GroundName}
use Rattle.kp_names_semantics.specs.GroundNames.{same_name}
use Rattle.kp_names_semantics.specs.Encoding.{encoded, HasNoEmptyPart}

-- the word is the encoding of the name, whose parts aren't empty
pub record IsEncodingOf (word : List ℕ) (n : GroundName) : Type 0 where
  pub parts : HasNoEmptyPart n
  pub spelled : encoded n ≡ word

-- the name that the word is the encoding of; none where it is no name's encoding
abbrev pub IsNameOf : List ℕ → Option GroundName → Type 0
IsNameOf word (Some n) = IsEncodingOf word n
IsNameOf word None = (n : GroundName) → IsEncodingOf word n → ⊥

-- the position of the first of some names that is this one
abbrev pub number_of : List GroundName → GroundName → Option ℕ
number_of names n = position_from (same_name n) 0 names
