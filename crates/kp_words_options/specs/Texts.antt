-- What borrowed words are as lists of bytes.
use Rattle.std.specs.Prelude.{List, ℕ, Option, map, option_map}
use Rattle.std.specs.Borrow.{Bor}
use Rattle.kp_words_options.specs.declared.given.Given.{Given}

-- the bytes of each word
abbrev pub texts : List (Bor (List ℕ)) → List (List ℕ)
texts = map (λ s. s.now)

-- the positional words that are given
abbrev pub places_of : Given → List (List ℕ)
places_of line = texts line.places.items

-- the values that are given, or none, for each option
abbrev pub values_of : Given → List (Option (List ℕ))
values_of line = map (option_map (λ s. s.now)) line.values.items
