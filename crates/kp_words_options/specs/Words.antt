-- What the words behind a command say: positional words, and options with their values.
use Rattle.std.specs.Prelude.{◌≡◌, ◌==◌, ◌&&◌, ℕ, Bool, true, false, not, List, [], ◌∷◌, ◌++◌, Option, Some, None, if◌then◌else◌, map, codes}
use Rattle.std.specs.List.{list_all, list_any}
use Rattle.std.specs.Str.{bytes_eq}

-- a positional word, and a value of an option: it isn't empty and doesn't begin with a dash
abbrev pub is_plain : List ℕ → Bool
is_plain [] = false
is_plain (b ∷ rest) = not (b == 45)

-- the name of an option: it isn't empty and has no `=`
abbrev pub is_option_name : List ℕ → Bool
is_option_name [] = false
is_option_name (b ∷ rest) = not (list_any (λ x. x == 61) (b ∷ rest))

-- a positional word, or an option with its value
pub data Said : Type 0 where
  word : List ℕ → Said
  option : List ℕ → List ℕ → Said

-- The words say this, one after the other. An option is `--name` and a word behind it, or `--name=value`.
pub data Says : List (List ℕ) → List Said → Type 0 where
  nothing : Says [] []
  a_word : (w : List ℕ) (words : List (List ℕ)) (said : List Said) → is_plain w ≡ true → Says words said → Says (w ∷ words) (word w ∷ said)
  apart : (name value : List ℕ) (words : List (List ℕ)) (said : List Said) → is_option_name name ≡ true → is_plain value ≡ true → Says words said
      → Says ((codes "--" ++ name) ∷ value ∷ words) (option name value ∷ said)
  joined : (name value : List ℕ) (words : List (List ℕ)) (said : List Said) → is_option_name name ≡ true → is_plain value ≡ true → Says words said
      → Says ((codes "--" ++ (name ++ (codes "=" ++ value))) ∷ words) (option name value ∷ said)

-- the positional words, in order
abbrev pub positionals : List Said → List (List ℕ)
positionals [] = []
positionals (word w ∷ said) = w ∷ positionals said
positionals (option name value ∷ said) = positionals said

-- the names of the options, in order
abbrev pub option_names : List Said → List (List ℕ)
option_names [] = []
option_names (word w ∷ said) = option_names said
option_names (option name value ∷ said) = name ∷ option_names said

-- the value of the first option of a name
abbrev pub value_of : List ℕ → List Said → Option (List ℕ)
value_of name [] = None
value_of name (word w ∷ said) = value_of name said
value_of name (option n value ∷ said) = if bytes_eq n name then Some value else value_of name said

-- the text is one of these
abbrev pub has_text : List (List ℕ) → List ℕ → Bool
has_text texts text = list_any (λ t. bytes_eq t text) texts

-- no text stands twice
abbrev pub differ : List (List ℕ) → Bool
differ [] = true
differ (t ∷ texts) = not (has_text texts t) && differ texts

-- The words are a line of these positional words, with these values of the options that may stand: each
-- option stands once at most, and one that is left out has no value.
pub record Line (words places options : List (List ℕ)) (values : List (Option (List ℕ))) : Type 0 where
  pub said : List Said
  pub says : Says words said
  pub places_are : positionals said ≡ places
  pub known : list_all (has_text options) (option_names said) ≡ true
  pub once : differ (option_names said) ≡ true
  pub values_are : map (λ name. value_of name said) options ≡ values
