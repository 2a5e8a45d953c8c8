-- A `clap` command of positional arguments and options, and the rows that it finds. `Fits` is asked of each command, and computing shows it; the rest serves proofs alone.
use Rattle.std.specs.Prelude.{◌≡◌, ◌<◌, ◌+◌, ◌&&◌, Bool, not, ℕ, true, false, List, [], ◌∷◌, ◌++◌, Option, Some, None, map, codes, length, nat_lt, if◌then◌else◌}
use Rattle.clap.specs.Lexer.{long_of}
use Rattle.std.specs.Str.{bytes_eq}
use Rattle.clap.specs.Walk.{Rule, Row, arg_by_id, arg_by_index, arg_by_long, is_empty}
use Rattle.clap.specs.Simple.{App, Shape, filled_from, is_simple, new_rule, new_shape, with_rule}
use Rattle.clap.specs.declared.builder.action.ArgAction.TheVariants.{Set}
use Rattle.clap.specs.declared.builder.value_parser.ValueParser.TheVariants as vp
use Rattle.clap.specs.declared.builder.value_parser.Reading.TheVariants as reading
use Rattle.clap.specs.declared.parser.matches.ValueSource.TheVariants.{CommandLine}
use Rattle.std.specs.List.{list_all}
use Rattle.kp_words_options.specs.Words.{Said, Says, word, option, differ, has_text, is_option_name, option_names, positionals, value_of}

-- an option as it is given to the command
abbrev pub option_rule : List ℕ → Rule
option_rule name = record (new_rule name) { long = Some name }

-- the command of these arguments, for the words behind its name
abbrev pub app_with : List ℕ → List Rule → App
app_with name rules = record {
  top = record (new_shape name) { rules = rules; no_binary_name = true; disable_help_flag = true };
  subs = [];
}

-- the arguments: the positional ones, and then the options
abbrev pub rules_of : List (List ℕ) → List (List ℕ) → List Rule
rules_of ids options = map new_rule ids ++ map option_rule options

-- the command of these positional arguments and options
abbrev pub app_of_form : List ℕ → List (List ℕ) → List (List ℕ) → App
app_of_form name ids options = app_with name (rules_of ids options)

-- the same arguments when the command is built
abbrev pub built_rule : Rule → Rule
built_rule r = record r {
  action = Some Set;
  range = Some (record { start_inclusive = 1; end_inclusive = 1 });
  parser = Some vp.String;
}

-- a positional argument, with its number
abbrev pub built_place : ℕ → List ℕ → Rule
built_place i id = built_rule (record (new_rule id) { index = Some i })

-- an option
abbrev pub built_option : List ℕ → Rule
built_option name = built_rule (option_rule name)

-- the command when it is built
abbrev pub built_shape : List ℕ → List Rule → Shape
built_shape name rules =
    record (new_shape name) { rules = rules; no_binary_name = true; disable_help_flag = true; disable_help_subcommand = true; is_built = true }

-- what is said, with the name of the argument that takes it
abbrev pub placed : List (List ℕ) → List Said → List (List ℕ × List ℕ)
placed ids [] = []
placed [] (word w ∷ said) = placed [] said
placed (id ∷ ids) (word w ∷ said) = (id, w) ∷ placed ids said
placed ids (option name value ∷ said) = (name, value) ∷ placed ids said

-- the row of an argument that has one value
abbrev pub row_of_pair : List ℕ × List ℕ → Row
row_of_pair p = record {
  id = p.0;
  values = p.1 ∷ [];
  count = None;
  source = Some CommandLine;
  reading = reading.AsWritten;
}

-- the names of the arguments
abbrev pub ids_of : List (List ℕ × List ℕ) → List (List ℕ)
ids_of = map (λ p. p.0)

-- the command has an option of this name, and words that begin with the name are read as it
pub record Knows (c : List Rule) (name : List ℕ) : Type 0 where
  pub by_long : arg_by_long c name ≡ Some (built_option name)
  pub by_id : arg_by_id c name ≡ Some (built_option name)
  pub alone : bytes_eq (codes "--" ++ name) (codes "--") ≡ false
  pub apart : long_of (codes "--" ++ name) ≡ Some (name, None)
  pub joined : (value : List ℕ) → long_of (codes "--" ++ (name ++ (codes "=" ++ value))) ≡ Some (name, Some value)
  pub not_alone : (value : List ℕ) → bytes_eq (codes "--" ++ (name ++ (codes "=" ++ value))) (codes "--") ≡ false

-- the command has a positional argument of this name and number
pub record HasPlace (c : List Rule) (k : ℕ) (id : List ℕ) : Type 0 where
  pub small : k < 100
  pub by_index : arg_by_index c k ≡ Some (built_place k id)
  pub by_id : arg_by_id c id ≡ Some (built_place k id)

-- the command has an argument for all that is said, where the next place has the number k
pub data Takes : List Rule → ℕ → List (List ℕ) → List Said → Type 0 where
  no_more : (c : List Rule) (k : ℕ) (ids : List (List ℕ)) → Takes c k ids []
  a_place : (c : List Rule) (k : ℕ) (id : List ℕ) (ids : List (List ℕ)) (w : List ℕ) (said : List Said) → HasPlace c k id
      → Takes c (k + 1) ids said → Takes c k (id ∷ ids) (word w ∷ said)
  an_option : (c : List Rule) (k : ℕ) (ids : List (List ℕ)) (name value : List ℕ) (said : List Said) → Knows c name
      → Takes c k ids said → Takes c k ids (option name value ∷ said)

-- all of them hold
abbrev pub Every : {X : Type 0} → (X → Type 0) → List X → Type 0
Every P [] = Unit {0}
Every P (x ∷ xs) = P x × Every P xs

-- the command has these places, the first of which has the number k
abbrev pub HasPlaces : List Rule → ℕ → List (List ℕ) → Type 0
HasPlaces c k [] = Unit {0}
HasPlaces c k (id ∷ ids) = HasPlace c k id × HasPlaces c (k + 1) ids

-- the arguments of the command when it is built
abbrev pub built_rules : List (List ℕ) → List (List ℕ) → List Rule
built_rules ids options = filled_from 1 (rules_of ids options)

-- no argument is required, has a default, or has a rule on another
abbrev pub is_loose : Rule → Bool
is_loose r = not r.required && (is_empty r.defaults && r.is_free)

-- what is found for each number from k on, as many as there are names
abbrev pub found_from : List Rule → ℕ → List (List ℕ) → List (Option Rule)
found_from c k [] = []
found_from c k (id ∷ ids) = arg_by_index c k ∷ found_from c (k + 1) ids

-- the positional arguments of these names, the first of which has the number k
abbrev pub places_from : ℕ → List (List ℕ) → List (Option Rule)
places_from k [] = []
places_from k (id ∷ ids) = Some (built_place k id) ∷ places_from (k + 1) ids

-- the names are such that `clap` tells the arguments apart
pub record Fits (name : List ℕ) (ids options : List (List ℕ)) : Type 0 where
  pub simple : is_simple (app_of_form name ids options) ≡ true
  pub loose : list_all is_loose (built_rules ids options) ≡ true
  pub options_by_long : map (arg_by_long (built_rules ids options)) options ≡ map (λ o. Some (built_option o)) options
  pub options_by_id : map (arg_by_id (built_rules ids options)) options ≡ map (λ o. Some (built_option o)) options
  pub places_by_index : found_from (built_rules ids options) 1 ids ≡ places_from 1 ids
  pub places_by_id : map (arg_by_id (built_rules ids options)) ids ≡ places_from 1 ids
  pub few : nat_lt (length ids) 100 ≡ true
  pub names_differ : differ (ids ++ options) ≡ true
  pub named : list_all is_option_name options ≡ true

-- the words say this, as many positional words as there are places, and each option is the command's and stands once
pub record Suits (ids options words : List (List ℕ)) (said : List Said) : Type 0 where
  pub says : Says words said
  pub count : length (positionals said) ≡ length ids
  pub known : list_all (has_text options) (option_names said) ≡ true
  pub once : differ (option_names said) ≡ true

-- the positional word at the place of this name
abbrev pub place_of : List (List ℕ) → List (List ℕ) → List ℕ → Option (List ℕ)
place_of [] ws id = None
place_of (i ∷ ids) [] id = None
place_of (i ∷ ids) (w ∷ ws) id = if bytes_eq i id then Some w else place_of ids ws id

-- the positional words that are said, and for each option its value
pub record Gives (ids options words places : List (List ℕ)) (values : List (Option (List ℕ))) : Type 0 where
  pub said : List Said
  pub suits : Suits ids options words said
  pub in_order : places ≡ positionals said
  pub by_name : values ≡ map (λ o. value_of o said) options

-- places and options given to a command one after the other
abbrev pub with_places : App → List (List ℕ) → App
with_places a [] = a
with_places a (id ∷ ids) = with_places (with_rule a (new_rule id)) ids

-- and options
abbrev pub with_options : App → List (List ℕ) → App
with_options a [] = a
with_options a (name ∷ options) = with_options (with_rule a (option_rule name)) options
