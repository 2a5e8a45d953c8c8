-- For proofs alone: the words as they are read one after the other.
use Rattle.std.specs.Prelude.{◌+◌, ◌&&◌, ℕ, Bool, true, false, not, List, [], ◌∷◌, ◌++◌, Option, Some, None, if◌then◌else◌, option_and_then}
use Rattle.clap.specs.Lexer.{long_of}
use Rattle.kp_words_options.specs.Words.{is_plain, has_text}
use Rattle.kp_words_options.specs.Texts.{texts}
use Rattle.kp_words_options.specs.declared.scan.Reader.{Reader}

-- which options were met, whether the last one waits for its value, and how many positional words there were
pub record State : Type 0 where
  pub seen : List (List ℕ)
  pub waits : Bool
  pub places : ℕ

-- the state of the reader
abbrev pub reader_state : Reader → State
reader_state r = record { seen = texts r.seen.items; waits = r.waits; places = r.places }

-- an option may stand here
abbrev pub may_stand : List (List ℕ) → State → List ℕ → Bool
may_stand options s name = has_text options name && not (has_text s.seen name)

-- one more option was met
abbrev pub with_name : State → List ℕ → Bool → State
with_name s name waits = record s { seen = s.seen ++ name ∷ []; waits = waits }

-- what is said with an option may be its value
abbrev pub has_value : Option (List ℕ) → Bool
has_value None = true
has_value (Some value) = is_plain value

-- an option waits for its value
abbrev pub is_alone : Option (List ℕ) → Bool
is_alone None = true
is_alone (Some value) = false

-- the state after an option
abbrev pub after_option : List (List ℕ) → State → Option (List ℕ × Option (List ℕ)) → Option State
after_option options s None = None
after_option options s (Some p) = if may_stand options s p.0 && has_value p.1 then Some (with_name s p.0 (is_alone p.1)) else None

-- the state after a positional word, or a value
abbrev pub after_plain : State → State
after_plain s = if s.waits then record s { waits = false } else record s { places = s.places + 1 }

-- the state after one more word
abbrev pub after_word : List (List ℕ) → State → List ℕ → Option State
after_word options s w =
    if is_plain w then Some (after_plain s) else if s.waits then None else after_option options s (long_of w)

-- the number of positional words, where no option waits
abbrev pub count_of : State → Option ℕ
count_of s = if s.waits then None else Some s.places

-- how many positional words there are, where all is well
abbrev pub scan : List (List ℕ) → State → List (List ℕ) → Option ℕ
scan options s [] = count_of s
scan options s (w ∷ words) = option_and_then (λ t. scan options t words) (after_word options s w)

-- the state before the first word
abbrev pub at_first : State
at_first = record { seen = []; waits = false; places = 0 }
