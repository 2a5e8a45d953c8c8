-- Which words are a command, and which files a command reads and writes. Both go by the table of commands (`Forms`).
use Rattle.std.specs.Prelude.{◌≡◌, List, [], ◌∷◌, ℕ, Option, Some, None, map, filter_map, codes, length, if◌then◌else◌, bytes_eq, Vec, IsUtf8}
use Rattle.std.specs.declared.alloc.Global.{Global}
use Rattle.kp_words_options.specs.Words.{Line, has_text}
use Rattle.kp_words.specs.Asked.{Source, of_mode, of_file, Asked}
use Rattle.kp_words.specs.Forms.{form, value_at}
use Rattle.kp_words.specs.Options.{SaysLimit, SaysBudget, SaysBound, SaysMode, SaysFamily, SaysSize, AreNotBoth, AreApart}
use Rattle.kp_words.specs.declared.verb.Verb.{Verb}

-- ---- what positional words and values of options say, each under its name

-- a word that is said; no bytes where there is none
abbrev pub said : Option (List ℕ) → List ℕ
said None = []
said (Some word) = word

-- the files that are named
pub record AreFiles (place value : List ℕ → Option (List ℕ)) (c : Asked) : Type 0 where
  pub domain : c.domain ≡ said (place (codes "D"))
  pub problem : c.problem ≡ said (place (codes "P"))
  pub plan : c.plan ≡ said (place (codes "PLAN"))
  pub written : c.written ≡ said (place (codes "T"))
  pub domain_out : c.domain_out ≡ said (place (codes "OD"))
  pub problem_out : c.problem_out ≡ said (place (codes "OP"))
  pub outputs_differ : AreApart (place (codes "OD")) (place (codes "OP"))
  pub classical : c.classical ≡ value (codes "classical")

-- where tags and merges come from
pub record IsSource (value : List ℕ → Option (List ℕ)) (c : Asked) : Type 0 where
  pub mode : SaysMode (value (codes "mode")) c.mode
  pub merges : c.merges ≡ value (codes "merges")
  pub one_source : AreNotBoth (value (codes "mode")) (value (codes "merges"))

-- the numbers that options say
pub record AreNumbers (value : List ℕ → Option (List ℕ)) (c : Asked) : Type 0 where
  pub implicates : SaysLimit (value (codes "implicates")) c.implicates
  pub budget : SaysBudget (value (codes "budget")) c.budget
  pub bound : SaysBound (value (codes "bound")) c.bound

-- the generated problem
pub record IsGenerated (place : List ℕ → Option (List ℕ)) (c : Asked) : Type 0 where
  pub family : SaysFamily (place (codes "FAMILY")) c.family
  pub size : SaysSize (place (codes "N")) c.size

-- positional words and values, by their names, say what is asked for
pub record AreAsked (place value : List ℕ → Option (List ℕ)) (c : Asked) : Type 0 where
  pub files : AreFiles place value c
  pub source : IsSource value c
  pub numbers : AreNumbers value c
  pub generated : IsGenerated place c

-- ---- all words

-- the positional word of a name, where they stand in the order of the command's own
abbrev pub place_in : Verb → List (List ℕ) → List ℕ → Option (List ℕ)
place_in verb places = value_at (form verb).places (map Some places)

-- the value of the option of a name, likewise
abbrev pub value_in : Verb → List (Option (List ℕ)) → List ℕ → Option (List ℕ)
value_in verb values = value_at (form verb).options values

-- positional words, as many as the command has, and values of its options say what is asked of it
pub record AreOf (verb : Verb) (places : List (List ℕ)) (values : List (Option (List ℕ))) (c : Asked) : Type 0 where
  pub as_many : length places ≡ length (form verb).places
  pub are_asked : AreAsked (place_in verb places) (value_in verb values) c

-- the words behind that of a command are a line of its options, which says what is asked of it
pub record Behind (verb : Verb) (words : List (List ℕ)) (c : Asked) : Type 0 where
  pub places : List (List ℕ)
  pub values : List (Option (List ℕ))
  pub line : Line words places (form verb).options values
  pub are_of : AreOf verb places values c

-- each word is UTF-8
abbrev pub AreUtf8 : List (List ℕ) → Type 0
AreUtf8 [] = Unit {0}
AreUtf8 (word ∷ words) = IsUtf8 word × AreUtf8 words

-- the first word is that of a command, and the others say what is asked of it
pub record AreWords (words : List (List ℕ)) (c : Asked) : Type 0 where
  pub rest : List (List ℕ)
  pub are : words ≡ (form c.verb).word ∷ rest
  pub behind : Behind c.verb rest c

-- the words are this command
pub record IsCommand (words : List (Vec ℕ Global)) (c : Asked) : Type 0 where
  pub utf8 : AreUtf8 (map (λ w. w.items) words)
  pub are_words : AreWords (map (λ w. w.items) words) c

-- and it is one of this verb
pub record IsCall (verb : Verb) (words : List (Vec ℕ Global)) (c : Asked) : Type 0 where
  pub is_command : IsCommand words c
  pub of_verb : c.verb ≡ verb

-- the words are no command
abbrev pub IsNoCommand : List (Vec ℕ Global) → Type 0
IsNoCommand words = (c : Asked) → IsCommand words c → ⊥

-- ---- files

-- the file that a name of the table names, if there is one
abbrev pub file_under : Asked → List ℕ → Option (List ℕ)
file_under c name =
    if bytes_eq name (codes "D") then Some c.domain else
    if bytes_eq name (codes "P") then Some c.problem else
    if bytes_eq name (codes "PLAN") then Some c.plan else
    if bytes_eq name (codes "T") then Some c.written else
    if bytes_eq name (codes "OD") then Some c.domain_out else
    if bytes_eq name (codes "OP") then Some c.problem_out else
    if bytes_eq name (codes "merges") then c.merges else
    if bytes_eq name (codes "classical") then c.classical else None

-- the same, if the name is one of these
abbrev pub file_among : List (List ℕ) → Asked → List ℕ → Option (List ℕ)
file_among names c name = if has_text names name then file_under c name else None

-- the names of the files that a command reads, in order
abbrev pub inputs_of : Asked → List (List ℕ)
inputs_of c = filter_map (file_under c) (form c.verb).reads

-- and of those that it writes
abbrev pub outputs_of : Asked → List (List ℕ)
outputs_of c = filter_map (file_under c) (form c.verb).writes

-- the name, if there is one
abbrev pub if_named : Option (List ℕ) → List (List ℕ)
if_named name = filter_map (λ n. n) (name ∷ [])

-- the file of merges of a source, if they come from one
abbrev pub file_of : Source → Option (List ℕ)
file_of (of_mode mode) = None
file_of (of_file name) = Some name
