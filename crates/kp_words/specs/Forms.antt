-- The table of commands: the word of each, its positional words, its options, and the files that it reads and writes. What these say is said once for all commands, in `Command`.
use Rattle.std.specs.Prelude.{List, [], ◌∷◌, ℕ, Option, None, codes, if◌then◌else◌}
use Rattle.std.specs.Str.{bytes_eq}
use Rattle.std.specs.List.{find}
use Rattle.kp_words.specs.declared.verb.Verb.{Verb}
use Rattle.kp_words.specs.declared.verb.Verb.TheVariants as verbs

-- the word of a command
pub record Form : Type 0 where
  pub word : List ℕ
  -- the names of its positional words, and its options, both in order
  pub places : List (List ℕ)
  pub options : List (List ℕ)
  -- those of both that name files which it reads, and which it writes, in the order in which it does
  pub reads : List (List ℕ)
  pub writes : List (List ℕ)

-- each command
abbrev pub form : Verb → Form
form verbs.Translate = record { word = codes "translate"; places = codes "D" ∷ codes "P" ∷ codes "OD" ∷ codes "OP" ∷ []; options = codes "mode" ∷ codes "merges" ∷ codes "implicates" ∷ []; reads = codes "D" ∷ codes "P" ∷ codes "merges" ∷ []; writes = codes "OD" ∷ codes "OP" ∷ [] }
form verbs.Solve = record { word = codes "solve"; places = codes "D" ∷ codes "P" ∷ []; options = codes "mode" ∷ codes "merges" ∷ codes "implicates" ∷ codes "budget" ∷ codes "classical" ∷ []; reads = codes "D" ∷ codes "P" ∷ codes "merges" ∷ []; writes = codes "classical" ∷ [] }
form verbs.Classical = record { word = codes "classical"; places = codes "D" ∷ codes "P" ∷ []; options = codes "budget" ∷ []; reads = codes "D" ∷ codes "P" ∷ []; writes = [] }
form verbs.Strip = record { word = codes "strip"; places = codes "T" ∷ []; options = []; reads = codes "T" ∷ []; writes = [] }
form verbs.Lift = record { word = codes "lift"; places = codes "D" ∷ codes "P" ∷ codes "PLAN" ∷ []; options = codes "mode" ∷ codes "merges" ∷ codes "implicates" ∷ []; reads = codes "D" ∷ codes "P" ∷ codes "merges" ∷ codes "PLAN" ∷ []; writes = [] }
form verbs.Check = record { word = codes "check"; places = codes "D" ∷ codes "P" ∷ codes "PLAN" ∷ []; options = codes "implicates" ∷ []; reads = codes "D" ∷ codes "P" ∷ codes "PLAN" ∷ []; writes = [] }
form verbs.Width = record { word = codes "width"; places = codes "D" ∷ codes "P" ∷ []; options = codes "bound" ∷ codes "implicates" ∷ []; reads = codes "D" ∷ codes "P" ∷ []; writes = [] }
form verbs.Merges = record { word = codes "merges"; places = codes "D" ∷ codes "P" ∷ []; options = codes "mode" ∷ codes "implicates" ∷ []; reads = codes "D" ∷ codes "P" ∷ []; writes = [] }
form verbs.Bench = record { word = codes "bench"; places = codes "FAMILY" ∷ codes "N" ∷ []; options = codes "mode" ∷ codes "budget" ∷ []; reads = []; writes = [] }

-- all of them
abbrev pub all_verbs : List Verb
all_verbs =
    verbs.Translate ∷ verbs.Solve ∷ verbs.Classical ∷ verbs.Strip ∷ verbs.Lift ∷ verbs.Check ∷ verbs.Width ∷ verbs.Merges ∷ verbs.Bench ∷ []

-- the command of a word, if there is one (for contracts alone)
abbrev pub verb_named : List ℕ → Option Verb
verb_named w = find (λ v. bytes_eq w (form v).word) all_verbs

-- the value under a name, where values stand in the order of some names
abbrev pub value_at : List (List ℕ) → List (Option (List ℕ)) → List ℕ → Option (List ℕ)
value_at [] values name = None
value_at (n ∷ names) [] name = None
value_at (n ∷ names) (v ∷ values) name = if bytes_eq n name then v else value_at names values name
