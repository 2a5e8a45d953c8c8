-- What computing tells of the form of each command.
use Rattle.std.proofs.Common.{◌≡◌, refl, true, List, [], ◌∷◌, ℕ, Some, codes}
use Rattle.std.specs.List.{list_all}
use Rattle.kp_words_options.specs.Words.{is_option_name, has_text}
use Rattle.kp_words_options.specs.Clap.{Fits}
use Rattle.kp_words_options.proofs.Public.{rules_are_loose_by_computing}
use Rattle.kp_words.specs.Forms.{form, verb_named}
use Rattle.kp_words.specs.declared.verb.Verb.{Verb}
use Rattle.kp_words.specs.declared.verb.Verb.TheVariants as verbs

-- the names under which files are read
abbrev pub input_names : List (List ℕ)
input_names = codes "D" ∷ codes "P" ∷ codes "merges" ∷ codes "PLAN" ∷ codes "T" ∷ []

-- `clap` tells its arguments apart, it is found by its word, each option has the name of one, and what it reads is read
record IsTold (v : Verb) : Type 0 where
  fits : Fits (form v).word (form v).places (form v).options
  found : verb_named (form v).word ≡ Some v
  named : list_all is_option_name (form v).options ≡ true
  reads : list_all (has_text input_names) (form v).reads ≡ true

told : (v : Verb) → IsTold v
told verbs.Translate = record { fits = rules_are_loose_by_computing refl refl refl refl refl refl refl refl refl; found = refl; named = refl; reads = refl }
told verbs.Solve = record { fits = rules_are_loose_by_computing refl refl refl refl refl refl refl refl refl; found = refl; named = refl; reads = refl }
told verbs.Classical = record { fits = rules_are_loose_by_computing refl refl refl refl refl refl refl refl refl; found = refl; named = refl; reads = refl }
told verbs.Strip = record { fits = rules_are_loose_by_computing refl refl refl refl refl refl refl refl refl; found = refl; named = refl; reads = refl }
told verbs.Lift = record { fits = rules_are_loose_by_computing refl refl refl refl refl refl refl refl refl; found = refl; named = refl; reads = refl }
told verbs.Check = record { fits = rules_are_loose_by_computing refl refl refl refl refl refl refl refl refl; found = refl; named = refl; reads = refl }
told verbs.Width = record { fits = rules_are_loose_by_computing refl refl refl refl refl refl refl refl refl; found = refl; named = refl; reads = refl }
told verbs.Merges = record { fits = rules_are_loose_by_computing refl refl refl refl refl refl refl refl refl; found = refl; named = refl; reads = refl }
told verbs.Bench = record { fits = rules_are_loose_by_computing refl refl refl refl refl refl refl refl refl; found = refl; named = refl; reads = refl }

pub fits : (v : Verb) → Fits (form v).word (form v).places (form v).options
fits v = (told v).fits

pub found : (v : Verb) → verb_named (form v).word ≡ Some v
found v = (told v).found

pub are_names : (v : Verb) → list_all is_option_name (form v).options ≡ true
are_names v = (told v).named

pub reads_are_inputs : (v : Verb) → list_all (has_text input_names) (form v).reads ≡ true
reads_are_inputs v = (told v).reads
