-- The usage: the text, and how the table of commands gives it.
use Rattle.std.specs.Prelude.{List, [], ◌∷◌, ◌++◌, ℕ, Bool, false, codes, if◌then◌else◌}
use Rattle.std.specs.Str.{bytes_eq}
use Rattle.std.specs.List.{flat_map}
use Rattle.kp_words_options.specs.Words.{has_text}
use Rattle.kp_words.specs.declared.verb.Verb.{Verb}
use Rattle.kp_words.specs.Forms.{form, all_verbs}

-- how to call the program
abbrev pub usage_text : List ℕ
usage_text =
    codes "usage: kplan translate D P OD OP [--mode M | --merges F] [--implicates N]\n"
    ++ codes "       kplan solve D P [--mode M | --merges F] [--implicates N] [--budget N] [--classical F]\n"
    ++ codes "       kplan classical D P [--budget N]\n"
    ++ codes "       kplan strip T\n"
    ++ codes "       kplan lift D P PLAN [--mode M | --merges F] [--implicates N]\n"
    ++ codes "       kplan check D P PLAN [--implicates N]\n"
    ++ codes "       kplan width D P [--bound N] [--implicates N]\n"
    ++ codes "       kplan merges D P [--mode M] [--implicates N]\n"
    ++ codes "       kplan bench FAMILY N [--mode M] [--budget N]\n"

-- ---- a line for each command

-- a positional word
abbrev pub place_text : List ℕ → List ℕ
place_text name = codes " " ++ name

-- what stands for the value of an option: M for a mode, F for a file, N for anything else
abbrev pub value_text : List ℕ → List ℕ
value_text name =
    if bytes_eq name (codes "mode") then codes "M" else if has_text (codes "merges" ∷ codes "classical" ∷ []) name then codes "F" else codes "N"

-- the next option is a file of merges, which stands in place of the one before it
abbrev pub is_instead : List (List ℕ) → Bool
is_instead [] = false
is_instead (name ∷ names) = bytes_eq name (codes "merges")

-- options, each in brackets of its own, or in those of the option in place of which it stands
abbrev pub options_text : List (List ℕ) → List ℕ
options_text [] = []
options_text (name ∷ names) =
    (if is_instead (name ∷ names) then codes " | --" else codes " [--")
    ++ (name ++ (codes " " ++ (value_text name ++ ((if is_instead names then [] else codes "]") ++ options_text names))))

-- the line of a command
abbrev pub usage_line : List ℕ → Verb → List ℕ
usage_line front verb = front ++ (codes "kplan " ++ ((form verb).word ++ (flat_map place_text (form verb).places ++ (options_text (form verb).options ++ codes "\n"))))

-- the first line says what this is, and the others stand under it
abbrev pub usage_lines : List Verb → List ℕ
usage_lines [] = []
usage_lines (verb ∷ others) = usage_line (codes "usage: ") verb ++ flat_map (usage_line (codes "       ")) others

-- the lines of all commands
abbrev pub usage_by_table : List ℕ
usage_by_table = usage_lines all_verbs
