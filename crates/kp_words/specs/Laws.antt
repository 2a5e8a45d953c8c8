-- Laws on the words of commands.
use Rattle.std.specs.Prelude.{◌≡◌, ◌⊎◌, ℕ, List, Vec}
use Rattle.std.specs.declared.alloc.Global.{Global}
use Rattle.kp_words.specs.Asked.{Asked}
use Rattle.kp_words.specs.Command.{IsCommand, IsNoCommand}

-- words are one command at most
abbrev pub WordsAreOneCommand : Type 0
WordsAreOneCommand = (words : List (Vec ℕ Global)) (c d : Asked) → IsCommand words c → IsCommand words d → c ≡ d

-- words are a command, or none
abbrev pub WordsAreDecided : Type 0
WordsAreDecided = (words : List (Vec ℕ Global)) → ((c : Asked) × IsCommand words c) ⊎ IsNoCommand words
