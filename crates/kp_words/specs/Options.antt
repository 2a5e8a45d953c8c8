-- What the values of options say.
use Rattle.std.specs.Prelude.{◌≡◌, ◌≢◌, ◌≤◌, List, ℕ, Option, Some, None, codes, decimal}
use Rattle.kp_base.specs.declared.limits.Mode.{Mode}
use Rattle.kp_base.specs.declared.limits.Mode.TheVariants as modes
use Rattle.kp_words.specs.declared.source.Family.{Family}
use Rattle.kp_words.specs.declared.source.Family.TheVariants as families

-- a number of a range
pub record IsOfRange (least most n : ℕ) : Type 0 where
  pub at_least : least ≤ n
  pub at_most : n ≤ most

-- ---- what is usual: what is taken where an option is left out

abbrev pub usual_limit : ℕ
usual_limit = 20000

abbrev pub usual_budget : ℕ
usual_budget = 10000

abbrev pub usual_bound : ℕ
usual_bound = 3

abbrev pub usual_mode : Mode
usual_mode = modes.K1

-- for a command without the words of a generated problem the fields say nothing: they are these
abbrev pub no_family : Family
no_family = families.Line

abbrev pub no_size : ℕ
no_size = 0

-- ---- what is said

-- an option says a number: its value is a number of the range in decimal; or it is left out, and the number is the usual one
abbrev pub SaysNumber : ℕ → ℕ → ℕ → Option (List ℕ) → ℕ → Type 0
SaysNumber least most usual None n = n ≡ usual
SaysNumber least most usual (Some word) n = IsOfRange least most n × (word ≡ decimal n)

-- the limit of prime implicates: from 1 to 100,000
abbrev pub SaysLimit : Option (List ℕ) → ℕ → Type 0
SaysLimit = SaysNumber 1 100000 usual_limit

-- the budget of a search: from 1 to 1,000,000
abbrev pub SaysBudget : Option (List ℕ) → ℕ → Type 0
SaysBudget = SaysNumber 1 1000000 usual_budget

-- the greatest size of a set of clauses: from 0 to 8
abbrev pub SaysBound : Option (List ℕ) → ℕ → Type 0
SaysBound = SaysNumber 0 8 usual_bound

-- the word of each mode
abbrev pub mode_word : Mode → List ℕ
mode_word modes.K0 = codes "k0"
mode_word modes.K1 = codes "k1"
mode_word modes.K2 = codes "k2"
mode_word modes.K3 = codes "k3"
mode_word modes.Models = codes "models"
mode_word modes.Auto = codes "auto"

-- an option says a mode: its value is the word of the mode; or it is left out, and the mode is the usual one
abbrev pub SaysMode : Option (List ℕ) → Mode → Type 0
SaysMode None mode = mode ≡ usual_mode
SaysMode (Some word) mode = word ≡ mode_word mode

-- the word of each family
abbrev pub family_word : Family → List ℕ
family_word families.Line = codes "line"
family_word families.Bombs = codes "bombs"

-- a word says a family
abbrev pub SaysFamily : Option (List ℕ) → Family → Type 0
SaysFamily None family = family ≡ no_family
SaysFamily (Some word) family = word ≡ family_word family

-- a word says the size of a generated problem: from 2 to 100
abbrev pub SaysSize : Option (List ℕ) → ℕ → Type 0
SaysSize = SaysNumber 2 100 no_size

-- two words aren't both there
abbrev pub AreNotBoth : Option (List ℕ) → Option (List ℕ) → Type 0
AreNotBoth None b = Unit {0}
AreNotBoth (Some one) None = Unit {0}
AreNotBoth (Some one) (Some other) = ⊥

-- two words, where there are both, differ
abbrev pub AreApart : Option (List ℕ) → Option (List ℕ) → Type 0
AreApart None b = Unit {0}
AreApart (Some one) None = Unit {0}
AreApart (Some one) (Some other) = one ≢ other
