-- Names, and what is said of lists of them.
use Rattle.std.specs.Prelude.{ℕ, Bool, List, bytes_eq}
use Rattle.std.specs.List.{list_any}
use Rattle.std.specs.Cmp.Lexicographic.{pointwise}
use Rattle.kp_base.specs.Lists.{each_once}

-- a word of a text in lower case
abbrev pub Name : Type 0
Name = List ℕ

-- whether two names are one
abbrev pub same : Name → Name → Bool
same = bytes_eq

-- whether two lists of names are one
abbrev pub all_same : List Name → List Name → Bool
all_same = pointwise same

-- whether the name stands in the list
abbrev pub is_among : List Name → Name → Bool
is_among xs x = list_any (same x) xs

-- each name once, where it stands first
abbrev pub distinct : List Name → List Name
distinct = each_once same
