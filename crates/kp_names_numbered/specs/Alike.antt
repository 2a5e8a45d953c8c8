-- This file serves proofs alone. Types with the same objects: a table that leads from one to the other, and lists of types.
use Rattle.std.specs.Prelude.{◌≡◌, Bool, true, false, List, Option, Some, None}
use Rattle.std.specs.List.{list_any}
use Rattle.std.specs.Map.{lookup}
use Rattle.kp_tree_grammar.specs.declared.tree.Word.{Word}
use Rattle.kp_tree_grammar.specs.Trees.{Domain, Problem}
use Rattle.kp_names_semantics.specs.Names.{Name, same}
use Rattle.kp_names_semantics.specs.Types.{is_of_type}

-- what is the same for both names of each entry
pub record AreAlike (f : Name → Bool) (es : List (Name × Name)) : Type 0 where
  pub each : (k c : Name) → lookup (same k) es ≡ Some c → f k ≡ f c

-- each object is of one of the types where it is of one of the others
pub record HaveSame (d : Domain Word) (p : Problem Word) (ts us : List Name) : Type 0 where
  pub each : (o : Name) → list_any (is_of_type d p o) ts ≡ list_any (is_of_type d p o) us

-- whether it is true of the name that was found; where none was, it isn't
abbrev pub of_found : (Name → Bool) → Option Name → Bool
of_found f None = false
of_found f (Some n) = f n

-- it is the name that was found, where one was
abbrev pub fits : Option Name → Name → Bool
fits None n = true
fits (Some m) n = same m n
