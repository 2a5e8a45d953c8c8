-- What the loops of the numbering do, step by step. Beside proofs it serves the contracts that cite `AreBelow`, `range_of`, `HoldTypes`, `own_types`, `with_name`, `under`, `lines_under`.
use Rattle.std.specs.Prelude.{◌≡◌, ◌<◌, ◌||◌, ℕ, Bool, true, List, [], ◌∷◌, ◌++◌, if◌then◌else◌, cond, fold, filter, map, take, unwrap_or, AllPairs}
use Rattle.std.specs.List.{list_any, flat_map}
use Rattle.std.specs.Map.{lookup}
use Rattle.kp_tree_grammar.specs.declared.tree.Word.{Word}
use Rattle.kp_tree_grammar.specs.Trees.{Typed, Domain, Problem}
use Rattle.kp_base.specs.Lists.{Member}
use Rattle.kp_names_semantics.specs.Names.{Name, same, is_among}
use Rattle.kp_names_semantics.specs.Types.{object, names, object_lines, objects, types_of, IsBelow, is_below, is_of_type}
use Rattle.kp_names_semantics.specs.Numbering.{index_of, variable_number}

-- ---- names

-- the names with one more, where it is new
abbrev pub with_name : List Name → Name → List Name
with_name names n = if is_among names n then names else names ++ n ∷ []

-- ---- types below others

-- one of the words is among the names
abbrev pub any_among : List Name → List Word → Bool
any_among names ws = list_any (λ w. is_among names w.text) ws

-- a type behind the name is below one of the names, or every type is
abbrev pub has_type : List Name → Typed Word → Bool
has_type names x = is_among names object || any_among names x.kinds

-- the names tell of each type whether it is below one of the tops
pub record AreBelow (kinds : List (Typed Word)) (tops names : List Name) : Type 0 where
  pub each : (k : Name) → (is_among names k || is_among names object) ≡ list_any (is_below kinds k) tops

-- ---- names under types

-- pairs of type and name, with the name of a line under each of its types, the last first
abbrev pub with_line_under : List (Name × Name) → Typed Word → List (Name × Name)
with_line_under ps x = fold (λ qs k. (k.text, x.word.text) ∷ qs) ps x.kinds

-- the same of all lines
abbrev pub lines_under : List (Typed Word) → List (Name × Name)
lines_under xs = fold with_line_under [] xs

-- pairs of a name and a type of it, with each type of a line over its name, the last first
abbrev pub with_line_over : List (Name × Name) → Typed Word → List (Name × Name)
with_line_over ps x = fold (λ qs k. (x.word.text, k.text) ∷ qs) ps x.kinds

-- the same of all lines
abbrev pub lines_over : List (Typed Word) → List (Name × Name)
lines_over xs = fold with_line_over [] xs

-- the names under a type
abbrev pub under : List (Name × Name) → Name → List Name
under [] k = []
under (p ∷ ps) k = cond (same p.0 k) (p.1 ∷ under ps k) (under ps k)

-- the names hold the old ones, and all that stand under the first of them, so many; what is true of the old ones, and of all under a type of which it is true, is true of them
pub record IsClosing (pairs : List (Name × Name)) (old : List Name) (at : ℕ) (names : List Name) : Type 0 where
  pub kept : (x : Name) → is_among old x ≡ true → is_among names x ≡ true
  pub front : (k x : Name) → is_among (take at names) k ≡ true → is_among (under pairs k) x ≡ true → is_among names x ≡ true
  pub sound : (q : Name → Bool) → ((x : Name) → is_among old x ≡ true → q x ≡ true) → ((k x : Name) → q k ≡ true → is_among (under pairs k) x ≡ true → q x ≡ true) → (x : Name) → is_among names x ≡ true → q x ≡ true

-- ---- objects of types

-- `object`, and the types that are written behind objects
abbrev pub own_types : Domain Word → Problem Word → List Name
own_types d p = object ∷ flat_map (λ x. names x.kinds) (object_lines d p)

-- the names hold the types of all objects, and with a type all above it
pub record HoldTypes (d : Domain Word) (p : Problem Word) (names : List Name) : Type 0 where
  pub own : (x : Typed Word) (k : Name) → Member (object_lines d p) x → Member (types_of x) k → is_among names k ≡ true
  pub above : (t u : Name) → IsBelow d.kinds t u → is_among names t ≡ true → is_among names u ≡ true

-- the objects of one of the types, by number
abbrev pub range_of : Domain Word → Problem Word → List Name → List ℕ
range_of d p ts = map (index_of (objects d p)) (filter (λ o. list_any (is_of_type d p o) ts) (objects d p))

-- the row has just the numbers of a list, each once and ascending
pub record IsRowOf (numbers row : List ℕ) : Type 0 where
  pub rising : AllPairs (λ m n. m < n) row
  pub there : (n : ℕ) → Member row n → Member numbers n
  pub back : (n : ℕ) → Member numbers n → Member row n

-- ---- variables round a place

-- the entries have, under each name, the number of its innermost variable
pub record AreInnermost (scope : List Name) (entries : List (Name × ℕ)) : Type 0 where
  pub each : (n : Name) → unwrap_or (lookup (same n) entries) 0 ≡ variable_number scope n
