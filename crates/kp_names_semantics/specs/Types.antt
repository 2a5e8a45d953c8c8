-- Types, objects, and the objects that a variable ranges over.
use Rattle.std.specs.Prelude.{◌≡◌, ◌↔◌, ℕ, zero, suc, Bool, true, ◌&&◌, ◌||◌, List, [], ◌∷◌, ◌++◌, map, filter, length, codes}
use Rattle.std.specs.List.{list_any, flat_map}
use Rattle.kp_tree_grammar.specs.declared.tree.Word.{Word}
use Rattle.kp_tree_grammar.specs.Trees.{Typed, Domain, Problem}
use Rattle.kp_base.specs.Lists.{Member}
use Rattle.kp_names_semantics.specs.Names.{Name, same, distinct}

-- ---- types

-- the root type
abbrev pub object : Name
object = codes "object"

-- the names of words
abbrev pub names : List Word → List Name
names ws = map (λ w. w.text) ws

-- the names that a typed list declares: types, objects or variables
abbrev pub declared : List (Typed Word) → List Name
declared xs = map (λ x. x.word.text) xs

-- `object` where no type is written
abbrev pub or_object : List Name → List Name
or_object [] = object ∷ []
or_object (k ∷ ks) = k ∷ ks

-- the types that are written behind a name
abbrev pub types_of : Typed Word → List Name
types_of x = or_object (names x.kinds)

-- the types of a domain: `object`, the names of `:types`, and those that stand there as parents
abbrev pub types : Domain Word → List Name
types d = object ∷ flat_map (λ x. x.word.text ∷ names x.kinds) d.kinds

-- The least reflexive and transitive order with each type below its parents, and every type below `object`.
pub data IsBelow (kinds : List (Typed Word)) : Name → Name → Type 0 where
  itself : {t : Name} → IsBelow kinds t t
  root : {t : Name} → IsBelow kinds t object
  parent : (x : Typed Word) (p : Name) → Member kinds x → Member (types_of x) p → IsBelow kinds x.word.text p
  onward : {t u v : Name} → IsBelow kinds t u → IsBelow kinds u v → IsBelow kinds t v

-- from a type one goes on by its own line of `:types`, or by a line of `object`, since every type is below that
abbrev pub leads : Typed Word → Name → Bool
leads x t = same x.word.text t || same x.word.text object

-- the same relation by at most n lines of `:types`, as a test
abbrev pub below_within : ℕ → List (Typed Word) → Name → Name → Bool
below_within zero kinds t u = same t u || same u object
below_within (suc n) kinds t u = (same t u || same u object) || list_any (λ x. leads x t && list_any (λ p. below_within n kinds p u) (types_of x)) kinds

-- whether a type is below another; no more lines are needed than there are
abbrev pub is_below : List (Typed Word) → Name → Name → Bool
is_below kinds t u = below_within (length kinds) kinds t u

-- the test decides the relation
abbrev pub IsTypeTestExact : Type 0
IsTypeTestExact = (kinds : List (Typed Word)) (t u : Name) → (is_below kinds t u ≡ true) ↔ IsBelow kinds t u

-- ---- objects

-- the lines that declare objects: the domain's constants, and then the problem's objects
abbrev pub object_lines : Domain Word → Problem Word → List (Typed Word)
object_lines d p = d.constants ++ p.objects

-- the objects, each once, in order of first mention
abbrev pub objects : Domain Word → Problem Word → List Name
objects d p = distinct (declared (object_lines d p))

-- whether some line gives the object a type that is below this one
abbrev pub is_of_type : Domain Word → Problem Word → Name → Name → Bool
is_of_type d p o t = list_any (λ x. same x.word.text o && list_any (λ k. is_below d.kinds k t) (types_of x)) (object_lines d p)

-- the objects that a variable may stand for: those of one of its types
abbrev pub range : Domain Word → Problem Word → Typed Word → List Name
range d p v = filter (λ o. list_any (is_of_type d p o) (types_of v)) (objects d p)
