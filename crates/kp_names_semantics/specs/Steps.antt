-- What an effect does to a state, and what the steps of a problem are.
use Rattle.std.specs.Prelude.{Bool, true, false, not, ◌&&◌, ◌||◌, List, [], ◌∷◌, ◌++◌, Option, Some, None, map, find}
use Rattle.std.specs.List.{list_any, flat_map}
use Rattle.kp_base.specs.declared.ground.GroundName.{GroundName}
use Rattle.kp_tree_grammar.specs.declared.tree.Word.{Word}
use Rattle.kp_tree_grammar.specs.Trees.{Typed, Eff, Effs, Schema, Domain, Problem}
use Rattle.kp_base.specs.Lists.{choices, only_if}
use Rattle.kp_names_semantics.specs.Names.{Name, same, all_same}
use Rattle.kp_names_semantics.specs.Types.{declared, range}
use Rattle.kp_names_semantics.specs.States.{State, Binding, unbound, bind, Literal, names_literal, literal, holds}

-- ---- effects

-- the lists with an object in the range of each variable, the first variable slowest
abbrev pub object_lists : Domain Word → Problem Word → List (Typed Word) → List (List Name)
object_lists d p xs = choices (map (range d p) xs)

-- the literals that an effect names in a state: those of all its parts, of what stands under a condition that holds, of the body for each list of objects
abbrev mutual
  pub fires : Domain Word → Problem Word → State → Binding → Eff Word → List Literal
  fires d p s b (Eff.both es) = all_fire d p s b es
  fires d p s b (Eff.when c e) = only_if (holds s b c) (fires d p s b e)
  fires d p s b (Eff.each xs e) = flat_map (λ os. fires d p s (bind (declared xs) os b) e) (object_lists d p xs)
  fires d p s b (Eff.makes positive a) = literal positive a b ∷ []

  pub all_fire : Domain Word → Problem Word → State → Binding → Effs Word → List Literal
  all_fire d p s b Effs.no_eff = []
  all_fire d p s b (Effs.more_effs e es) = fires d p s b e ++ all_fire d p s b es

-- some fired literal adds the atom
abbrev pub is_added : List Literal → Name → List Name → Bool
is_added fired h os = names_literal fired (record { positive = true; head = h; objects = os })

-- some fired literal deletes the atom
abbrev pub is_deleted : List Literal → Name → List Name → Bool
is_deleted fired h os = names_literal fired (record { positive = false; head = h; objects = os })

-- the deleted atoms go, and then the added ones come; one that is both is there at the end
abbrev pub after : List Literal → State → State
after fired s h os = is_added fired h os || (s h os && not (is_deleted fired h os))

-- ---- steps

-- a step by name: a schema and the objects for its parameters
abbrev pub Step : Type 0
Step = GroundName

-- the schema of a step
abbrev pub schema_of : Domain Word → Step → Option (Schema Word)
schema_of d i = find (λ a. same a.name.text i.head) d.schemas

-- the parameters of a schema stand for these objects
abbrev pub parameters : Schema Word → List Name → Binding
parameters a os = bind (declared a.params) os unbound

-- the objects are one of the lists for the schema's parameters
abbrev pub fits : Domain Word → Problem Word → Option (Schema Word) → List Name → Bool
fits d p None os = false
fits d p (Some a) os = list_any (all_same os) (object_lists d p a.params)

-- whether a step is an instance: it names a schema, and an object in the range of each of its parameters
abbrev pub is_instance : Domain Word → Problem Word → Step → Bool
is_instance d p i = fits d p (schema_of d i) i.objects

-- the precondition of the schema holds under the objects
abbrev pub permits : Option (Schema Word) → List Name → State → Bool
permits None os s = false
permits (Some a) os s = holds s (parameters a os) a.pre

-- whether a step may be taken in a state
abbrev pub applicable : Domain Word → Step → State → Bool
applicable d i s = permits (schema_of d i) i.objects s

-- the state after the effect under the objects; all conditions are read in the state before
abbrev pub state_by : Domain Word → Problem Word → Option (Schema Word) → List Name → State → State
state_by d p None os s = s
state_by d p (Some a) os s = after (fires d p s (parameters a os) a.effect) s

-- the state after a step
abbrev pub next : Domain Word → Problem Word → Step → State → State
next d p i s = state_by d p (schema_of d i) i.objects s
