-- The ground problem of a problem by number: its kept instances, its atoms and their numbers, its actions and its goal.
use Rattle.std.specs.Prelude.{◌≡◌, ℕ, suc, Bool, false, not, ◌&&◌, if◌then◌else◌, List, [], ◌∷◌, ◌++◌, Option, Some, None, map, filter, slice_get}
use Rattle.std.specs.List.{list_any, flat_map}
use Rattle.kp_base.specs.declared.lit.Lit.{Lit}
use Rattle.kp_base.specs.declared.ground.GroundName.{GroundName}
use Rattle.kp_base.specs.declared.ground.Effect.{Effect}
use Rattle.kp_base.specs.declared.ground.Action.{Action}
use Rattle.kp_base.specs.declared.ground.Ground.{Ground}
use Rattle.kp_base.specs.Planning.{Member, Atom, atom_before, same_atom, number_of, negated, same_lit, set_of}
use Rattle.kp_base.specs.Steps as steps
use Rattle.kp_base.specs.Steps.{has}
use Rattle.kp_base.specs.Implicates.{is_within}
use Rattle.kp_names_semantics.specs.declared.lifted.GroundLit.{GroundLit}
use Rattle.kp_names_semantics.specs.Problems.{Name, Schema, Lifted, Instance, bindings, name_at}
use Rattle.kp_names_semantics.specs.Lifted.{State, Binding, item_literals}
use Rattle.kp_ground_semantics.specs.declared.flat.FlatEffect.{FlatEffect}
use Rattle.kp_ground_semantics.specs.Static.{is_static, settled, remaining}
use Rattle.kp_ground_semantics.specs.Flattening.{flat, flat_of}

-- ---- kept instances

-- the lists of objects for which the static literals and equalities of the precondition are true
abbrev pub kept_bindings : Lifted → Schema → List Binding
kept_bindings l a = filter (λ os. settled l os a.pre) (bindings a.params)

-- the schema of this number with these objects
abbrev pub instance : ℕ → List ℕ → Instance
instance n os = record { schema = n; objects = os }

-- the kept instances of these schemas, the first of which has the number n
abbrev pub kept_from : Lifted → ℕ → List Schema → List Instance
kept_from l n [] = []
kept_from l n (a ∷ more) = map (instance n) (kept_bindings l a) ++ kept_from l (suc n) more

-- the kept instances, by schema and then by objects
abbrev pub kept_instances : Lifted → List Instance
kept_instances l = kept_from l 0 l.schemas

-- ---- which atoms there are

-- a literal's atom
abbrev pub atom_of : GroundLit → Atom
atom_of m = record { pred = m.pred; objects = m.objects }

-- the literals of an effect
abbrev pub effect_literals : FlatEffect → List GroundLit
effect_literals f = f.cond ++ f.result ∷ []

-- the literals of an instance, as often as they stand there
abbrev pub instance_literals : Lifted → Schema → List ℕ → List GroundLit
instance_literals l a os = remaining l os a.pre ++ flat_map effect_literals (flat l os a.effect)

-- the literals of the kept instances of a schema
abbrev pub kept_literals : Lifted → Schema → List GroundLit
kept_literals l a = flat_map (instance_literals l a) (kept_bindings l a)

-- the literals of `:init` whose predicates aren't static
abbrev pub open_literals : Lifted → List GroundLit
open_literals l = filter (λ m. not (is_static l m.pred)) (flat_map item_literals l.init)

-- the literals whose atoms are ground atoms: of the goal, of `:init` without static ones, and of kept instances
abbrev pub occurring : Lifted → List GroundLit
occurring l = l.goal ++ (open_literals l ++ flat_map (kept_literals l) l.schemas)

-- an atom put into an ascending list, if it isn't there
abbrev pub insert_atom : Atom → List Atom → List Atom
insert_atom a [] = a ∷ []
insert_atom a (b ∷ bs) = if atom_before a b then a ∷ b ∷ bs else if same_atom a b then b ∷ bs else b ∷ insert_atom a bs

-- the atoms in ascending order, each once
abbrev pub ascending_atoms : List Atom → List Atom
ascending_atoms [] = []
ascending_atoms (a ∷ more) = insert_atom a (ascending_atoms more)

-- the ground atoms, in order
abbrev pub ground_atoms : Lifted → List Atom
ground_atoms l = ascending_atoms (map atom_of (occurring l))

-- ---- numbers

-- a literal by its atom's number
abbrev pub numbered : List Atom → GroundLit → Lit
numbered atoms m = record { atom = record { 0 = number_of atoms (atom_of m) }; positive = m.positive }

-- literals by number, as a set
abbrev pub numbered_set : List Atom → List GroundLit → List Lit
numbered_set atoms ms = set_of (map (numbered atoms) ms)

-- ---- effects

-- an effect by number
abbrev pub numbered_effect : List Atom → FlatEffect → Effect
numbered_effect atoms f = record { cond = numbered_set atoms f.cond; result = numbered atoms f.result }

-- an idle delete: an add of its atom asks for nothing beyond the delete's condition and the precondition, so that where the delete fires in a step that may be taken, the add fires too
abbrev pub is_idle : List Lit → List Effect → Effect → Bool
is_idle pre es d = not d.result.positive && list_any (λ e. same_lit (negated d.result) e.result && is_within e.cond (d.cond ++ pre)) es

-- the effects without idle deletes
abbrev pub lasting : List Lit → List Effect → List Effect
lasting pre es = filter (λ e. not (is_idle pre es e)) es

-- ---- the ground problem

-- the names of objects
abbrev pub object_names : Lifted → List ℕ → List Name
object_names l os = map (name_at l.objects) os

-- an atom's name
abbrev pub atom_name : Lifted → Atom → GroundName
atom_name l a = record { head = name_at (map (λ q. q.name) l.predicates) a.pred; objects = object_names l a.objects }

-- the ground precondition of a schema with these objects
abbrev pub ground_pre : Lifted → List Atom → Schema → List ℕ → List Lit
ground_pre l atoms a os = numbered_set atoms (flat_of l a os).pre

-- its ground effects, without idle deletes
abbrev pub ground_effects : Lifted → List Atom → Schema → List ℕ → List Effect
ground_effects l atoms a os = lasting (ground_pre l atoms a os) (map (numbered_effect atoms) (flat_of l a os).effects)

-- its action
abbrev pub action_of : Lifted → List Atom → Schema → List ℕ → Action
action_of l atoms a os = record { name = record { head = a.name; objects = object_names l os }; pre = ground_pre l atoms a os; effects = ground_effects l atoms a os }

-- the actions of its kept instances
abbrev pub actions_of : Lifted → List Atom → Schema → List Action
actions_of l atoms a = map (action_of l atoms a) (kept_bindings l a)

-- the ground problem over any list of atoms
abbrev pub ground_over : Lifted → List Atom → Ground
ground_over l atoms = record {
  atoms = map (atom_name l) atoms;
  table = atoms;
  actions = flat_map (actions_of l atoms) l.schemas;
  goal = numbered_set atoms l.goal;
}

-- the ground problem
abbrev pub ground_of : Lifted → Ground
ground_of l = ground_over l (ground_atoms l)

-- ---- for laws alone

-- the list has each of its atoms once, and each ground atom
pub record IsNumbering (l : Lifted) (atoms : List Atom) : Type 0 where
  pub once : (n : ℕ) (a : Atom) → slice_get atoms n ≡ Some a → number_of atoms a ≡ n
  pub covers : (m : GroundLit) → Member (occurring l) m → slice_get atoms (number_of atoms (atom_of m)) ≡ Some (atom_of m)

-- whether there is such an atom and it is true
abbrev pub at_atom : State → Option Atom → Bool
at_atom s None = false
at_atom s (Some a) = s a.pred a.objects

-- a state, seen on the ground atoms alone
abbrev pub seen_on : List Atom → State → steps.State
seen_on atoms s n = at_atom s (slice_get atoms n)
