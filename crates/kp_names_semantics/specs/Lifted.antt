-- Literals, bindings and items of a problem by number; and, for laws alone, its steps, initial states and plans.
use Rattle.std.specs.Prelude.{◌≡◌, ◌==◌, ℕ, Bool, true, false, not, ◌&&◌, ◌||◌, List, [], ◌∷◌, ◌++◌, Option, Some, None, map, slice_get, slice_index}
use Rattle.std.specs.Bool.{beq}
use Rattle.std.specs.List.{list_any, list_all, flat_map}
use Rattle.kp_names_semantics.specs.declared.lifted.Term.{Term}
use Rattle.kp_names_semantics.specs.declared.lifted.Range.{Range}
use Rattle.kp_names_semantics.specs.declared.lifted.GroundLit.{GroundLit}
use Rattle.kp_names_semantics.specs.declared.lifted.Item.{Item}
use Rattle.kp_base.specs.Lists.{signed, choices, only_if}
use Rattle.kp_names_semantics.specs.Names.{same}
use Rattle.kp_names_semantics.specs.Numbered.{Cond, Conds, Eff, Effs, Schema, Lifted}

-- a state says of each predicate and each list of objects whether it holds of them
abbrev pub State : Type 0
State = ℕ → List ℕ → Bool

-- the objects for which the variables stand, by the variable's number
abbrev pub Binding : Type 0
Binding = List ℕ

-- the object that a term stands for
abbrev pub object_of : Binding → Term → ℕ
object_of b (Term.Param i) = slice_index b i
object_of b (Term.Object o) = o

-- ---- literals

-- an atom with these objects, or its negation
abbrev pub ground : Bool → ℕ → List ℕ → GroundLit
ground positive q os = record { positive = positive; pred = q; objects = os }

-- an atom with objects for its terms, or its negation
abbrev pub literal : Bool → ℕ → List Term → Binding → GroundLit
literal positive q ts b = ground positive q (map (object_of b) ts)

-- whether two literals are one
abbrev pub same_literal : GroundLit → GroundLit → Bool
same_literal l m = beq l.positive m.positive && (l.pred == m.pred && same l.objects m.objects)

-- whether the literal stands in the list
abbrev pub names_literal : List GroundLit → GroundLit → Bool
names_literal ls l = list_any (same_literal l) ls

-- the atom is in the state, or, of a negation, it isn't
abbrev pub literal_holds : State → GroundLit → Bool
literal_holds s l = signed l.positive (s l.pred l.objects)

-- ---- bindings and instances

-- the lists with an object in the range of each variable, the first variable slowest
abbrev pub bindings : List Range → List Binding
bindings rs = choices (map (λ r. r.objects) rs)

-- a step by number: a schema and the objects for its parameters
pub record Instance : Type 0 where
  pub schema : ℕ
  pub objects : List ℕ

-- ---- items

-- the literals that stand in an item
abbrev pub item_literals : Item → List GroundLit
item_literals (Item.One l) = l ∷ []
item_literals (Item.OneOf ls) = ls
item_literals (Item.AnyOf ls) = ls
item_literals (Item.Unknown l) = l ∷ []

-- the literal is of this atom
abbrev pub is_of : ℕ → List ℕ → GroundLit → Bool
is_of q os l = l.pred == q && same l.objects os

-- some item names the atom
abbrev pub is_named : Lifted → ℕ → List ℕ → Bool
is_named l q os = list_any (λ i. list_any (is_of q os) (item_literals i)) l.init

-- ---- for laws alone: what steps, initial states and plans by number are

-- whether a condition holds in a state under a binding: all parts, an atom, or both sides one object
abbrev mutual
  pub holds : State → Binding → Cond → Bool
  holds s b (Cond.all cs) = all_hold s b cs
  holds s b (Cond.atom positive q ts) = literal_holds s (literal positive q ts b)
  holds s b (Cond.same positive left right) = signed positive (object_of b left == object_of b right)

  pub all_hold : State → Binding → Conds → Bool
  all_hold s b Conds.no_cond = true
  all_hold s b (Conds.more_conds c cs) = holds s b c && all_hold s b cs

-- the literals that an effect names in a state: those of all its parts, of what stands under a condition that holds, of the body for each list of objects; inner variables are numbered after the outer ones
abbrev mutual
  pub fires : State → Binding → Eff → List GroundLit
  fires s b (Eff.both es) = all_fire s b es
  fires s b (Eff.when c e) = only_if (holds s b c) (fires s b e)
  fires s b (Eff.each rs e) = flat_map (λ os. fires s (b ++ os) e) (bindings rs)
  fires s b (Eff.makes positive q ts) = literal positive q ts b ∷ []

  pub all_fire : State → Binding → Effs → List GroundLit
  all_fire s b Effs.no_eff = []
  all_fire s b (Effs.more_effs e es) = fires s b e ++ all_fire s b es

-- the deleted atoms go, and then the added ones come; one that is both is there at the end
abbrev pub after : List GroundLit → State → State
after fired s q os = names_literal fired (ground true q os) || (s q os && not (names_literal fired (ground false q os)))

-- the schema of a step
abbrev pub schema_of : Lifted → Instance → Option Schema
schema_of l i = slice_get l.schemas i.schema

-- the objects are one of the lists for the schema's parameters
abbrev pub fits : Option Schema → List ℕ → Bool
fits None os = false
fits (Some a) os = list_any (same os) (bindings a.params)

-- whether there is such a schema, with each object in the range of its parameter
abbrev pub is_instance : Lifted → Instance → Bool
is_instance l i = fits (schema_of l i) i.objects

-- the precondition of the schema holds under the objects
abbrev pub permits : Option Schema → List ℕ → State → Bool
permits None os s = false
permits (Some a) os s = holds s os a.pre

-- whether a step may be taken in a state
abbrev pub applicable : Lifted → Instance → State → Bool
applicable l i s = permits (schema_of l i) i.objects s

-- the state after the effect under the objects; all conditions are read in the state before
abbrev pub state_by : Option Schema → List ℕ → State → State
state_by None os s = s
state_by (Some a) os s = after (fires s os a.effect) s

-- the state after a step
abbrev pub next : Lifted → Instance → State → State
next l i s = state_by (schema_of l i) i.objects s

-- from a state on, each step's precondition holds in its turn, and the goal at the end
abbrev pub succeeds : Lifted → List Instance → State → Bool
succeeds l [] s = list_all (literal_holds s) l.goal
succeeds l (i ∷ is) s = applicable l i s && succeeds l is (next l i s)

-- exactly one of the different literals holds: one does, and each that does is that one
abbrev pub one_holds : State → List GroundLit → Bool
one_holds s ls = list_any (λ l. literal_holds s l && list_all (λ m. not (literal_holds s m) || same_literal l m) ls) ls

-- whether an item holds in a state; `unknown` holds in all
abbrev pub item_holds : State → Item → Bool
item_holds s (Item.One l) = literal_holds s l
item_holds s (Item.OneOf ls) = one_holds s ls
item_holds s (Item.AnyOf ls) = list_any (literal_holds s) ls
item_holds s (Item.Unknown l) = true

-- all that `:init` states is true, and nothing holds that it doesn't mention
pub record IsInitial (l : Lifted) (s : State) : Type 0 where
  pub items : list_all (item_holds s) l.init ≡ true
  pub absent : (q : ℕ) (os : List ℕ) → is_named l q os ≡ false → s q os ≡ false

-- each step is an instance, and whichever state is initial, the steps succeed from it
pub record IsPlan (l : Lifted) (is : List Instance) : Type 0 where
  pub instances : list_all (is_instance l) is ≡ true
  pub reaches : (s : State) → IsInitial l s → succeeds l is s ≡ true
