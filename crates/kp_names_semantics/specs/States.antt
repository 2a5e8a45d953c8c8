-- States, and when a condition holds in one.
use Rattle.std.specs.Prelude.{Bool, true, ◌&&◌, List, [], ◌∷◌, map, if◌then◌else◌}
use Rattle.std.specs.Bool.{beq}
use Rattle.std.specs.List.{list_any}
use Rattle.kp_tree_grammar.specs.declared.tree.Word.{Word}
use Rattle.kp_tree_grammar.specs.Trees.{Term, Atom, Cond, Conds}
use Rattle.kp_base.specs.Lists.{signed}
use Rattle.kp_names_semantics.specs.Names.{Name, same, all_same}

-- a state says of each predicate and each list of objects whether it holds of them
abbrev pub State : Type 0
State = Name → List Name → Bool

-- ---- variables

-- the object for which each variable stands
abbrev pub Binding : Type 0
Binding = Name → Name

-- outside all variables; the empty name is no object
abbrev pub unbound : Binding
unbound v = []

-- these variables stand for these objects, and hide outer variables of their names
abbrev pub bind : List Name → List Name → Binding → Binding
bind (v ∷ vs) (o ∷ os) b = bind vs os (λ w. if same w v then o else b w)
bind [] os b = b
bind (v ∷ vs) [] b = b

-- ---- literals

-- an atom by name, or its negation
pub record Literal : Type 0 where
  pub positive : Bool
  pub head : Name
  pub objects : List Name

-- whether two literals are one
abbrev pub same_literal : Literal → Literal → Bool
same_literal l m = beq l.positive m.positive && (same l.head m.head && all_same l.objects m.objects)

-- whether the literal stands in the list
abbrev pub names_literal : List Literal → Literal → Bool
names_literal ls l = list_any (same_literal l) ls

-- the object that a term stands for
abbrev pub object_of : Binding → Term Word → Name
object_of b (Term.name w) = w.text
object_of b (Term.variable w) = b w.text

-- an atom with objects for its terms, or its negation
abbrev pub literal : Bool → Atom Word → Binding → Literal
literal positive a b = record { positive = positive; head = a.head.text; objects = map (object_of b) a.terms }

-- ---- holding

-- the atom is in the state, or, of a negation, it isn't
abbrev pub literal_holds : State → Literal → Bool
literal_holds s l = signed l.positive (s l.head l.objects)

-- whether a condition holds in a state under a binding: all parts, an atom, or both sides one object
abbrev mutual
  pub holds : State → Binding → Cond Word → Bool
  holds s b (Cond.all cs) = all_hold s b cs
  holds s b (Cond.atom positive a) = literal_holds s (literal positive a b)
  holds s b (Cond.same positive left right) = signed positive (same (object_of b left) (object_of b right))

  pub all_hold : State → Binding → Conds Word → Bool
  all_hold s b Conds.no_cond = true
  all_hold s b (Conds.more_conds c cs) = holds s b c && all_hold s b cs
