-- Faults of names: which tokens of two trees name nothing, declare twice, or use a predicate wrongly.
use Rattle.std.specs.Prelude.{◌≡◌, ◌≤◌, ℕ, not, ◌==◌, List, [], ◌∷◌, ◌++◌, Option, Some, None, map, find, length}
use Rattle.std.specs.List.{flat_map}
use Rattle.kp_tree_grammar.specs.declared.tree.Word.{Word}
use Rattle.kp_tree_grammar.specs.Trees.{Typed, Term, Atom, Cond, Conds, Eff, Effs, Lit, Item, Items, Pred, Schema, Domain, Problem}
use Rattle.kp_base.specs.Lists.{only_if, Member}
use Rattle.kp_names_semantics.specs.Names.{Name, same, is_among}
use Rattle.kp_names_semantics.specs.Types.{declared, types, object_lines}

-- what is wrong at the token that begins at this byte
pub data Fault : Type 0 where
  unknown_name : ℕ → Fault
  declared_twice : ℕ → Fault
  wrong_use : ℕ → Fault

-- a word that is none of the names
abbrev pub unless_among : List Name → Word → List Fault
unless_among xs w = only_if (not (is_among xs w.text)) (unknown_name w.byte ∷ [])

-- the words whose names stand earlier
abbrev pub repeated : List Name → List Word → List Fault
repeated earlier [] = []
repeated earlier (w ∷ ws) = only_if (is_among earlier w.text) (declared_twice w.byte ∷ []) ++ repeated (w.text ∷ earlier) ws

-- a name that an earlier word of the list has
abbrev pub twice_in : List Word → List Fault
twice_in ws = repeated [] ws

-- the words that a typed list declares
abbrev pub words : List (Typed Word) → List Word
words xs = map (λ x. x.word) xs

-- types behind constants, objects and variables that are no types
abbrev pub type_faults : Domain Word → List (Typed Word) → List Fault
type_faults d xs = flat_map (λ x. flat_map (unless_among (types d)) x.kinds) xs

-- in a list of variables: unknown types, and a variable that stands twice
abbrev pub variable_faults : Domain Word → List (Typed Word) → List Fault
variable_faults d xs = type_faults d xs ++ twice_in (words xs)

-- the variables that may be named where a list of variables is declared within a scope: the last declared comes first, and the scope's come behind
abbrev pub inside : List Name → List Name → List Name
inside [] scope = scope
inside (v ∷ vs) scope = inside vs (v ∷ scope)

-- a name that is no object, or a variable that isn't among those round it
abbrev pub term_faults : Domain Word → Problem Word → List Name → Term Word → List Fault
term_faults d p scope (Term.name w) = unless_among (declared (object_lines d p)) w
term_faults d p scope (Term.variable w) = unless_among scope w

-- the declaration of an atom's predicate: the first of its name
abbrev pub predicate_of : Domain Word → Atom Word → Option (Pred Word)
predicate_of d a = find (λ q. same q.head.text a.head.text) d.predicates

-- a head that is no predicate, or whose predicate has another number of terms
abbrev pub head_faults : Option (Pred Word) → Atom Word → List Fault
head_faults None a = unknown_name a.head.byte ∷ []
head_faults (Some q) a = only_if (not (length q.params == length a.terms)) (wrong_use a.head.byte ∷ [])

-- faults of an atom under these variables
abbrev pub atom_faults : Domain Word → Problem Word → List Name → Atom Word → List Fault
atom_faults d p scope a = head_faults (predicate_of d a) a ++ flat_map (term_faults d p scope) a.terms

-- faults of a condition
abbrev mutual
  pub cond_faults : Domain Word → Problem Word → List Name → Cond Word → List Fault
  cond_faults d p scope (Cond.all cs) = conds_faults d p scope cs
  cond_faults d p scope (Cond.atom positive a) = atom_faults d p scope a
  cond_faults d p scope (Cond.same positive left right) = term_faults d p scope left ++ term_faults d p scope right

  pub conds_faults : Domain Word → Problem Word → List Name → Conds Word → List Fault
  conds_faults d p scope Conds.no_cond = []
  conds_faults d p scope (Conds.more_conds c cs) = cond_faults d p scope c ++ conds_faults d p scope cs

-- faults of an effect
abbrev mutual
  pub eff_faults : Domain Word → Problem Word → List Name → Eff Word → List Fault
  eff_faults d p scope (Eff.both es) = effs_faults d p scope es
  eff_faults d p scope (Eff.when c e) = cond_faults d p scope c ++ eff_faults d p scope e
  eff_faults d p scope (Eff.each xs e) = variable_faults d xs ++ eff_faults d p (inside (declared xs) scope) e
  eff_faults d p scope (Eff.makes positive a) = atom_faults d p scope a

  pub effs_faults : Domain Word → Problem Word → List Name → Effs Word → List Fault
  effs_faults d p scope Effs.no_eff = []
  effs_faults d p scope (Effs.more_effs e es) = eff_faults d p scope e ++ effs_faults d p scope es

-- faults of a schema, whose parameters are the variables round its precondition and effect
abbrev pub schema_faults : Domain Word → Problem Word → Schema Word → List Fault
schema_faults d p a = variable_faults d a.params ++ (cond_faults d p (inside (declared a.params) []) a.pre ++ eff_faults d p (inside (declared a.params) []) a.effect)

-- faults of a literal of `oneof` or `or`
abbrev pub lit_faults : Domain Word → Problem Word → Lit Word → List Fault
lit_faults d p l = atom_faults d p [] l.atom

-- faults of an item of `:init`
abbrev mutual
  pub item_faults : Domain Word → Problem Word → Item Word → List Fault
  item_faults d p (Item.items is) = items_faults d p is
  item_faults d p (Item.fact positive a) = atom_faults d p [] a
  item_faults d p (Item.one_of w ls) = flat_map (lit_faults d p) ls
  item_faults d p (Item.any_of w ls) = flat_map (lit_faults d p) ls
  item_faults d p (Item.unknown w a) = atom_faults d p [] a

  pub items_faults : Domain Word → Problem Word → Items Word → List Fault
  items_faults d p Items.no_item = []
  items_faults d p (Items.more_items i is) = item_faults d p i ++ items_faults d p is

-- faults in declarations of predicates: a predicate declared again, or a variable that comes again in its list; their types are not looked up
abbrev pub predicate_faults : List (Pred Word) → List Fault
predicate_faults qs = twice_in (map (λ q. q.head) qs) ++ flat_map (λ q. twice_in (words q.params)) qs

-- all faults of the domain
abbrev pub domain_faults : Domain Word → Problem Word → List Fault
domain_faults d p = type_faults d d.constants ++ (predicate_faults d.predicates ++ (twice_in (map (λ a. a.name) d.schemas) ++ flat_map (schema_faults d p) d.schemas))

-- all faults of the problem
abbrev pub problem_faults : Domain Word → Problem Word → List Fault
problem_faults d p = type_faults d p.objects ++ (flat_map (item_faults d p) p.init ++ cond_faults d p [] p.goal)

-- no token of either tree has a fault
pub record HasNoFault (d : Domain Word) (p : Problem Word) : Type 0 where
  pub domain : domain_faults d p ≡ []
  pub problem : problem_faults d p ≡ []

-- where the token of a fault begins
abbrev pub byte_of : Fault → ℕ
byte_of (unknown_name byte) = byte
byte_of (declared_twice byte) = byte
byte_of (wrong_use byte) = byte

-- the fault of the list whose token comes first in the text
pub record IsFirst (fs : List Fault) (f : Fault) : Type 0 where
  pub among : Member fs f
  pub least : (g : Fault) → Member fs g → byte_of f ≤ byte_of g
