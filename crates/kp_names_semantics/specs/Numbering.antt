-- The problem by number of two trees; and, for laws alone, names put back.
use Rattle.std.specs.Prelude.{◌≡◌, ◌<◌, nat_lt, ℕ, zero, suc, Bool, true, if◌then◌else◌, List, [], ◌∷◌, ◌++◌, map, length}
use Rattle.std.specs.List.{flat_map, list_all}
use Rattle.kp_tree_grammar.specs.declared.tree.Word.{Word}
use Rattle.kp_tree_grammar.specs.Trees as trees
use Rattle.kp_tree_grammar.specs.Trees.{Typed, Domain, Problem}
use Rattle.kp_names_semantics.specs.declared.lifted.Term.{Term}
use Rattle.kp_names_semantics.specs.declared.lifted.Range.{Range}
use Rattle.kp_names_semantics.specs.declared.lifted.Pred.{Pred}
use Rattle.kp_names_semantics.specs.declared.lifted.GroundLit.{GroundLit}
use Rattle.kp_names_semantics.specs.declared.lifted.Item.{Item}
use Rattle.kp_names_semantics.specs.Names.{Name, same}
use Rattle.kp_names_semantics.specs.Types.{names, declared, objects, range}
use Rattle.kp_names_semantics.specs.Faults.{inside}
use Rattle.kp_names_semantics.specs.States as named
use Rattle.kp_names_semantics.specs.States.{Literal}
use Rattle.kp_names_semantics.specs.Steps.{Step}
use Rattle.kp_names_semantics.specs.Numbered.{Cond, Conds, Eff, Effs, Schema, Lifted}
use Rattle.kp_names_semantics.specs.Lifted.{State, Instance, ground}

-- ---- numbers of names

-- where a name stands first
abbrev pub index_of : List Name → Name → ℕ
index_of [] x = 0
index_of (y ∷ ys) x = if same y x then 0 else suc (index_of ys x)

-- the name that stands there; none where there is none
abbrev pub name_at : List Name → ℕ → Name
name_at [] n = []
name_at (x ∷ xs) zero = x
name_at (x ∷ xs) (suc n) = name_at xs n

-- the names of predicates, in order
abbrev pub heads : Domain Word → List Name
heads d = names (map (λ q. q.head) d.predicates)

-- the names of schemas, in order
abbrev pub schema_names : Domain Word → List Name
schema_names d = names (map (λ a. a.name) d.schemas)

-- a variable's number among those round it, the innermost first: how many stand outside it
abbrev pub variable_number : List Name → Name → ℕ
variable_number [] v = 0
variable_number (w ∷ ws) v = if same w v then length ws else variable_number ws v

-- ---- trees by number

-- a term under these variables
abbrev pub numbered_term : Domain Word → Problem Word → List Name → trees.Term Word → Term
numbered_term d p scope (trees.Term.name w) = Term.Object (index_of (objects d p) w.text)
numbered_term d p scope (trees.Term.variable w) = Term.Param (variable_number scope w.text)

-- the terms of an atom
abbrev pub numbered_terms : Domain Word → Problem Word → List Name → trees.Atom Word → List Term
numbered_terms d p scope a = map (numbered_term d p scope) a.terms

-- the predicate of an atom
abbrev pub numbered_head : Domain Word → trees.Atom Word → ℕ
numbered_head d a = index_of (heads d) a.head.text

-- the range of a variable
abbrev pub numbered_range : Domain Word → Problem Word → Typed Word → Range
numbered_range d p x = record { objects = map (index_of (objects d p)) (range d p x) }

-- a condition
abbrev mutual
  pub numbered_cond : Domain Word → Problem Word → List Name → trees.Cond Word → Cond
  numbered_cond d p scope (trees.Cond.all cs) = Cond.all (numbered_conds d p scope cs)
  numbered_cond d p scope (trees.Cond.atom positive a) = Cond.atom positive (numbered_head d a) (numbered_terms d p scope a)
  numbered_cond d p scope (trees.Cond.same positive left right) = Cond.same positive (numbered_term d p scope left) (numbered_term d p scope right)

  pub numbered_conds : Domain Word → Problem Word → List Name → trees.Conds Word → Conds
  numbered_conds d p scope trees.Conds.no_cond = Conds.no_cond
  numbered_conds d p scope (trees.Conds.more_conds c cs) = Conds.more_conds (numbered_cond d p scope c) (numbered_conds d p scope cs)

-- an effect
abbrev mutual
  pub numbered_eff : Domain Word → Problem Word → List Name → trees.Eff Word → Eff
  numbered_eff d p scope (trees.Eff.both es) = Eff.both (numbered_effs d p scope es)
  numbered_eff d p scope (trees.Eff.when c e) = Eff.when (numbered_cond d p scope c) (numbered_eff d p scope e)
  numbered_eff d p scope (trees.Eff.each xs e) = Eff.each (map (numbered_range d p) xs) (numbered_eff d p (inside (declared xs) scope) e)
  numbered_eff d p scope (trees.Eff.makes positive a) = Eff.makes positive (numbered_head d a) (numbered_terms d p scope a)

  pub numbered_effs : Domain Word → Problem Word → List Name → trees.Effs Word → Effs
  numbered_effs d p scope trees.Effs.no_eff = Effs.no_eff
  numbered_effs d p scope (trees.Effs.more_effs e es) = Effs.more_effs (numbered_eff d p scope e) (numbered_effs d p scope es)

-- a schema, whose parameters are the variables round its precondition and effect
abbrev pub numbered_schema : Domain Word → Problem Word → trees.Schema Word → Schema
numbered_schema d p a = record {
  name = a.name.text;
  params = map (numbered_range d p) a.params;
  pre = numbered_cond d p (inside (declared a.params) []) a.pre;
  effect = numbered_eff d p (inside (declared a.params) []) a.effect;
}

-- the object that a term names; no variable stands in `:init` or the goal
abbrev pub object_number : Domain Word → Problem Word → trees.Term Word → ℕ
object_number d p (trees.Term.name w) = index_of (objects d p) w.text
object_number d p (trees.Term.variable w) = 0

-- an atom of `:init` or the goal, or its negation
abbrev pub numbered_literal : Domain Word → Problem Word → Bool → trees.Atom Word → GroundLit
numbered_literal d p positive a = ground positive (numbered_head d a) (map (object_number d p) a.terms)

-- a literal of `oneof` or `or`
abbrev pub numbered_lit : Domain Word → Problem Word → trees.Lit Word → GroundLit
numbered_lit d p l = numbered_literal d p l.positive l.atom

-- what an item of `:init` states; those of an `and` are joined, in order
abbrev mutual
  pub numbered_item : Domain Word → Problem Word → trees.Item Word → List Item
  numbered_item d p (trees.Item.items is) = numbered_items d p is
  numbered_item d p (trees.Item.fact positive a) = Item.One (numbered_literal d p positive a) ∷ []
  numbered_item d p (trees.Item.one_of w ls) = Item.OneOf (map (numbered_lit d p) ls) ∷ []
  numbered_item d p (trees.Item.any_of w ls) = Item.AnyOf (map (numbered_lit d p) ls) ∷ []
  numbered_item d p (trees.Item.unknown w a) = Item.Unknown (numbered_literal d p true a) ∷ []

  pub numbered_items : Domain Word → Problem Word → trees.Items Word → List Item
  numbered_items d p trees.Items.no_item = []
  numbered_items d p (trees.Items.more_items i is) = numbered_item d p i ++ numbered_items d p is

-- the literals of a goal, those of an `and` joined, in order; the grammar has no equality there
abbrev mutual
  pub numbered_goal : Domain Word → Problem Word → trees.Cond Word → List GroundLit
  numbered_goal d p (trees.Cond.all cs) = numbered_goals d p cs
  numbered_goal d p (trees.Cond.atom positive a) = numbered_literal d p positive a ∷ []
  numbered_goal d p (trees.Cond.same positive left right) = []

  pub numbered_goals : Domain Word → Problem Word → trees.Conds Word → List GroundLit
  numbered_goals d p trees.Conds.no_cond = []
  numbered_goals d p (trees.Conds.more_conds c cs) = numbered_goal d p c ++ numbered_goals d p cs

-- a predicate
abbrev pub numbered_pred : trees.Pred Word → Pred
numbered_pred q = record { name = q.head.text; arity = length q.params }

-- the problem by number
abbrev pub numbered_problem : Domain Word → Problem Word → Lifted
numbered_problem d p = record {
  objects = objects d p;
  predicates = map numbered_pred d.predicates;
  schemas = map (numbered_schema d p) d.schemas;
  init = flat_map (numbered_item d p) p.init;
  goal = numbered_goal d p p.goal;
}

-- ---- names put back; for laws alone

-- objects
abbrev pub named_objects : Domain Word → Problem Word → List ℕ → List Name
named_objects d p os = map (name_at (objects d p)) os

-- a literal
abbrev pub named_literal : Domain Word → Problem Word → GroundLit → Literal
named_literal d p l = record { positive = l.positive; head = name_at (heads d) l.pred; objects = named_objects d p l.objects }

-- a step
abbrev pub named_step : Domain Word → Problem Word → Instance → Step
named_step d p i = record { head = name_at (schema_names d) i.schema; objects = named_objects d p i.objects }

-- each number is an object's
abbrev pub AreObjects : Domain Word → Problem Word → List ℕ → Type 0
AreObjects d p os = list_all (λ o. nat_lt o (length (objects d p))) os ≡ true

-- a state by name and one by number say the same of each atom
abbrev pub Agree : Domain Word → Problem Word → named.State → State → Type 0
Agree d p s t = (q : ℕ) (os : List ℕ) → q < length (heads d) → AreObjects d p os → t q os ≡ s (name_at (heads d) q) (named_objects d p os)
