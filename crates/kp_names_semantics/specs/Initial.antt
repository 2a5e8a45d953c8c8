-- The initial states of a problem.
use Rattle.std.specs.Prelude.{◌≡◌, Bool, true, false, not, ◌&&◌, ◌||◌, List, [], ◌∷◌, ◌++◌, map}
use Rattle.std.specs.List.{list_any, list_all}
use Rattle.kp_tree_grammar.specs.declared.tree.Word.{Word}
use Rattle.kp_tree_grammar.specs.Trees.{Lit, Item, Items, Problem}
use Rattle.kp_names_semantics.specs.Names.{Name, same, all_same}
use Rattle.kp_names_semantics.specs.States.{State, unbound, Literal, same_literal, literal, literal_holds}

-- a literal of `oneof` or `or`, by name
abbrev pub by_name : Lit Word → Literal
by_name l = literal l.positive l.atom unbound

-- exactly one of the different literals holds: one does, and each that does is that one
abbrev pub one_holds : State → List Literal → Bool
one_holds s ls = list_any (λ l. literal_holds s l && list_all (λ m. not (literal_holds s m) || same_literal l m) ls) ls

-- whether an item holds in a state; `unknown` holds in all
abbrev mutual
  pub item_holds : State → Item Word → Bool
  item_holds s (Item.items is) = items_hold s is
  item_holds s (Item.fact positive a) = literal_holds s (literal positive a unbound)
  item_holds s (Item.one_of w ls) = one_holds s (map by_name ls)
  item_holds s (Item.any_of w ls) = list_any (literal_holds s) (map by_name ls)
  item_holds s (Item.unknown w a) = true

  pub items_hold : State → Items Word → Bool
  items_hold s Items.no_item = true
  items_hold s (Items.more_items i is) = item_holds s i && items_hold s is

-- the literals that stand in an item
abbrev mutual
  pub item_literals : Item Word → List Literal
  item_literals (Item.items is) = items_literals is
  item_literals (Item.fact positive a) = literal positive a unbound ∷ []
  item_literals (Item.one_of w ls) = map by_name ls
  item_literals (Item.any_of w ls) = map by_name ls
  item_literals (Item.unknown w a) = literal true a unbound ∷ []

  pub items_literals : Items Word → List Literal
  items_literals Items.no_item = []
  items_literals (Items.more_items i is) = item_literals i ++ items_literals is

-- the literal is of this atom
abbrev pub is_of : Name → List Name → Literal → Bool
is_of h os l = same l.head h && all_same l.objects os

-- some item names the atom
abbrev pub is_named : Problem Word → Name → List Name → Bool
is_named p h os = list_any (λ i. list_any (is_of h os) (item_literals i)) p.init

-- all that `:init` states is true, and nothing holds that it doesn't mention
pub record IsInitial (p : Problem Word) (s : State) : Type 0 where
  pub items : list_all (item_holds s) p.init ≡ true
  pub absent : (h : Name) (os : List Name) → is_named p h os ≡ false → s h os ≡ false

-- some state is initial
pub record HasInitialState (p : Problem Word) : Type 0 where
  pub state : State
  pub is_initial : IsInitial p state
