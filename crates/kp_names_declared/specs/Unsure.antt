-- The items of `:init` that leave the initial state open: `oneof`, `or` and `unknown`.
use Rattle.std.specs.Prelude.{ℕ, List, [], ◌∷◌, Option, Some, None}
use Rattle.kp_base.specs.declared.refused.Part.TheVariants as parts
use Rattle.kp_base.specs.declared.refused.Place.{Place}
use Rattle.kp_lex.specs.Places.{place_of}
use Rattle.kp_tree_grammar.specs.declared.tree.Word.{Word}
use Rattle.kp_tree_grammar.specs.Trees.{Item, Items, no_item, more_items, Problem}

-- the first of two, where there is one
abbrev pub or_else : {A : Type 0} → Option A → Option A → Option A
or_else None other = other
or_else (Some x) other = Some x

-- the word of the first `oneof`, `or` or `unknown` in an item
abbrev mutual
  pub unsure_item : Item Word → Option Word
  unsure_item (Item.items is) = unsure_items is
  unsure_item (Item.fact positive a) = None
  unsure_item (Item.one_of w ls) = Some w
  unsure_item (Item.any_of w ls) = Some w
  unsure_item (Item.unknown w a) = Some w

  pub unsure_items : Items Word → Option Word
  unsure_items no_item = None
  unsure_items (more_items i is) = or_else (unsure_item i) (unsure_items is)

-- the same of a list of items
abbrev pub first_unsure : List (Item Word) → Option Word
first_unsure [] = None
first_unsure (i ∷ is) = or_else (unsure_item i) (first_unsure is)

-- the place of a word of the problem
abbrev pub place_in : List ℕ → Option Word → Option Place
place_in problem None = None
place_in problem (Some w) = Some (place_of parts.Problem problem w.byte)

-- the place of the first `oneof`, `or` or `unknown` of `:init`
abbrev pub unsure_place : List ℕ → Problem Word → Option Place
unsure_place problem p = place_in problem (first_unsure p.init)
