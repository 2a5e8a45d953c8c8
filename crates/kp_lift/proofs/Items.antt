-- Elements of lists, and tests that all of them pass.
use Rattle.std.proofs.Common.{◌≡◌, ◌<◌, ◌+◌, ℕ, Bool, true, List, ◌∷◌, drop, length, get_or, Some, slice_get, nat_lt, ap, ◌∙◌}
use Rattle.std.proofs.lemmas.Bool.{and_parts, lt-ltb}
use Rattle.std.proofs.lemmas.List.{drop_more}
use Rattle.std.proofs.lemmas.Option.{slice_get-get_or, slice_get_within, get_or_from_slice_get}
use Rattle.std.specs.List.{list_all}
use Rattle.kp_base.specs.declared.ground.Action.{Action}
use Rattle.kp_base.specs.declared.ground.Ground.{Ground}
use Rattle.kp_base.specs.declared.ground.Merge.{Merge}
use Rattle.kp_base.specs.declared.ground.TagTable.{TagTable}
use Rattle.kp_base.specs.Implicates.{are_below, effect_below, action_below, IsOfItsAtoms}
use Rattle.kp_base.proofs.Lists.{all_member, all_from, member_at}
use Rattle.kp_lift.specs.Lifting.{IsTableOn}

-- what all pass, the element at a place passes
pub all_at : {X : Type 0} (p : X → Bool) (xs : List X) (n : ℕ) (x : X) → list_all p xs ≡ true → slice_get xs n ≡ Some x → p x ≡ true
all_at p xs n x all is = all_member p xs x (member_at xs n x is) all

-- an element by its place
pub item_at : {X : Type 0} (p : X → Bool) (xs : List X) (n : ℕ) (d : X) → list_all p xs ≡ true → n < length xs → p (get_or xs n d) ≡ true
item_at p xs n d all lt = all_at p xs n (get_or xs n d) all (slice_get-get_or xs n d lt)

-- the tags of a merge are those of the table
pub tags_below : (g : Ground) (table : TagTable) → IsTableOn g table → (n : ℕ) (m : Merge) → slice_get table.merges n ≡ Some m → list_all (λ t. nat_lt t (length table.tags)) m.tags ≡ true
tags_below g table on n m is = all_from (λ t. nat_lt t (length table.tags)) m.tags (λ t among. lt-ltb t (length table.tags) (on.tags m t (member_at table.merges n m is) among))

-- its target is of the atoms
pub target_below : (g : Ground) (table : TagTable) → IsTableOn g table → (n : ℕ) (m : Merge) → slice_get table.merges n ≡ Some m → m.target.atom.0 < length g.atoms
target_below g table on n m is = on.targets m (member_at table.merges n m is)

-- the closures are of the atoms
pub closures_below : (g : Ground) (table : TagTable) → IsTableOn g table → list_all (λ row. are_below (length g.atoms) row.closure) table.tags ≡ true
closures_below g table on = all_from (λ row. are_below (length g.atoms) row.closure) table.tags on.closures

-- an action is of the atoms
pub action_at : (g : Ground) → IsOfItsAtoms g → (n : ℕ) (a : Action) → slice_get g.actions n ≡ Some a → action_below (length g.atoms) a ≡ true
action_at g of n a is = all_at (action_below (length g.atoms)) g.actions n a of.actions is

-- its precondition is
pub pre_at : (g : Ground) → IsOfItsAtoms g → (n : ℕ) (a : Action) → slice_get g.actions n ≡ Some a → are_below (length g.atoms) a.pre ≡ true
pre_at g of n a is = (and_parts (are_below (length g.atoms) a.pre) (list_all (effect_below (length g.atoms)) a.effects) (action_at g of n a is)).0

-- the list from a place on begins with its element
pub drop_item : {X : Type 0} (xs : List X) (i : ℕ) (x : X) → slice_get xs i ≡ Some x → drop i xs ≡ x ∷ drop (i + 1) xs
drop_item xs i x is = drop_more xs i x (slice_get_within xs i x is) ∙ ap (λ y. y ∷ drop (i + 1) xs) (get_or_from_slice_get xs i x x is)
