-- The trees of the grammar, over any type of words: with their places for files, without for written texts.
use Rattle.std.specs.Prelude.{List, [], ◌∷◌, Bool}

-- a word with the types that are written for it
pub record Typed (W : Type 0) : Type 0 where
  pub word : W
  pub kinds : List W

-- an object by its name, or a variable
pub data Term (W : Type 0) : Type 0 where
  name : W → Term W
  variable : W → Term W

-- a predicate with its terms
pub record Atom (W : Type 0) : Type 0 where
  pub head : W
  pub terms : List (Term W)

-- a condition: a conjunction, an atom or its negation, an equality or its negation
mutual
  pub data Cond (W : Type 0) : Type 0 where
    all : Conds W → Cond W
    atom : Bool → Atom W → Cond W
    same : Bool → Term W → Term W → Cond W

  pub data Conds (W : Type 0) : Type 0 where
    no_cond : Conds W
    more_conds : Cond W → Conds W → Conds W

-- an effect: several together, one under a condition, one for all objects, an add or a delete
mutual
  pub data Eff (W : Type 0) : Type 0 where
    both : Effs W → Eff W
    when : Cond W → Eff W → Eff W
    each : List (Typed W) → Eff W → Eff W
    makes : Bool → Atom W → Eff W

  pub data Effs (W : Type 0) : Type 0 where
    no_eff : Effs W
    more_effs : Eff W → Effs W → Effs W

-- an atom, or its negation
pub record Lit (W : Type 0) : Type 0 where
  pub positive : Bool
  pub atom : Atom W

-- what `:init` states; the words of `oneof`, `or` and `unknown` keep their places
mutual
  pub data Item (W : Type 0) : Type 0 where
    items : Items W → Item W
    fact : Bool → Atom W → Item W
    one_of : W → List (Lit W) → Item W
    any_of : W → List (Lit W) → Item W
    unknown : W → Atom W → Item W

  pub data Items (W : Type 0) : Type 0 where
    no_item : Items W
    more_items : Item W → Items W → Items W

-- the declaration of a predicate
pub record Pred (W : Type 0) : Type 0 where
  pub head : W
  pub params : List (Typed W)

-- an action schema
pub record Schema (W : Type 0) : Type 0 where
  pub name : W
  pub params : List (Typed W)
  pub pre : Cond W
  pub effect : Eff W

-- a domain; its kinds are the lines of `:types`
pub record Domain (W : Type 0) : Type 0 where
  pub kinds : List (Typed W)
  pub constants : List (Typed W)
  pub predicates : List (Pred W)
  pub schemas : List (Schema W)

-- a problem
pub record Problem (W : Type 0) : Type 0 where
  pub objects : List (Typed W)
  pub init : List (Item W)
  pub goal : Cond W

-- ---- the parts of a conjunction, as a list

-- of conditions
abbrev pub conds_of : {W : Type 0} → List (Cond W) → Conds W
conds_of [] = no_cond
conds_of (c ∷ cs) = more_conds c (conds_of cs)

-- of effects
abbrev pub effs_of : {W : Type 0} → List (Eff W) → Effs W
effs_of [] = no_eff
effs_of (e ∷ es) = more_effs e (effs_of es)

-- of items
abbrev pub items_of : {W : Type 0} → List (Item W) → Items W
items_of [] = no_item
items_of (i ∷ is) = more_items i (items_of is)

-- ---- sections: what several of the same kind hold comes together, in the order of the file

-- the sections of a domain; requirements are read and not kept
pub data Section (W : Type 0) : Type 0 where
  requires : Section W
  types : List (Typed W) → Section W
  constants : List (Typed W) → Section W
  predicates : List (Pred W) → Section W
  action : Schema W → Section W

-- the sections of a problem; the domain's name and requirements are read and not kept
pub data Given (W : Type 0) : Type 0 where
  of_domain : Given W
  requires : Given W
  objects : List (Typed W) → Given W
  init : List (Item W) → Given W
  goal : Cond W → Given W

module _ {W : Type 0} where
  -- the types that a section declares
  abbrev pub section_types : Section W → List (Typed W)
  section_types (Section.types xs) = xs
  section_types _ = []

  -- the constants that a section declares
  abbrev pub section_constants : Section W → List (Typed W)
  section_constants (Section.constants xs) = xs
  section_constants _ = []

  -- the predicates that a section declares
  abbrev pub section_predicates : Section W → List (Pred W)
  section_predicates (Section.predicates ps) = ps
  section_predicates _ = []

  -- the schemas that a section declares
  abbrev pub section_schemas : Section W → List (Schema W)
  section_schemas (Section.action s) = s ∷ []
  section_schemas _ = []

  -- the objects that a section states
  abbrev pub given_objects : Given W → List (Typed W)
  given_objects (Given.objects xs) = xs
  given_objects _ = []

  -- the items that a section states
  abbrev pub given_items : Given W → List (Item W)
  given_items (Given.init is) = is
  given_items _ = []

  -- the goal of this section, or the other one
  abbrev pub goal_or : Given W → Cond W → Cond W
  goal_or (Given.goal g) other = g
  goal_or _ other = other

  -- the goal of a problem; the grammar sees to it that there is exactly one
  abbrev pub goal_of : List (Given W) → Cond W
  goal_of [] = Cond.all no_cond
  goal_of (g ∷ gs) = goal_or g (goal_of gs)
