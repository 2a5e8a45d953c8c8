-- Relevance as a test: whether joins link two literals over some literals between.
use Rattle.std.specs.Prelude.{◌≡◌, ℕ, zero, suc, Bool, true, ◌&&◌, ◌||◌, List, [], ◌∷◌, length}
use Rattle.std.specs.List.{list_all}
use Rattle.kp_base.specs.declared.lit.Lit.{Lit}
use Rattle.kp_base.specs.declared.ground.Action.{Action}
use Rattle.kp_base.specs.declared.ground.Ground.{Ground}
use Rattle.kp_base.specs.Lit.{positive, negative, same_lit}
use Rattle.kp_base.specs.Implicates.{action_below}
use Rattle.kp_base.specs.Relevance.{joins}

-- the literals of n atoms from number i on, by code
abbrev pub lits_from : ℕ → ℕ → List Lit
lits_from i zero = []
lits_from i (suc n) = positive i ∷ negative i ∷ lits_from (suc i) n

-- they are one, or joined, or some of these literals link them
unfoldable pub linked : List Action → List Lit → Lit → Lit → Bool
linked acts [] l m = same_lit l m || joins acts l m
linked acts (k ∷ ks) l m = linked acts ks l m || (linked acts ks l k && linked acts ks k m)

-- the first literal is relevant to the second, in a ground problem
unfoldable pub is_relevant : Ground → Lit → Lit → Bool
is_relevant g l m = linked g.actions (lits_from 0 (length g.atoms)) l m

-- each literal of the actions is of one of the ground problem's atoms
abbrev pub ActsOnItsAtoms : Ground → Type 0
ActsOnItsAtoms g = list_all (action_below (length g.atoms)) g.actions ≡ true
