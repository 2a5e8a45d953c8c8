-- Relevance as a list of pairs of literals.
use Rattle.std.specs.Prelude.{◌≡◌, ◌↔◌, ◌<◌, ◌&&◌, Bool, true, List, length}
use Rattle.std.specs.List.{list_any}
use Rattle.kp_base.specs.declared.lit.Lit.{Lit}
use Rattle.kp_base.specs.declared.ground.Ground.{Ground}
use Rattle.kp_base.specs.Lit.{same_lit}
use Rattle.kp_base.specs.Relevance.{IsRelevant}

-- the two literals are one of the pairs
abbrev pub is_pair : List (Lit × Lit) → Lit → Lit → Bool
is_pair pairs l m = list_any (λ (x : Lit × Lit). same_lit x.0 l && same_lit x.1 m) pairs

-- the pairs are just those literals of the ground problem's atoms of which the first is relevant to the second
pub record ArePairsOf (g : Ground) (pairs : List (Lit × Lit)) : Type 0 where
  pub of_atoms : (l m : Lit) → is_pair pairs l m ≡ true → (l.atom.0 < length g.atoms) × (m.atom.0 < length g.atoms)
  pub exact : (l m : Lit) → l.atom.0 < length g.atoms → m.atom.0 < length g.atoms → (is_pair pairs l m ≡ true) ↔ IsRelevant g.actions l m
