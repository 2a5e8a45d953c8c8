-- The pairs of relevance that a problem with its relevance keeps.
use Rattle.std.proofs.Common.{◌≡◌, ◌<◌, List, true, length}
use Rattle.std.proofs.Math.Logic.{∥∥₁_elim}
use Rattle.std.specs.Coded.{le_prop}
use mathlib.Core.Bool.{Bool-set}
use Rattle.kp_base.specs.declared.ground.Ground.{Ground}
use Rattle.kp_base.specs.declared.lit.Lit.{Lit}
use Rattle.kp_relevance.specs.Relevant.{ArePairsOf, is_pair}
use Rattle.kp_law_decidable.proofs.Public.{relevance_decided}
use Rattle.kp_run_inputs.specs.declared.related.Related.{Related}

-- pairs that are merely those of a ground problem are so, where some are
module _ (g : Ground) (pairs own : List (Lit × Lit)) (are : ArePairsOf g own) (h : ∥ ArePairsOf g pairs ∥₁) where
  also : (l m : Lit) → l.atom.0 < length g.atoms → m.atom.0 < length g.atoms → is_pair pairs l m ≡ true → ArePairsOf g pairs → is_pair own l m ≡ true
  also l m a b e k = (are.exact l m a b).1 ((k.exact l m a b).0 e)

  had : ArePairsOf g pairs
  had = record {
    of_atoms = λ l m e. ∥∥₁_elim h (hlevel le_prop) (λ k. k.of_atoms l m e);
    exact = λ l m a b. (λ e. (are.exact l m a b).0 (∥∥₁_elim h (hlevel Bool-set) (also l m a b e)), λ r. ∥∥₁_elim h (hlevel Bool-set) (λ k. (k.exact l m a b).1 r));
  }

pub pairs_of : (x : Related) → ArePairsOf x.prepared.ground x.relevance
pairs_of x = let own = relevance_decided x.prepared.ground x.prepared.of_atoms in had x.prepared.ground x.relevance own.0 own.1 x.pairs
