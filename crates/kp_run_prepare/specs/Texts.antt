-- Two texts: the trees and the problem by number that they have, or how they are refused.
use Rattle.std.specs.Prelude.{ℕ, List}
use Rattle.kp_base.specs.declared.refused.Part.TheVariants as parts
use Rattle.kp_base.specs.declared.refused.Refused.{Refused}
use Rattle.kp_tree_grammar.specs.declared.tree.Word.{Word}
use Rattle.kp_tree_grammar.specs.Trees.{Domain, Problem}
use Rattle.kp_tree_grammar.specs.Grammar as grammar
use Rattle.kp_names_semantics.specs.Faults.{HasNoFault}
use Rattle.kp_tree.specs.Files.{HasTree, Refuses}
use Rattle.kp_names_numbered.specs.declared.lifted.Lifted.{Lifted}
use Rattle.kp_names.specs.Resolved.{RefusesNames, IsResolved}

-- the files have these trees, in which no name is at fault: they have a problem (`HasProblem`), and are within the limits of length and of open brackets
pub record HaveTrees (domain problem : List ℕ) (d : Domain Word) (p : Problem Word) : Type 0 where
  pub domain_reads : HasTree grammar.domain domain d
  pub problem_reads : HasTree grammar.problem problem p
  pub no_fault : HasNoFault d p

-- the problem by number of two texts
pub record IsProblemOf (domain problem : List ℕ) (l : Lifted) : Type 0 where
  pub first : Domain Word
  pub second : Problem Word
  pub trees : HaveTrees domain problem first second
  pub resolved : IsResolved problem first second l

-- the files are refused: the domain first, then the problem, and then a name in their trees
pub data RefusesTexts (domain problem : List ℕ) : Refused → Type 0 where
  of_domain : (r : Refused) → Refuses parts.Domain grammar.domain domain r → RefusesTexts domain problem r
  of_problem : (d : Domain Word) (r : Refused) → HasTree grammar.domain domain d → Refuses parts.Problem grammar.problem problem r → RefusesTexts domain problem r
  of_names : (d : Domain Word) (p : Problem Word) (r : Refused) → HasTree grammar.domain domain d → HasTree grammar.problem problem p → RefusesNames domain problem d p r → RefusesTexts domain problem r
