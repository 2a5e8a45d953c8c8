-- A tree means the same wherever its words stand in the file.
use Rattle.std.specs.Prelude.{◌≡◌, ◌↔◌, List}
use Rattle.kp_tree_grammar.specs.declared.tree.Word.{Word}
use Rattle.kp_tree_grammar.specs.Trees.{Domain, Problem}
use Rattle.kp_tree_grammar.specs.TreeMaps.{domain_map, problem_map}
use Rattle.kp_names_semantics.specs.Faults.{HasNoFault}
use Rattle.kp_names_semantics.specs.Steps.{Step}
use Rattle.kp_names_semantics.specs.Plans.{Solves}

-- each word keeps its text, and may stand elsewhere
abbrev pub KeepsTexts : (Word → Word) → Type 0
KeepsTexts f = (w : Word) → (f w).text ≡ w.text

-- whether there is a fault, and what solves the trees, doesn't depend on where their words stand
pub record MeansTheSame (d e : Domain Word) (p q : Problem Word) : Type 0 where
  pub faults : HasNoFault d p ↔ HasNoFault e q
  pub plans : (steps : List Step) → Solves d p steps ↔ Solves e q steps

-- trees mean the same when their words are moved
abbrev pub PlacesMeanNothing : Type 0
PlacesMeanNothing = (f : Word → Word) → KeepsTexts f → (d : Domain Word) (p : Problem Word) → MeansTheSame d (domain_map f d) p (problem_map f p)
