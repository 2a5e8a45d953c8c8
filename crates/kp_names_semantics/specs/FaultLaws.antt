-- A token of a file has at most one fault.
use Rattle.std.specs.Prelude.{◌≡◌, ℕ, List}
use Rattle.kp_tree_grammar.specs.declared.tree.Word.{Word}
use Rattle.kp_tree_grammar.specs.Trees.{Domain, Problem}
use Rattle.kp_tree_grammar.specs.Grammar.{domain, problem}
use Rattle.kp_tree_grammar.specs.Texts.{ReadsAs}
use Rattle.kp_base.specs.Lists.{Member}
use Rattle.kp_names_semantics.specs.Faults.{Fault, byte_of, domain_faults, problem_faults, IsFirst}

-- two faults at one token are one and the same
abbrev pub IsOneForEachToken : List Fault → Type 0
IsOneForEachToken fs = (f g : Fault) → Member fs f → Member fs g → byte_of f ≡ byte_of g → f ≡ g

-- two faults that come first are one and the same
abbrev pub HasOneFirst : List Fault → Type 0
HasOneFirst fs = (f g : Fault) → IsFirst fs f → IsFirst fs g → f ≡ g

-- no token has two of these faults, and so at most one comes first
pub record TokensHaveOneFault (fs : List Fault) : Type 0 where
  pub for_each_token : IsOneForEachToken fs
  pub first : HasOneFirst fs

-- so it is for the tree of a domain file, whatever the problem
abbrev pub DomainTokensHaveOneFault : Type 0
DomainTokensHaveOneFault = (text : List ℕ) (d : Domain Word) (p : Problem Word) → ReadsAs domain text d → TokensHaveOneFault (domain_faults d p)

-- so it is for the tree of a problem file, whatever the domain
abbrev pub ProblemTokensHaveOneFault : Type 0
ProblemTokensHaveOneFault = (text : List ℕ) (d : Domain Word) (p : Problem Word) → ReadsAs problem text p → TokensHaveOneFault (problem_faults d p)
