-- What the written texts read as.
use Rattle.std.specs.Prelude.{◌≡◌, ℕ, List}
use Rattle.kp_tree_grammar.specs.declared.tree.Word.{Word}
use Rattle.kp_tree_grammar.specs.Trees.{Domain, Problem}
use Rattle.kp_tree_grammar.specs.Grammar as grammar
use Rattle.kp_tree_grammar.specs.Texts.{ReadsAs}
use Rattle.kp_tree_grammar.specs.TreeMaps.{domain_map, problem_map}
use Rattle.kp_write.specs.Operators.{Op}
use Rattle.kp_write.specs.Written.{domain_text, problem_text}
use Rattle.kp_law_texts.specs.Tokens.{text_of}
use Rattle.kp_write.specs.Names.{AreHeads, AreOps}
use Rattle.kp_write.specs.Trees.{written_domain, written_problem}

-- the text is cut and reads by the grammar as a domain that is d without its places
pub record IsDomainText (text : List ℕ) (d : Domain (List ℕ)) : Type 0 where
  pub tree : Domain Word
  pub is : domain_map text_of tree ≡ d
  pub reads : ReadsAs grammar.domain text tree

-- the text is cut and reads by the grammar as a problem that is p without its places
pub record IsProblemText (text : List ℕ) (p : Problem (List ℕ)) : Type 0 where
  pub tree : Problem Word
  pub is : problem_map text_of tree ≡ p
  pub reads : ReadsAs grammar.problem text tree

-- ---- laws

-- the written domain reads as the domain that is meant
abbrev pub DomainReadsAsMeant : Type 0
DomainReadsAsMeant = (facts : List (List ℕ)) (ops : List Op) → AreHeads facts → AreOps ops → IsDomainText (domain_text facts ops) (written_domain facts ops)

-- the written problem reads as the problem that is meant
abbrev pub ProblemReadsAsMeant : Type 0
ProblemReadsAsMeant = (start goal : List (List ℕ)) → AreHeads start → AreHeads goal → IsProblemText (problem_text start goal) (written_problem start goal)
