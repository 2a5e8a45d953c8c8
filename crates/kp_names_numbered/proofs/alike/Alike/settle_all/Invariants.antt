use Rattle.kp_tree_grammar.specs.View.{domain_view, problem_view}
use Rattle.kp_names_semantics.specs.Names.{Name}
use Rattle.kp_names_semantics.specs.Types.{is_of_type}
use Rattle.kp_names_numbered.specs.Alike.{AreAlike}
use Rattle.kp_names_numbered.proofs.alike.Alike.settle_all.Given as goal

-- objects are of both names of each entry, or of none
abbrev pub invariant-loop-name : goal.invariant-loop-name
invariant-loop-name l = (o : Name) → AreAlike (is_of_type (domain_view l.names.domain) (problem_view l.names.problem) o) l.fn.self → AreAlike (is_of_type (domain_view l.names.domain) (problem_view l.names.problem) o) l.self
