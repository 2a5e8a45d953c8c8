use Rattle.kp_tree_grammar.proofs.NamedTrees.{domains_named, problems_named}
use Rattle.kp_tree_grammar.proofs.laws.names_in_trees_are_names.Goals as goal

pub returns : goal.returns
returns c = record { domains = domains_named; problems = problems_named }
