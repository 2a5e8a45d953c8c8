use Rattle.std.proofs.Common.{◌≡◌, ◌++◌, map, drop}
use Rattle.kp_tree_grammar.specs.Trees.{conds_of}
use Rattle.kp_tree_grammar.specs.View.{cond_view, domain_view, problem_view}
use Rattle.kp_names_semantics.specs.Numbering.{numbered_goal, numbered_goals}
use Rattle.kp_names_declared.proofs.items.+add_goal.Given as goal

-- with what is left come all
abbrev pub invariant-loop-part : goal.invariant-loop-part
invariant-loop-part l = l.goal ++ numbered_goals (domain_view l.names.domain) (problem_view l.names.problem) (conds_of (map cond_view (drop l.part-index l.part-items))) ≡ l.fn.goal ++ numbered_goal (domain_view l.names.domain) (problem_view l.names.problem) (cond_view l.tree)
