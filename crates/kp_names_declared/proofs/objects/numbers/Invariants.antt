use Rattle.std.proofs.Common.{◌≡◌, map, take}
use Rattle.kp_tree_grammar.specs.View.{domain_view, problem_view}
use Rattle.kp_names_semantics.specs.Numbering.{index_of}
use Rattle.kp_names_semantics.specs.Types.{objects}
use Rattle.kp_names_declared.proofs.objects.numbers.Given as goal

-- the numbers of the names so far
abbrev pub invariant-loop-name : goal.invariant-loop-name
invariant-loop-name l = l.numbers.items ≡ map (index_of (objects (domain_view l.names.domain) (problem_view l.names.problem))) (map (λ n. n.now) (take l.name-index l.name-items))
