use Rattle.std.proofs.Common.{◌≡◌, drop, map}
use Rattle.kp_tree_grammar.specs.Trees.{conds_of}
use Rattle.kp_tree_grammar.specs.View.{cond_view}
use Rattle.kp_names_semantics.specs.Faults.{cond_faults, conds_faults}
use Rattle.kp_names_declared.specs.Collected.{domain_of, problem_of}
use Rattle.kp_names.specs.Noted.{noted}
use Rattle.kp_names.proofs.faults.+note_cond.Given as goal

-- with the parts that are left come all
abbrev pub invariant-loop-part : goal.invariant-loop-part
invariant-loop-part l = noted l.first (conds_faults (domain_of l.names) (problem_of l.names) l.scope (conds_of (map cond_view (drop l.part-index l.part-items)))) ≡ noted l.fn.first (cond_faults (domain_of l.names) (problem_of l.names) l.scope (cond_view l.cond))
