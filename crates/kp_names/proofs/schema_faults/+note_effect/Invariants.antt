use Rattle.std.proofs.Common.{◌≡◌, drop, map}
use Rattle.kp_tree_grammar.specs.Trees.{effs_of}
use Rattle.kp_tree_grammar.specs.View.{eff_view}
use Rattle.kp_names_semantics.specs.Faults.{eff_faults, effs_faults}
use Rattle.kp_names_declared.specs.Collected.{domain_of, problem_of}
use Rattle.kp_names.specs.Noted.{noted}
use Rattle.kp_names.proofs.schema_faults.+note_effect.Given as goal

abbrev pub decreases-note_effect : goal.decreases-note_effect
decreases-note_effect l = goal.size-note_effect l

-- with the parts that are left come all, and the scope is the same
abbrev pub invariant-loop-part : goal.invariant-loop-part
invariant-loop-part l = record {
  rest : noted l.first (effs_faults (domain_of l.names) (problem_of l.names) l.scope (effs_of (map eff_view (drop l.part-index l.part-items)))) ≡ noted l.fn.first (eff_faults (domain_of l.names) (problem_of l.names) l.fn.scope (eff_view l.effect));
  scope : l.scope ≡ l.fn.scope;
}
