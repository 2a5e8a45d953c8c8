use Rattle.std.proofs.Common.{◌≡◌, map, drop}
use Rattle.kp_tree_grammar.specs.View.{typed_view}
use Rattle.kp_names_semantics.specs.Faults.{inside}
use Rattle.kp_names_semantics.specs.Types.{declared}
use Rattle.kp_names_declared.proofs.scope.Scope.enter.Given as goal

-- with the variables that are left come all
abbrev pub invariant-loop-variable : goal.invariant-loop-variable
invariant-loop-variable l = inside (declared (map typed_view (drop l.variable-index l.variables))) l.self ≡ inside (declared (map typed_view l.variables)) l.fn.self
