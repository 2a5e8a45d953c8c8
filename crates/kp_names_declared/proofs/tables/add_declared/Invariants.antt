use Rattle.std.proofs.Common.{◌≡◌, drop, fold, map}
use Rattle.kp_tree_grammar.specs.View.{typed_view}
use Rattle.kp_names_semantics.specs.Types.{declared}
use Rattle.kp_names_declared.specs.Steps.{with_name}
use Rattle.kp_names_declared.proofs.tables.add_declared.Given as goal

-- with the lines that are left come all
abbrev pub invariant-loop-line : goal.invariant-loop-line
invariant-loop-line l = fold with_name l.known (declared (map typed_view (drop l.line-index l.lines))) ≡ fold with_name l.fn.known (declared (map typed_view l.lines))
