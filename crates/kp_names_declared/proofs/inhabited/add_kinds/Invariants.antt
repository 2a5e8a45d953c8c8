use Rattle.std.proofs.Common.{◌≡◌, drop, fold, map}
use Rattle.std.specs.List.{flat_map}
use Rattle.kp_tree_grammar.specs.View.{typed_view}
use Rattle.kp_names_semantics.specs.Types.{names}
use Rattle.kp_names_declared.specs.Steps.{with_name}
use Rattle.kp_names_declared.proofs.inhabited.add_kinds.Given as goal

-- with the lines that are left come all
abbrev pub invariant-loop-line : goal.invariant-loop-line
invariant-loop-line l = fold with_name l.found (flat_map (λ x. names x.kinds) (map typed_view (drop l.line-index l.lines))) ≡ fold with_name l.fn.found (flat_map (λ x. names x.kinds) (map typed_view l.lines))
