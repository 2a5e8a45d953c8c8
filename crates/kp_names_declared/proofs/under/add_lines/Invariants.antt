use Rattle.std.proofs.Common.{◌≡◌, map, drop, fold}
use Rattle.kp_tree_grammar.specs.View.{typed_view}
use Rattle.kp_names_declared.specs.Steps.{with_line_under}
use Rattle.kp_names_declared.specs.Chains.{AreChained, pairs_of}
use Rattle.kp_names_declared.proofs.under.add_lines.Given as goal

-- with the lines that are left come all
abbrev pub invariant-loop-line : goal.invariant-loop-line
invariant-loop-line l = record {
  chained : AreChained l.links.items (map (λ e. (e.0.now, e.1)) l.last.entries);
  so_far : fold with_line_under (pairs_of l.links.items) (map typed_view (drop l.line-index l.lines)) ≡ fold with_line_under (pairs_of l.fn.links.items) (map typed_view l.lines);
}
