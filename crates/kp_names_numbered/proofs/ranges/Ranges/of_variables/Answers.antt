use Rattle.std.proofs.Common.{◌≡◌, ◌∙◌, ap}
use Rattle.kp_tree_grammar.specs.View.{typed_view, domain_view, problem_view}
use Rattle.kp_names_semantics.specs.Numbering.{numbered_range}
use Rattle.kp_names_numbered.proofs.KnownTypes.{map_more}
use Rattle.kp_names_numbered.proofs.ranges.Ranges.of_variables.Goals as goal

pub loop-variable-preserved : goal.loop-variable-preserved
loop-variable-preserved c =
    let self = c.args.self.now in
    let range = numbered_range (domain_view self.names.domain) (problem_view self.names.problem) in
    let this : c.in_ok-of_variable.field-0 ≡ range (typed_view c.variable-item.result) =
    c.in_ok-of_variable.ensures.range ∙ ap (λ n. numbered_range (domain_view n.domain) (problem_view n.problem) (typed_view c.variable-item.result)) c.loop-variable.invariant.kept in
    record {
      kept = c.of_variable.ensures.kept ∙ c.loop-variable.invariant.kept;
      so_far = rw c.in_ok-push.ensures.ok (map_more range typed_view c.args.variables.now c.loop-variable.variable-index c.variable-item.result c.loop-variable.ranges c.in_ok-of_variable.field-0 _ c.loop-variable-test.true c.variable-item.is this c.loop-variable.invariant.so_far);
    }
