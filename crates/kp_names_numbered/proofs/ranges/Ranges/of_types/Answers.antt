use Rattle.std.proofs.Common.{◌∙◌, ap}
use Rattle.kp_tree_grammar.specs.View.{domain_view, problem_view}
use Rattle.kp_names_semantics.specs.Types.{names}
use Rattle.kp_names_declared.specs.Steps.{range_of}
use Rattle.kp_names_numbered.proofs.SameRanges.{same_range}
use Rattle.kp_names_numbered.proofs.ranges.Ranges.of_types.Goals as goal

-- what stands in their place has the same objects
pub returns-clause-row : goal.returns-clause-row
returns-clause-row c =
    let self = c.args.self.now in
    c.in_ok-row.ensures.row
    ∙ (ap (λ n. range_of (domain_view n.domain) (problem_view n.problem) c.in_ok-tops.tops) c.lasts.ensures.kept
    ∙ same_range (domain_view self.names.domain) (problem_view self.names.problem) c.in_ok-tops.tops (names c.args.words.now) c.in_ok-tops.ensures.tops)
