use Rattle.std.proofs.Common.{◌∙◌, [], map, fold, ap, ap₂}
use Rattle.kp_tree_grammar.specs.View.{typed_view, domain_view, problem_view}
use Rattle.kp_names_semantics.specs.Types.{declared}
use Rattle.kp_names_declared.specs.Steps.{with_name}
use Rattle.kp_names_declared.proofs.Gathering.{objects_gathered}
use Rattle.kp_names_declared.proofs.tables.objects_of.Goals as goal

pub returns : goal.returns
returns c =
    c.in_ok-add_declared-2.ensures
    ∙ (ap (λ z. fold with_name z (declared (map typed_view c.slice-2.result.now))) (c.in_ok-add_declared.ensures ∙ ap (λ z. fold with_name z (declared (map typed_view c.slice.result.now))) c.new-names.ensures)
    ∙ (ap₂ (λ xs ys. fold with_name (fold with_name [] (declared (map typed_view xs))) (declared (map typed_view ys))) c.slice.ensures c.slice-2.ensures
    ∙ objects_gathered (domain_view c.args.domain.now).constants (problem_view c.args.problem.now).objects))
