use Rattle.std.proofs.Common.{◌∙◌, [], ◌∷◌, map, fold, flat_map, ap, ap₂}
use Rattle.kp_tree_grammar.specs.View.{typed_view, domain_view, problem_view}
use Rattle.kp_names_semantics.specs.Types.{object, names}
use Rattle.kp_names_declared.specs.Steps.{with_name}
use Rattle.kp_names_declared.proofs.InhabitedTypes.{kinds_gathered}
use Rattle.kp_names_declared.proofs.inhabited.types_of_objects.Goals as goal

-- those of constants and those of objects come one after the other
pub returns : goal.returns
returns c =
    c.in_ok-add_kinds-2.ensures
    ∙ (ap (λ z. fold with_name z (flat_map (λ x. names x.kinds) (map typed_view c.slice-2.result.now)))
    (c.in_ok-add_kinds.ensures ∙ ap (λ z. fold with_name z (flat_map (λ x. names x.kinds) (map typed_view c.slice.result.now))) (c.in_ok-insert.ensures.names ∙ ap (λ z. with_name z object) c.new-found.ensures))
    ∙ (ap₂ (λ xs ys. fold with_name (fold with_name (object ∷ []) (flat_map (λ x. names x.kinds) (map typed_view xs))) (flat_map (λ x. names x.kinds) (map typed_view ys))) c.slice.ensures c.slice-2.ensures
    ∙ kinds_gathered (object ∷ []) (domain_view c.args.domain.now).constants (problem_view c.args.problem.now).objects))
