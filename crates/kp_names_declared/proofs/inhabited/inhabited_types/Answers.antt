use Rattle.std.proofs.Common.{◌∙◌, [], ◌∷◌, map, fold, flat_map, length, subst, ap}
use Rattle.kp_tree_grammar.specs.View.{typed_view, domain_view, problem_view}
use Rattle.kp_names_semantics.specs.Types.{object, names, object_lines}
use Rattle.kp_names_declared.specs.Steps.{with_name, lines_over, IsClosing}
use Rattle.kp_names_declared.proofs.InhabitedTypes.{closed_above}
use Rattle.kp_names_declared.proofs.inhabited.inhabited_types.Goals as goal

pub returns : goal.returns
returns c =
    let d = domain_view c.args.domain.now in
    let p = problem_view c.args.problem.now in
    let all = c.close.new.names in
    closed_above d p all
    (subst (λ ps. IsClosing ps (fold with_name [] (object ∷ flat_map (λ x. names x.kinds) (object_lines d p))) (length all) all) (c.in_ok-over.ensures ∙ ap (λ ls. lines_over (map typed_view ls)) c.slice.ensures)
    (subst (λ old. IsClosing c.in_ok-over.over old (length all) all) c.in_ok-found.ensures c.in_ok-close.ensures))
