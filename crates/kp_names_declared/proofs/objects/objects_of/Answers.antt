use Rattle.std.proofs.Common.{◌≡◌, ◌∙◌, sym, ap, [], map, fold, flat_map, subst}
use Rattle.kp_tree_grammar.specs.View.{domain_view, problem_view}
use Rattle.kp_names_semantics.specs.Numbering.{index_of}
use Rattle.kp_names_semantics.specs.Types.{objects, object_lines}
use Rattle.kp_names_declared.specs.Steps.{with_name, under, lines_under, IsRowOf}
use Rattle.kp_names_declared.proofs.Gathering.{member_gathered, gathered_member}
use Rattle.kp_names_declared.proofs.ObjectsOfTypes.{row_of_all, row_of_found}
use Rattle.kp_names_declared.proofs.objects.objects_of.Goals as goal

-- every type is below them
pub returns-in_ok-row : goal.returns-in_ok-row
returns-in_ok-row c ts below =
    let d = domain_view c.args.names.now.domain in
    let p = problem_view c.args.names.now.problem in
    row_of_all d p ts c.args.below.now below (sym c.has.ensures ∙ c.if-has.true) c.in_ok-row.row
    (subst (λ os. IsRowOf (map (index_of (objects d p)) os) c.in_ok-row.row) c.objects.ensures c.in_ok-row.ensures)

pub returns-in_ok-row-2 : goal.returns-in_ok-row-2
returns-in_ok-row-2 c ts below =
    let d = domain_view c.args.names.now.domain in
    let p = problem_view c.args.names.now.problem in
    let all = flat_map (under (lines_under (object_lines d p))) c.args.below.now in
    let found : c.in_ok-found.found ≡ fold with_name [] all = c.in_ok-found.ensures ∙ ap (λ ps. fold with_name [] (flat_map (under ps) c.args.below.now)) c.objects_under.ensures in
    row_of_found d p ts c.args.below.now below (sym c.has.ensures ∙ c.if-has.false) (fold with_name [] all) c.in_ok-row-2.row (gathered_member all) (member_gathered all)
    (subst (λ os. IsRowOf (map (index_of (objects d p)) os) c.in_ok-row-2.row) found c.in_ok-row-2.ensures)
