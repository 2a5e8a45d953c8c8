use Rattle.std.proofs.Common.{◌≡◌, ◌∙◌, sym, ap, map, arith}
use Rattle.std.proofs.lemmas.Grind.{common_steps}
use Rattle.kp_tree_grammar.specs.View.{cond_view as tree_view, domain_view, problem_view}
use Rattle.kp_names_semantics.specs.Numbering.{numbered_cond}
use Rattle.kp_names_numbered.specs.View.{cond_view}
use Rattle.kp_names_numbered.proofs.Views.{all_conds}
use Rattle.kp_names_numbered.proofs.terms.+condition.Goals as goal

pub returns-after-loop-part : goal.returns-after-loop-part
returns-after-loop-part t c =
    let d = domain_view c.args.names.now.domain in
    let p = problem_view c.args.names.now.problem in
    let all : map cond_view c.loop-part.row ≡ map (numbered_cond d p c.args.scope.now) (map tree_view c.in-All.parts) = grind (arith, common_steps, c.loop-part.invariant, c.slice-part-items.ensures) in
    all_conds d p c.args.scope.now c.loop-part.row c.in-All.parts all ∙ ap (λ z. numbered_cond d p c.args.scope.now (tree_view z)) (sym c.in-All.is)
