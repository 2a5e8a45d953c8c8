use Rattle.std.proofs.Common.{◌∙◌, sym, ap, map, drop, length}
use Rattle.kp_tree_grammar.specs.View.{eff_view as tree_view, domain_view, problem_view}
use Rattle.kp_names_semantics.specs.Numbering.{numbered_eff}
use Rattle.kp_names_numbered.proofs.Views.{all_effs}
use Rattle.kp_names_numbered.proofs.LeftScopes.{as_before}
use Rattle.kp_names_numbered.proofs.effects.+effs.Goals as goal

pub effect-returns-in_ok-effects-in-All-clause-effect : goal.effect-returns-in_ok-effects-in-All-clause-effect
effect-returns-in_ok-effects-in-All-clause-effect t c =
    let d = domain_view c.args.ranges.now.names.domain in
    let p = problem_view c.args.ranges.now.names.problem in
    all_effs d p c.args.scope.now c.in_ok-effects-in-All.field-0 c.in-All.parts (c.in_ok-effects-in-All.ensures.effects ∙ ap (λ z. map (numbered_eff d p c.args.scope.now) (map tree_view z)) c.slice.ensures)
    ∙ ap (λ z. numbered_eff d p c.args.scope.now (tree_view z)) (sym c.in-All.is)

-- the variables that were entered are left
pub effect_inside-returns-clause-scope : goal.effect_inside-returns-clause-scope
effect_inside-returns-clause-scope t c =
    c.in_ok-leave.ensures
    ∙ (ap (drop (length c.args.variables.now)) (c.in_ok-effect.ensures.scope ∙ c.in_ok-enter.ensures)
    ∙ as_before c.args.variables.now c.args.scope.now)
