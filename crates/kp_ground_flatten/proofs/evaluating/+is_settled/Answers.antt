use Rattle.std.proofs.Common.{◌≡◌, ◌∙◌, sym, ap, true, false, not, ◌||◌, [], get_or, map, arith}
use Rattle.std.specs.List.{list_all}
use Rattle.std.proofs.lemmas.Grind.{common_steps}
use Rattle.std.proofs.lemmas.List.Folds.{list_all-map, list_all_at}
use Rattle.kp_base.specs.Lists.{signed}
use Rattle.kp_ground_semantics.specs.Static.{settled, initially}
use Rattle.kp_ground_flatten.specs.Nodes.{cond_view}
use Rattle.kp_names.specs.View.{lifted_view}
use Rattle.kp_ground_flatten.proofs.Views.{settled_all, settled_atom}
use Rattle.kp_ground_flatten.proofs.evaluating.+is_settled.Goals as goal

pub returns-then-not-is_settled : goal.returns-then-not-is_settled
returns-then-not-is_settled t c =
    let l = lifted_view c.args.statics.now in
    let part : settled l [] (cond_view (get_or c.in-All.parts.now c.parts.part-index c.part-item.result)) ≡ false = ap (λ z. settled l [] (cond_view z)) (sym c.part-item.is) ∙ (sym c.is_settled.ensures ∙ c.if-not-is_settled.true) in
    sym (ap (λ z. settled l [] (cond_view z)) c.in-All.is
    ∙ (settled_all l c.in-All.parts
    ∙ (list_all-map (settled l []) cond_view c.in-All.parts.now
    ∙ list_all_at (λ z. settled l [] (cond_view z)) c.in-All.parts.now c.parts.part-index c.part-item.result c.parts-test.true part)))

pub returns-after-parts : goal.returns-after-parts
returns-after-parts t c =
    let l = lifted_view c.args.statics.now in
    let all : list_all (settled l []) (map cond_view c.in-All.parts.now) ≡ true = grind (arith, common_steps, c.parts.invariant) in
    sym (ap (λ z. settled l [] (cond_view z)) c.in-All.is ∙ (settled_all l c.in-All.parts ∙ all))

pub returns-else-not-is_static : goal.returns-else-not-is_static
returns-else-not-is_static t c =
    let l = lifted_view c.args.statics.now in
    let static = sym c.is_static.ensures ∙ c.if-not-is_static.false in
    c.signed.ensures
    ∙ (ap (signed c.in-Atom.positive) c.is_true_at_first.ensures
    ∙ sym (ap (λ z. settled l [] (cond_view z)) c.in-Atom.is
    ∙ (settled_atom l c.in-Atom.positive c.in-Atom.pred c.in-Atom.terms
    ∙ ap (λ b. not b || signed c.in-Atom.positive (initially l c.in-Atom.pred c.in-Atom.terms.now)) static)))
