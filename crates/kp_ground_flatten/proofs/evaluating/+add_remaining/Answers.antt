use Rattle.std.proofs.Common.{◌≡◌, ◌∙◌, sym, ap, not, ◌++◌, ◌∷◌, [], map, flat_map, append-nil, arith}
use Rattle.std.proofs.lemmas.Grind.{common_steps}
use Rattle.std.proofs.lemmas.Result.{on_ok_weaker}
use Rattle.kp_base.specs.Lists.{only_if}
use Rattle.kp_names_semantics.specs.Lifted.{ground}
use Rattle.kp_ground_semantics.specs.Static.{remaining}
use Rattle.kp_ground_flatten.specs.Nodes.{cond_view}
use Rattle.kp_names.specs.View.{lifted_view}
use Rattle.kp_ground_flatten.proofs.Views.{remaining_all, remaining_atom}
use Rattle.kp_ground_flatten.proofs.evaluating.+add_remaining.Goals as goal

pub returns-after-parts : goal.returns-after-parts
returns-after-parts t c =
    let l = lifted_view c.args.statics.now in
    let all : c.parts.conds ≡ c.args.conds.now ++ flat_map (remaining l []) (map cond_view c.in-All.parts.now) = grind (arith, common_steps, c.parts.invariant) in
    all ∙ ap (λ z. c.args.conds.now ++ z) (sym (ap (λ z. remaining l [] (cond_view z)) c.in-All.is ∙ remaining_all l c.in-All.parts))

-- a static literal leaves nothing
pub returns-then-is_static : goal.returns-then-is_static
returns-then-is_static t c =
    let l = lifted_view c.args.statics.now in
    let static = sym c.is_static.ensures ∙ c.if-is_static.true in
    sym (ap (λ z. c.args.conds.now ++ z)
    (ap (λ z. remaining l [] (cond_view z)) c.in-Atom.is
    ∙ (remaining_atom l c.in-Atom.positive c.in-Atom.pred c.in-Atom.terms
    ∙ ap (λ b. only_if (not b) (ground c.in-Atom.positive c.in-Atom.pred c.in-Atom.terms.now ∷ [])) static))
    ∙ append-nil c.args.conds.now)

-- another one stays
pub returns-else-is_static : goal.returns-else-is_static
returns-else-is_static t c =
    let l = lifted_view c.args.statics.now in
    let static = sym c.is_static.ensures ∙ c.if-is_static.false in
    let left = ap (λ z. remaining l [] (cond_view z)) c.in-Atom.is
    ∙ (remaining_atom l c.in-Atom.positive c.in-Atom.pred c.in-Atom.terms
    ∙ ap (λ b. only_if (not b) (ground c.in-Atom.positive c.in-Atom.pred c.in-Atom.terms.now ∷ [])) static) in
    on_ok_weaker c.push.result (λ e. e ∙ ap (λ z. c.args.conds.now ++ z) (sym left)) c.push.ensures
