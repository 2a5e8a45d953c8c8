use Rattle.std.proofs.Common.{◌≡◌, ◌∙◌, sym, ap, ◌++◌, List, [], map, fold, flat_map, arith}
use Rattle.std.proofs.lemmas.Grind.{common_steps}
use Rattle.std.proofs.lemmas.Result.{on_ok_weaker}
use Rattle.kp_base.specs.Lists.{only_if}
use Rattle.kp_names_semantics.specs.declared.lifted.GroundLit.{GroundLit}
use Rattle.kp_names_semantics.specs.Lifted.{ground}
use Rattle.kp_ground_semantics.specs.declared.flat.FlatEffect.{FlatEffect}
use Rattle.kp_ground_semantics.specs.Static.{remaining}
use Rattle.kp_ground_semantics.specs.Flattening.{under, flat}
use Rattle.kp_ground_flatten.specs.Nodes.{cond_view, eff_view}
use Rattle.kp_names.specs.View.{lifted_view}
use Rattle.kp_ground_flatten.proofs.Views.{flat_under, flat_all, flat_when, flat_atom}
use Rattle.kp_ground_flatten.proofs.handing.+hand_bound.Goals as goal

pub returns-after-parts-clause-taken : goal.returns-after-parts-clause-taken
returns-after-parts-clause-taken g t c =
    let l = lifted_view c.args.statics.now in
    let ls = c.args.conds.now in
    let all : c.parts.sink ≡ fold g.S.Sink.takes c.args.sink.now (flat_map (flat_under l ls) (map eff_view c.in-All.parts.now)) = grind (arith, common_steps, c.parts.invariant.so_far) in
    all ∙ ap (fold g.S.Sink.takes c.args.sink.now) (sym (ap (λ z. flat_under l ls (eff_view z)) c.in-All.is ∙ flat_all l ls c.in-All.parts))

-- the condition is settled, and its other literals stand round the body
pub returns-in_ok-hand_bound-in-When-clause-taken : goal.returns-in_ok-hand_bound-in-When-clause-taken
returns-in_ok-hand_bound-in-When-clause-taken g t c =
    let l = lifted_view c.args.statics.now in
    let ls = c.args.conds.now in
    let settles = sym c.is_settled.ensures ∙ c.if-not-is_settled.false in
    let whole = ap (λ z. flat_under l ls (eff_view z)) c.in-When.is
    ∙ (flat_when l ls c.in-When.cond c.in-When.body
    ∙ (ap (λ b. only_if b (map (under (ls ++ remaining l [] (cond_view c.in-When.cond))) (flat l [] (eff_view c.in-When.body.now)))) settles
    ∙ ap (λ z. map (under z) (flat l [] (eff_view c.in-When.body.now))) (sym c.in_ok-add_remaining-in-When.ensures))) in
    c.in_ok-hand_bound-in-When.ensures.taken ∙ ap (fold g.S.Sink.takes c.args.sink.now) (sym whole)

pub returns-in-Atom-clause-taken : goal.returns-in-Atom-clause-taken
returns-in-Atom-clause-taken g t c =
    let l = lifted_view c.args.statics.now in
    let ls = c.args.conds.now in
    let made : List GroundLit → FlatEffect = λ z. record { cond = z; result = ground c.in-Atom.positive c.in-Atom.pred c.in-Atom.terms.now } in
    let one = ap (λ z. flat_under l ls (eff_view z)) c.in-Atom.is ∙ flat_atom l ls c.in-Atom.positive c.in-Atom.pred c.in-Atom.terms in
    on_ok_weaker c.take.result (λ e. e ∙ (ap (λ z. g.S.Sink.takes c.args.sink.now (made z)) c.slice.ensures ∙ ap (fold g.S.Sink.takes c.args.sink.now) (sym one))) c.take.ensures
