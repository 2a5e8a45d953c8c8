use Rattle.std.proofs.Common.{List, ◌+◌, drop, filter, ap, sym, ◌∙◌}
use Rattle.kp_names_semantics.specs.declared.lifted.GroundLit.{GroundLit}
use Rattle.kp_base.specs.Atoms.{Atom}
use Rattle.kp_ground.specs.Gathered.{gather}
use Rattle.kp_names.specs.View.{lifted_view}
use Rattle.kp_ground.specs.Passes.{is_open}
use Rattle.kp_ground.proofs.LoopSteps.{drop_item, filter_more}
use Rattle.kp_ground.proofs.gathering.add_all_open.Goals as goal

-- the literal's atom comes, and then those of the literals that are left
pub loop-lit-preserved : goal.loop-lit-preserved
loop-lit-preserved c =
    let open_lit = is_open (lifted_view c.args.statics.now) in
    let lits = c.args.lits.now in
    let i = c.loop-lit.lit-index in
    let m = c.lit-item.result in
    ap (λ (as' : List Atom). gather c.args.limit as' (filter open_lit (drop (i + 1) lits))) c.in_ok-add_open.ensures
    ∙ (filter_more c.args.limit open_lit c.loop-lit.atoms m (drop (i + 1) lits)
    ∙ (ap (λ (rest : List GroundLit). gather c.args.limit c.loop-lit.atoms (filter open_lit rest)) (sym (drop_item lits i m c.loop-lit-test.true c.lit-item.is))
    ∙ c.loop-lit.invariant))
