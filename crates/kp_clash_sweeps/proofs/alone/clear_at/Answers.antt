use Rattle.std.proofs.Common.{[], ◌∷◌, sym, ◌∙◌}
use Rattle.kp_clash_exclusive.specs.Paired.{is_pair}
use Rattle.kp_clash_exclusive.proofs.Public.{breaks_broken, breaks_broken_pair, broken_pair_may_go}
use Rattle.kp_clash_sweeps.proofs.alone.clear_at.Goals as goal

pub remove-requires : goal.remove-requires
remove-requires c = breaks_broken_pair (is_pair c.args.pairs.now) c.args.action.now c.args.effect.now c.args.q.0 (sym c.breaks.ensures ∙ c.if-breaks.true)

pub returns-then-breaks : goal.returns-then-breaks
returns-then-breaks c =
    let broken = breaks_broken (is_pair c.args.pairs.now) c.args.action.now c.args.effect.now c.args.q.0 c.requires.of_action (sym c.breaks.ensures ∙ c.if-breaks.true) in
    broken_pair_may_go (c.args.action.now ∷ []) c.args.effect.now.result.atom.0 c.args.q.0 c.args.pairs.now c.remove.new.self broken c.remove.ensures
