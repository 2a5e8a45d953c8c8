use Rattle.std.proofs.Common.{[], ◌∷◌, sym, ◌∙◌}
use Rattle.kp_clash_exclusive.specs.Paired.{is_pair}
use Rattle.kp_clash_exclusive.proofs.Public.{adds_broken, broken_pair_may_go}
use Rattle.kp_clash_sweeps.proofs.together.clear_both.Goals as goal

pub returns-then-adds_pair : goal.returns-then-adds_pair
returns-then-adds_pair c =
    let broken = adds_broken (is_pair c.args.pairs.now) c.args.action.now c.args.effect.now c.args.other.now c.requires.one c.requires.other (sym c.adds_pair.ensures ∙ c.if-adds_pair.true) in
    broken_pair_may_go (c.args.action.now ∷ []) c.args.effect.now.result.atom.0 c.args.other.now.result.atom.0 c.args.pairs.now c.remove.new.self broken c.remove.ensures
