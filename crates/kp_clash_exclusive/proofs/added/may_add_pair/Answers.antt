use Rattle.kp_clash_exclusive.specs.Paired.{is_pair}
use Rattle.kp_clash_exclusive.proofs.Noted.{adds_none, delete_adds_none}
use Rattle.kp_clash_exclusive.proofs.added.may_add_pair.Goals as goal

pub returns-then-effect : goal.returns-then-effect
returns-then-effect c = λ none. adds_none (is_pair c.args.pairs.now) c.args.added.now c.args.action.now c.args.effect.now c.requires (c.meets.ensures none)

pub returns-else-effect : goal.returns-else-effect
returns-else-effect c = λ sign. delete_adds_none (is_pair c.args.pairs.now) c.args.action.now c.args.effect.now sign
