use Rattle.kp_clash_exclusive.proofs.Marked.{is_pair_marked}
use Rattle.kp_clash_exclusive.proofs.pairs.Pairs.of_table.Goals as goal

pub returns : goal.returns
returns c = λ p q. is_pair_marked c.args.atoms c.args.table c.requires p q
