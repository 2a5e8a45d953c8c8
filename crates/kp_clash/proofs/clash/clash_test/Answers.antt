use Rattle.std.proofs.Common.{Some, None}
use Rattle.kp_clash_exclusive.specs.Paired.{is_pair}
use Rattle.kp_clash.proofs.InOrder.{first_is, none_is}
use Rattle.kp_clash.proofs.clash.clash_test.Goals as goal

pub returns-in-Some-clause-first : goal.returns-in-Some-clause-first
returns-in-Some-clause-first c = first_is (is_pair c.args.pairs.now) c.args.ground.now (Some c.in-Some.clash) (rw c.slice.ensures at c.in-Some.ensures)

pub returns-in-None-clause-none : goal.returns-in-None-clause-none
returns-in-None-clause-none c = none_is (is_pair c.args.pairs.now) c.args.ground.now None (rw c.slice.ensures at c.in-None.ensures)
