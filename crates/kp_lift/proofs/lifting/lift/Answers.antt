use Rattle.std.proofs.Common.{length, nat_lt, sym, ◌∙◌}
use Rattle.std.proofs.lemmas.Bool.{and_parts}
use Rattle.kp_lift.proofs.Named.{few_operators, operators_below}
use Rattle.kp_lift.proofs.Ending.{answers_lifted, answers_unlifted}
use Rattle.kp_lift.proofs.lifting.lift.Goals as goal

pub run-requires-clause-few : goal.run-requires-clause-few
run-requires-clause-few c =
    let counted = and_parts (nat_lt (length c.args.table.now.tags) 4294967296) (nat_lt (length c.args.task.now.ops) 4294967296) (sym c.are_counted.ensures ∙ c.if-not-are_counted.false) in
    few_operators c.args.ground.now c.args.table.now c.args.task.now c.requires.task counted.1

-- it fails somewhere
pub returns-in-Some-clause-answers : goal.returns-in-Some-clause-answers
returns-in-Some-clause-answers c =
    answers_unlifted c.args.ground.now c.args.table.now c.args.steps.now c.run.new.operators c.in-Some.at
    (rw (c.in-Some.is, c.slice.ensures) at c.in_ok-at.ensures)

-- or lifts
pub returns-in-None-clause-answers : goal.returns-in-None-clause-answers
returns-in-None-clause-answers c =
    answers_lifted c.args.ground.now c.args.table.now c.args.steps.now c.run.new.operators
    (rw (c.in-None.is, c.slice.ensures, c.new-operators.ensures) at c.in_ok-at.ensures)

pub returns-in-None-clause-operators : goal.returns-in-None-clause-operators
returns-in-None-clause-operators c =
    let ends = rw (c.in-None.is, c.slice.ensures, c.new-operators.ensures) at c.in_ok-at.ensures in
    operators_below c.args.ground.now c.args.table.now c.args.task.now c.args.steps.now c.run.new.operators c.requires.task c.requires.inside
    (answers_lifted c.args.ground.now c.args.table.now c.args.steps.now c.run.new.operators ends).0
