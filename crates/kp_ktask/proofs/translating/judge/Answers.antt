use Rattle.std.proofs.Common.{◌<◌, ◌≤◌, length, arith}
use Rattle.kp_law_ktask.specs.Task.{task_of}
use Rattle.kp_law_ktask.specs.Weight.{weight_of}
use Rattle.kp_law_ktask.proofs.Public.{facts_are_counted, weight_is_counted}
use Rattle.kp_ktask.specs.Translated.{facts_over, weight_over}
use Rattle.kp_ktask.proofs.translating.judge.Goals as goal

pub returns-then-fact_count-from-clause-refused : goal.returns-then-fact_count-from-clause-refused
returns-then-fact_count-from-clause-refused c =
    let count = facts_are_counted c.args.ground.now c.args.table.now in
    let over : c.args.limits.now.facts < length (task_of c.args.ground.now c.args.table.now).facts = omega (arith, count) in
    facts_over over

pub returns-then-task_weight-from-clause-refused : goal.returns-then-task_weight-from-clause-refused
returns-then-task_weight-from-clause-refused c =
    let count = facts_are_counted c.args.ground.now c.args.table.now in
    let counted = weight_is_counted c.args.ground.now c.args.table.now in
    let few : length (task_of c.args.ground.now c.args.table.now).facts ≤ c.args.limits.now.facts = omega (arith, count) in
    let over : c.args.limits.now.task_weight < weight_of (task_of c.args.ground.now c.args.table.now) = omega (arith, counted) in
    weight_over few over

pub returns-clause-within : goal.returns-clause-within
returns-clause-within c =
    let count = facts_are_counted c.args.ground.now c.args.table.now in
    let counted = weight_is_counted c.args.ground.now c.args.table.now in
    record { facts = omega (arith, count); weight = omega (arith, counted) }
