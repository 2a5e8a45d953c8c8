use Rattle.std.proofs.Common.{◌≡◌, Some, map, take, length}
use Rattle.kp_plans.specs.WordTables.{step_under}
use Rattle.kp_plans.proofs.finding.find_all.Given as goal

-- the numbers of the steps so far
abbrev pub invariant-loop-step : goal.invariant-loop-step
invariant-loop-step l = record {
  found : map (step_under l.table) (take l.step-index l.steps) ≡ map Some l.numbers;
  counted : length l.numbers ≡ l.step-index;
}
