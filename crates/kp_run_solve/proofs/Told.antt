-- What is told of what is found, from what the code makes.
use Rattle.std.proofs.Common.{◌≡◌, ℕ, List, [], Option, Some, None, map, Result, Ok, Err, IfOk}
use Rattle.kp_base.specs.declared.memory.Memory.{Memory}
use Rattle.kp_base.specs.declared.ground.Ground.{Ground}
use Rattle.kp_base.specs.declared.ground.GroundName.{GroundName}
use Rattle.kp_base.specs.declared.ground.TagTable.{TagTable}
use Rattle.kp_base.specs.ActionNames.{action_name}
use Rattle.kp_search.specs.declared.found.Found.{Found}
use Rattle.kp_search.specs.declared.found.Found.TheVariants.{Plan}
use Rattle.kp_classic.specs.declared.task.Task.{Task}
use Rattle.kp_run_outcome.specs.declared.outcome.Outcome.{Outcome}
use Rattle.kp_run_solve.specs.Solving.{Finds, Searches, solves, AreNamed, TellsClassical}

-- what is found is told
pub found_told : (budget : ℕ) (task : Task) (told : Found → Outcome → Type 0) (found : Found) (r : Result Outcome Memory) → Finds task budget found → IfOk r (told found) → IfOk r (Searches task budget told)
found_told budget task told found (Ok o) finds h = record { found = found; finds = finds; tells = h }
found_told budget task told found (Err m) finds h = tt

-- operators are told by name
pub told_operators : (name : Option (List ℕ)) (g : Ground) (table : TagTable) (ops : List ℕ) (written plan : List GroundName) (r : Result Outcome Memory) → AreNamed g table ops written plan → IfOk r (λ o. o ≡ solves name written plan)
    → IfOk r (λ o. (written : List GroundName) × (plan : List GroundName) × AreNamed g table ops written plan × (o ≡ solves name written plan))
told_operators name g table ops written plan (Ok o) named is = (written, plan, named, is)
told_operators name g table ops written plan (Err m) named is = tt

-- actions are told by name
pub told_actions : (g : Ground) (ops : List ℕ) (n : ℕ) (plan : List GroundName) (r : Result Outcome Memory) → map (action_name g) ops ≡ map Some plan → IfOk r (λ o. o ≡ solves None [] plan) → IfOk r (TellsClassical g (Plan ops n))
told_actions g ops n plan (Ok o) names is = (plan, names, is)
told_actions g ops n plan (Err m) names is = tt
