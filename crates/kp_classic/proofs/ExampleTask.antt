-- A ground problem of two atoms, of which one holds at the start, and its task: the premises of `task_of` are met.
use Rattle.std.proofs.Common.{◌≡◌, ◌<◌, ℕ, zero, suc, true, false, [], ◌∷◌, Some, None, refl, arith}
use Rattle.kp_base.specs.declared.ground.GroundName.{GroundName}
use Rattle.kp_base.specs.declared.ground.Action.{Action}
use Rattle.kp_base.specs.declared.ground.Ground.{Ground}
use Rattle.kp_base.specs.declared.ground.Initial.{Initial}
use Rattle.kp_base.specs.Lit.{positive, negative}
use Rattle.kp_classic.specs.declared.task.Task.{Task}
use Rattle.kp_base.specs.Implicates.{IsOfItsAtoms}
use Rattle.kp_classic.specs.Grounded.{task_of, is_known, SaysOneState}
use Rattle.kp_classic.specs.Runs.{state_at_end}
use Rattle.kp_classic.specs.Steps.{Holding, start, succeeds}

abbrev pub nameless : GroundName
nameless = record { head = []; objects = [] }

-- where p holds and q doesn't, q comes, and p comes and goes
abbrev pub swap : Action
swap = record {
  name = nameless;
  pre = positive 0 ∷ negative 1 ∷ [];
  effects = record { cond = []; result = positive 1 } ∷ record { cond = positive 1 ∷ []; result = positive 0 } ∷ record { cond = positive 0 ∷ []; result = negative 0 } ∷ [];
}

abbrev pub small : Ground
small = record {
  atoms = nameless ∷ nameless ∷ [];
  table = [];
  actions = swap ∷ [];
  goal = negative 0 ∷ positive 1 ∷ [];
}

-- p is stated, and q closed
abbrev pub start_of_small : Initial
start_of_small = record { clauses = (positive 0 ∷ []) ∷ []; closed = record { 0 = 1 } ∷ [] }

abbrev only_p : Holding
only_p zero = true
only_p (suc p) = false

pub of_atoms : IsOfItsAtoms small
of_atoms = record { few_atoms = omega arith; few_actions = omega arith; actions = refl; goal = refl }

pub one_state : SaysOneState 2 start_of_small
one_state = record {
  of_atoms = record { clauses = refl; closed = refl };
  units = refl;
  each_known = each;
  consistent = record { state = only_p; model = refl; all_true = refl };
}
  where
    each : (p : ℕ) → p < 2 → is_known start_of_small p ≡ true
    each zero h = refl
    each (suc zero) h = refl
    each (suc (suc p)) h = absurd (omega (arith, h))

-- ---- its task

abbrev small_task : Task
small_task = record {
  facts = [] ∷ [] ∷ [];
  init = 0 ∷ [];
  goal = record { yes = 1 ∷ []; no = 0 ∷ [] };
  ops = record {
    name = [];
    pre = record { yes = 0 ∷ []; no = 1 ∷ [] };
    effects = record { cond = record { yes = []; no = [] }; fact = 1; adds = true }
        ∷ record { cond = record { yes = 1 ∷ []; no = [] }; fact = 0; adds = true }
        ∷ record { cond = record { yes = 0 ∷ []; no = [] }; fact = 0; adds = false }
        ∷ [];
  } ∷ [];
}

its_task : task_of small start_of_small ≡ small_task
its_task = refl

-- the add of p asks for q, which doesn't hold before the step
step_reaches : succeeds small_task (start small_task) (0 ∷ []) ≡ true
step_reaches = refl

-- and the step leads there
end_of_step : state_at_end small_task (0 ∷ []) ≡ Some (record { facts = 2; hold = 1 ∷ [] })
end_of_step = refl

-- nothing to do doesn't reach the goal, and a second step may not be taken
none_reaches : succeeds small_task (start small_task) [] ≡ false
none_reaches = refl

no_second : state_at_end small_task (0 ∷ 0 ∷ []) ≡ None
no_second = refl
