-- The task of a ground problem with one initial state: its facts are the atoms, its operators the actions, in their order.
use Rattle.std.specs.Prelude.{◌≡◌, ◌<◌, ◌↔◌, ℕ, Bool, true, false, ◌||◌, List, [], length, map, filter, slice_get, nat_eq}
use Rattle.std.specs.Bool.{beq}
use Rattle.std.specs.List.{list_any, list_all}
use Rattle.kp_base.specs.declared.lit.Lit.{Lit}
use Rattle.kp_base.specs.declared.ground.GroundName.{GroundName}
use Rattle.kp_base.specs.declared.ground.Effect.{Effect}
use Rattle.kp_base.specs.declared.ground.Action.{Action}
use Rattle.kp_base.specs.declared.ground.Ground.{Ground}
use Rattle.kp_base.specs.declared.ground.Initial.{Initial}
use Rattle.kp_base.specs.Entailed.{HasModel}
use Rattle.kp_base.specs.Implicates.{IsOfAtoms}
use Rattle.kp_base.specs.Lit.{positive, negative, has}
use Rattle.kp_base.specs.Steps as on_atoms
use Rattle.kp_classic.specs.declared.task.Conds.{Conds}
use Rattle.kp_classic.specs.declared.task.OpEffect.{OpEffect}
use Rattle.kp_classic.specs.declared.task.Op.{Op}
use Rattle.kp_classic.specs.declared.task.Task.{Task}
use Rattle.kp_classic.specs.States.{holding_among}
use Rattle.kp_classic.specs.Steps.{Holding, meets, applicable, next, start, succeeds}

-- ---- the task

-- the atoms of the literals with this sign, in order
abbrev pub atoms_with : Bool → List Lit → List ℕ
atoms_with sign ls = map (λ l. l.atom.0) (filter (λ l. beq sign l.positive) ls)

-- the literals as conditions
abbrev pub conds_of : List Lit → Conds
conds_of ls = record { yes = atoms_with true ls; no = atoms_with false ls }

-- an effect: a positive result is added, and the atom of a negative one deleted
abbrev pub effect_of : Effect → OpEffect
effect_of e = record { cond = conds_of e.cond; fact = e.result.atom.0; adds = e.result.positive }

-- an operator without a name
abbrev pub op_of : Action → Op
op_of a = record { name = []; pre = conds_of a.pre; effects = map effect_of a.effects }

-- some clause has the atom
abbrev pub is_said : Initial → Holding
is_said i p = list_any (λ c. has c (positive p)) i.clauses

-- a fact without a name
abbrev pub nameless : GroundName → List ℕ
nameless name = []

-- at the start those facts hold that stand positive in some clause; of a formula with one state each clause is one literal
abbrev pub task_of : Ground → Initial → Task
task_of g i = record {
  facts = map nameless g.atoms;
  init = holding_among (length g.atoms) (is_said i);
  goal = conds_of g.goal;
  ops = map op_of g.actions;
}

-- ---- what it asks for

-- it is said of the atom whether it holds: by a clause that has one of its literals, or since it is closed
abbrev pub is_known : Initial → ℕ → Bool
is_known i p = list_any (λ c. has c (positive p) || has c (negative p)) i.clauses || list_any (λ q. nat_eq q.0 p) i.closed

-- Each clause is one literal, none contradicts another, and it is said of each of the first n atoms, and of no other, whether it holds.
pub record SaysOneState (n : ℕ) (i : Initial) : Type 0 where
  pub of_atoms : IsOfAtoms n i
  pub units : list_all (λ c. nat_eq (length c) 1) i.clauses ≡ true
  pub each_known : (p : ℕ) → p < n → is_known i p ≡ true
  pub consistent : HasModel i

-- ---- what holds of it

-- The task's steps and goal are those of the ground problem, and its start is the one model; so its plans are those of the ground problem.
pub record DoesTheSame (g : Ground) (i : Initial) (t : Task) : Type 0 where
  pub may_take : (n : ℕ) (s : Holding) → applicable (slice_get t.ops n) s ≡ on_atoms.applicable (slice_get g.actions n) s
  pub steps : (n : ℕ) (s : Holding) (p : ℕ) → next (slice_get t.ops n) s p ≡ on_atoms.next (slice_get g.actions n) s p
  pub goals : (s : Holding) → meets t.goal s ≡ list_all (on_atoms.holds s) g.goal
  pub starts : on_atoms.is_model i (start t) ≡ true
  pub one_model : (s : Holding) → on_atoms.is_model i s ≡ true → (p : ℕ) → p < length g.atoms → s p ≡ start t p
  pub plans : (ns : List ℕ) → (succeeds t (start t) ns ≡ true) ↔ on_atoms.IsGroundPlan g i ns
