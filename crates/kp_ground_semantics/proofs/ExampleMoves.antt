-- The ground problem of moves between two places, computed from texts; the laws' premises can be met.
use Rattle.std.proofs.Common.{◌≡◌, ℕ, false, List, [], ◌∷◌, Option, Some, None, refl, sym, subst, inl, inr, map, codes}
use Rattle.kp_base.specs.Planning.{atom, Member, positive, negative, action_name}
use Rattle.kp_base.specs.declared.lit.Lit.{Lit}
use Rattle.kp_base.specs.declared.ground.GroundName.{GroundName}
use Rattle.kp_base.specs.declared.ground.Effect.{Effect}
use Rattle.kp_base.specs.declared.ground.Action.{Action}
use Rattle.kp_base.specs.declared.ground.Ground.{Ground}
use Rattle.kp_names_semantics.specs.Names.{Name}
use Rattle.kp_names_semantics.specs.Lifted.{State, is_named, IsInitial, IsPlan}
use Rattle.kp_names_semantics.specs.Numbering.{numbered_problem}
use Rattle.kp_names_semantics.proofs.Public.{domain_of_text, problem_of_text, moves_domain, from_a_to_b_problem, move_schema, moves_have_no_fault}
pub use Rattle.kp_names_semantics.proofs.Public.{moves_by_number, moves_are_numbered as numbered_moves}
use Rattle.kp_ground_semantics.specs.Static.{is_static, HasStaticTruth}
use Rattle.kp_ground_semantics.specs.Ground.{instance, kept_bindings, kept_instances, ground_atoms, IsNumbering, ground_of}
use Rattle.kp_ground_semantics.specs.Weights.{binding_count, weight, total_weight}
use Rattle.kp_ground_semantics.specs.Laws.{IsStepOf, IsGroundRun}
use Rattle.kp_ground_semantics.proofs.Atoms.{atoms_are_numbered}
use Rattle.kp_ground_semantics.proofs.Static.{static_at_first}
use Rattle.kp_ground_semantics.proofs.Step.{step_exact, kept_exact}
use Rattle.kp_ground_semantics.proofs.Plans.{plan_exact}
use Rattle.kp_ground_semantics.proofs.Names.{actions_named_once}
use Rattle.kp_ground_semantics.proofs.ExampleGrounds.{named, effect}

-- ---- the ground problem

abbrev action : Name → Name → List Lit → List Effect → Action
action x y pre effects = record { name = named (codes "move") (x ∷ y ∷ []); pre = pre; effects = effects }

-- the move from a place to itself has lost its delete
abbrev pub ground_moves : Ground
ground_moves = record {
  atoms = named (codes "at") (codes "a" ∷ []) ∷ named (codes "at") (codes "b" ∷ []) ∷ [];
  table = atom 0 (0 ∷ []) ∷ atom 0 (1 ∷ []) ∷ [];
  actions =
      action (codes "a") (codes "a") (positive 0 ∷ []) (effect [] (positive 0) ∷ [])
      ∷ action (codes "a") (codes "b") (positive 0 ∷ []) (effect [] (negative 0) ∷ effect [] (positive 1) ∷ [])
      ∷ action (codes "b") (codes "a") (positive 1 ∷ []) (effect [] (negative 1) ∷ effect [] (positive 0) ∷ [])
      ∷ action (codes "b") (codes "b") (positive 1 ∷ []) (effect [] (positive 1) ∷ [])
      ∷ [];
  goal = positive 1 ∷ [];
}

pub moves_are_ground : ground_of moves_by_number ≡ ground_moves
moves_are_ground = refl

kept : kept_instances moves_by_number ≡ instance 0 (0 ∷ 0 ∷ []) ∷ instance 0 (0 ∷ 1 ∷ []) ∷ instance 0 (1 ∷ 0 ∷ []) ∷ instance 0 (1 ∷ 1 ∷ []) ∷ []
kept = refl

not_static : is_static moves_by_number 0 ≡ false
not_static = refl

four_bindings : binding_count moves_by_number ≡ 4
four_bindings = refl

-- one for the precondition, one for each effect
weights : map weight moves_by_number.schemas ≡ 3 ∷ []
weights = refl

in_all : total_weight moves_by_number ≡ 12
in_all = refl

-- ---- the laws' premises

abbrev pub numbering : IsNumbering moves_by_number (ground_atoms moves_by_number)
numbering = (atoms_are_numbered moves_by_number).numbering

-- an initial state: just what `:init` names
abbrev first : State
first = is_named moves_by_number

is_first : IsInitial moves_by_number first
is_first = record { items = refl; absent = λ q os e. e }

truth : HasStaticTruth moves_by_number first
truth = static_at_first moves_by_number first is_first

-- the step from a to b is kept, so its action does what it does
a_step : IsStepOf moves_by_number (ground_atoms moves_by_number) first move_schema (0 ∷ 1 ∷ [])
a_step = step_exact moves_by_number (ground_atoms moves_by_number) numbering first truth move_schema (0 ∷ 1 ∷ []) (inl refl) (inr (inl refl))

-- a plan by number, and its run of actions
stay_and_go : IsPlan moves_by_number (instance 0 (0 ∷ 0 ∷ []) ∷ instance 0 (0 ∷ 1 ∷ []) ∷ [])
stay_and_go = record { instances = refl; reaches = λ s i. i.items }

a_run : (ns : List ℕ) × IsGroundRun moves_by_number (ground_atoms moves_by_number) (instance 0 (0 ∷ 0 ∷ []) ∷ instance 0 (0 ∷ 1 ∷ []) ∷ []) ns
a_run = (plan_exact moves_by_number (ground_atoms moves_by_number) numbering first is_first (instance 0 (0 ∷ 0 ∷ []) ∷ instance 0 (0 ∷ 1 ∷ []) ∷ [])).0 stay_and_go

-- it may be taken at first, and so it is kept
a_kept_step : Member (kept_bindings moves_by_number move_schema) (0 ∷ 1 ∷ [])
a_kept_step = kept_exact moves_by_number first truth move_schema (0 ∷ 1 ∷ []) (inr (inl refl)) refl

-- ---- the names of actions

abbrev number_and_name : ℕ → Option GroundName
number_and_name n = action_name (ground_of moves_by_number) n

names : map number_and_name (0 ∷ 1 ∷ 2 ∷ 3 ∷ 4 ∷ []) ≡ Some (named (codes "move") (codes "a" ∷ codes "a" ∷ [])) ∷ Some (named (codes "move") (codes "a" ∷ codes "b" ∷ [])) ∷ Some (named (codes "move") (codes "b" ∷ codes "a" ∷ [])) ∷ Some (named (codes "move") (codes "b" ∷ codes "b" ∷ [])) ∷ None ∷ []
names = refl

-- what has the name of the second action is the second action
by_its_name : (n : ℕ) → action_name (ground_of (numbered_problem (domain_of_text moves_domain) (problem_of_text from_a_to_b_problem))) n ≡ Some (named (codes "move") (codes "a" ∷ codes "b" ∷ [])) → n ≡ 1
by_its_name n h = actions_named_once (domain_of_text moves_domain) (problem_of_text from_a_to_b_problem) moves_have_no_fault n 1 (named (codes "move") (codes "a" ∷ codes "b" ∷ [])) h (subst (λ l. action_name (ground_of l) 1 ≡ Some (named (codes "move") (codes "a" ∷ codes "b" ∷ []))) (sym numbered_moves) refl)
