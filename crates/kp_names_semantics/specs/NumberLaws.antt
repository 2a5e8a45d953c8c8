-- What a problem means by name it means by number.
use Rattle.std.specs.Prelude.{◌≡◌, ◌↔◌, ◌<◌, ℕ, Bool, true, false, ◌&&◌, List, [], map, length, slice_index}
use Rattle.kp_tree_grammar.specs.declared.tree.Word.{Word}
use Rattle.kp_tree_grammar.specs.Trees.{Cond, Conds, Eff, Domain, Problem}
use Rattle.kp_tree_grammar.specs.Grammar as grammar
use Rattle.kp_tree_grammar.specs.Texts.{ReadsAs}
use Rattle.kp_names_semantics.specs.Names.{Name, is_among}
use Rattle.kp_names_semantics.specs.Types.{objects}
use Rattle.kp_names_semantics.specs.Faults.{cond_faults, eff_faults, HasNoFault}
use Rattle.kp_names_semantics.specs.States as named
use Rattle.kp_names_semantics.specs.Steps as named_steps
use Rattle.kp_names_semantics.specs.Steps.{Step}
use Rattle.kp_names_semantics.specs.Initial as named_initial
use Rattle.kp_names_semantics.specs.Plans.{Solves}
use Rattle.kp_names_semantics.specs.Lifted.{State, Binding, Instance, holds, fires, is_instance, applicable, next, IsInitial, IsPlan}
use Rattle.kp_names_semantics.specs.Numbering.{name_at, variable_number, numbered_cond, numbered_eff, numbered_problem, named_literal, named_step, Agree}

-- each variable of the scope stands by number for the object for which it stands by name
pub record Matches (d : Domain Word) (p : Problem Word) (scope : List Name) (b : named.Binding) (c : Binding) : Type 0 where
  pub size : length c ≡ length scope
  pub below : (v : Name) → is_among scope v ≡ true → slice_index c (variable_number scope v) < length (objects d p)
  pub names : (v : Name) → is_among scope v ≡ true → name_at (objects d p) (slice_index c (variable_number scope v)) ≡ b v

-- a condition holds by number where it holds by name
abbrev pub IsHoldsNumbered : Type 0
IsHoldsNumbered = (d : Domain Word) (p : Problem Word) (s : named.State) (t : State) → Agree d p s t → (scope : List Name) (b : named.Binding) (c : Binding) → Matches d p scope b c → (x : Cond Word) → cond_faults d p scope x ≡ [] → holds t c (numbered_cond d p scope x) ≡ named.holds s b x

-- an effect names the same literals
abbrev pub IsFiresNumbered : Type 0
IsFiresNumbered = (d : Domain Word) (p : Problem Word) (s : named.State) (t : State) → Agree d p s t → (scope : List Name) (b : named.Binding) (c : Binding) → Matches d p scope b c → (e : Eff Word) → eff_faults d p scope e ≡ [] → map (named_literal d p) (fires t c (numbered_eff d p scope e)) ≡ named_steps.fires d p s b e

-- from agreeing states, an instance by number may be taken where the step of its name may, and the states afterwards agree
pub record IsSameStep (d : Domain Word) (p : Problem Word) (s : named.State) (t : State) (i : Instance) : Type 0 where
  pub applies : applicable (numbered_problem d p) i t ≡ named_steps.applicable d (named_step d p i) s
  pub leads : Agree d p (named_steps.next d p (named_step d p i) s) (next (numbered_problem d p) i t)

-- where there is no fault, each instance does what the step of its name does
abbrev pub IsStepNumbered : Type 0
IsStepNumbered = (d : Domain Word) (p : Problem Word) → HasNoFault d p → (s : named.State) (t : State) → Agree d p s t → (i : Instance) → is_instance (numbered_problem d p) i ≡ true → IsSameStep d p s t i

-- the initial states by name and by number agree, each with one of the others
pub record AgreeInitially (d : Domain Word) (p : Problem Word) : Type 0 where
  pub by_number : (s : named.State) → named_initial.IsInitial p s → (t : State) × IsInitial (numbered_problem d p) t × Agree d p s t
  pub by_name : (t : State) → IsInitial (numbered_problem d p) t → (s : named.State) × named_initial.IsInitial p s × Agree d p s t

-- where there is no fault, the initial states by name and by number agree
abbrev pub IsInitialNumbered : Type 0
IsInitialNumbered = (d : Domain Word) (p : Problem Word) → HasNoFault d p → AgreeInitially d p

-- no equality stands in a goal; the grammar has none there
abbrev mutual
  pub is_plain_goal : Cond Word → Bool
  is_plain_goal (Cond.all cs) = are_plain_goals cs
  is_plain_goal (Cond.atom positive a) = true
  is_plain_goal (Cond.same positive left right) = false

  pub are_plain_goals : Conds Word → Bool
  are_plain_goals Conds.no_cond = true
  are_plain_goals (Conds.more_conds c cs) = is_plain_goal c && are_plain_goals cs

-- what the grammar reads as a problem has such a goal
abbrev pub GoalsArePlain : Type 0
GoalsArePlain = (text : List ℕ) (p : Problem Word) → ReadsAs grammar.problem text p → is_plain_goal p.goal ≡ true

-- the plans by name are the plans by number with names put back
abbrev pub IsPlanNumbered : Type 0
IsPlanNumbered = (d : Domain Word) (p : Problem Word) → HasNoFault d p → is_plain_goal p.goal ≡ true → (steps : List Step) → Solves d p steps ↔ ((is : List Instance) × (map (named_step d p) is ≡ steps) × IsPlan (numbered_problem d p) is)

-- no two instances have one name, so that a plan by name is one plan by number
abbrev pub IsNamedOnce : Type 0
IsNamedOnce = (d : Domain Word) (p : Problem Word) → HasNoFault d p → (i j : Instance) → is_instance (numbered_problem d p) i ≡ true → is_instance (numbered_problem d p) j ≡ true → named_step d p i ≡ named_step d p j → i ≡ j
