-- The laws that join a problem by number with its ground problem.
use Rattle.std.specs.Prelude.{◌≡◌, ◌↔◌, ℕ, true, ◌&&◌, List, Some, option_map, map, slice_get}
use Rattle.std.specs.List.{list_all}
use Rattle.kp_base.specs.declared.ground.GroundName.{GroundName}
use Rattle.kp_base.specs.Lists.{Member, each_once}
use Rattle.kp_base.specs.Atoms.{Atom, AtomsAscend}
use Rattle.kp_base.specs.Steps as steps
use Rattle.kp_base.specs.ActionNames.{action_name}
use Rattle.kp_tree_grammar.specs.declared.tree.Word.{Word}
use Rattle.kp_tree_grammar.specs.Trees.{Domain, Problem}
use Rattle.kp_names_semantics.specs.Problems.{HasNoFault, Cond, Eff, Schema, Lifted, Instance, literal_holds, holds, bindings, numbered_problem, named_step}
use Rattle.kp_names_semantics.specs.Lifted.{State, Binding, names_literal, fires, permits, state_by, next, IsInitial, IsPlan}
use Rattle.kp_names_semantics.specs.declared.lifted.GroundLit.{GroundLit}
use Rattle.kp_ground_semantics.specs.declared.flat.FlatEffect.{FlatEffect}
use Rattle.kp_ground_semantics.specs.Static.{HasStaticTruth, settled, remaining}
use Rattle.kp_ground_semantics.specs.Flattening.{same_flat, flat, flat_fires}
use Rattle.kp_ground_semantics.specs.Ground.{kept_bindings, kept_instances, atom_of, occurring, ground_atoms, IsNumbering, action_of, ground_over, ground_of, seen_on}

-- ---- conditions, effects and static truth

-- a condition holds where its static literals and equalities are true and its other literals hold
abbrev pub IsSplit : Type 0
IsSplit = (l : Lifted) (s : State) → HasStaticTruth l s → (b : Binding) (c : Cond) → holds s b c ≡ (settled l b c && list_all (literal_holds s) (remaining l b c))

-- the flat effects fire just what the effect fires, in the same order
abbrev pub IsFlatExact : Type 0
IsFlatExact = (l : Lifted) (s : State) → HasStaticTruth l s → (b : Binding) (e : Eff) → flat_fires s (flat l b e) ≡ fires s b e

-- each effect once fires the same literals
abbrev pub IsOnceExact : Type 0
IsOnceExact = (s : State) (fs : List FlatEffect) (m : GroundLit) → names_literal (flat_fires s (each_once same_flat fs)) m ≡ names_literal (flat_fires s fs) m

-- in an initial state the atoms of static predicates are as `:init` says
abbrev pub IsStaticAtFirst : Type 0
IsStaticAtFirst = (l : Lifted) (s : State) → IsInitial l s → HasStaticTruth l s

-- and after each step
abbrev pub IsStaticKept : Type 0
IsStaticKept = (l : Lifted) (s : State) → HasStaticTruth l s → (i : Instance) → HasStaticTruth l (next l i s)

-- ---- atoms

-- the atoms that occur, and no others, each once and in order
pub record AreGroundAtoms (l : Lifted) (atoms : List Atom) : Type 0 where
  pub numbering : IsNumbering l atoms
  pub occur : (a : Atom) → Member atoms a → Member (map atom_of (occurring l)) a
  pub ascending : AtomsAscend atoms

-- the ground atoms are these
abbrev pub AtomsAreNumbered : Type 0
AtomsAreNumbered = (l : Lifted) → AreGroundAtoms l (ground_atoms l)

-- ---- steps

-- on the ground atoms the action of a schema with these objects may be taken where the instance may, and then does the same
pub record IsStepOf (l : Lifted) (atoms : List Atom) (s : State) (a : Schema) (os : List ℕ) : Type 0 where
  pub applicable : steps.applicable (Some (action_of l atoms a os)) (seen_on atoms s) ≡ permits (Some a) os s
  pub next : permits (Some a) os s ≡ true → (n : ℕ) → steps.next (Some (action_of l atoms a os)) (seen_on atoms s) n ≡ seen_on atoms (state_by (Some a) os s) n

-- this holds of every kept instance
abbrev pub IsStepExact : Type 0
IsStepExact = (l : Lifted) (atoms : List Atom) → IsNumbering l atoms → (s : State) → HasStaticTruth l s → (a : Schema) (os : List ℕ) → Member l.schemas a → Member (kept_bindings l a) os → IsStepOf l atoms s a os

-- what may be taken is kept
abbrev pub IsKeptExact : Type 0
IsKeptExact = (l : Lifted) (s : State) → HasStaticTruth l s → (a : Schema) (os : List ℕ) → Member (bindings a.params) os → permits (Some a) os s ≡ true → Member (kept_bindings l a) os

-- ---- plans

-- the actions of these numbers are those of these instances, and succeed from each initial state
pub record IsGroundRun (l : Lifted) (atoms : List Atom) (is : List Instance) (ns : List ℕ) : Type 0 where
  pub numbers : map (slice_get (kept_instances l)) ns ≡ map Some is
  pub reaches : (s : State) → IsInitial l s → steps.succeeds (ground_over l atoms) (seen_on atoms s) ns ≡ true

-- where there is an initial state, the plans are the lists of kept instances whose actions succeed from each one
abbrev pub IsPlanExact : Type 0
IsPlanExact = (l : Lifted) (atoms : List Atom) → IsNumbering l atoms → (first : State) → IsInitial l first → (is : List Instance) → IsPlan l is ↔ ((ns : List ℕ) × IsGroundRun l atoms is ns)

-- ---- names

-- the action of a kept instance has the name of its step, and there are no other actions
abbrev pub AreNamedBySteps : Type 0
AreNamedBySteps = (d : Domain Word) (p : Problem Word) (n : ℕ) → action_name (ground_of (numbered_problem d p)) n ≡ option_map (named_step d p) (slice_get (kept_instances (numbered_problem d p)) n)

-- no two actions have one name
abbrev pub AreNamedOnce : Type 0
AreNamedOnce = (d : Domain Word) (p : Problem Word) → HasNoFault d p → (m n : ℕ) (x : GroundName) → action_name (ground_of (numbered_problem d p)) m ≡ Some x → action_name (ground_of (numbered_problem d p)) n ≡ Some x → m ≡ n
