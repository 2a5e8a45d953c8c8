-- Kept instances have schemas, and their actions are the actions of the ground problem.
use Rattle.std.proofs.Common.{◌≡◌, ℕ, zero, suc, ◌<◌, true, List, [], ◌∷◌, Option, Some, None, map, length, slice_get, option_map, get_or, Err, refl, sym, ap, subst, ◌∙◌, arith, inl, inr}
use Rattle.std.specs.List.{list_all, flat_map}
use Rattle.std.proofs.lemmas.Bool.{lt-ltb}
use Rattle.std.proofs.lemmas.Option.{slice_get-map}
use Rattle.kp_base.specs.declared.lit.Lit.{Lit}
use Rattle.kp_base.specs.declared.ground.Action.{Action}
use Rattle.kp_base.specs.declared.ground.Effect.{Effect}
use Rattle.kp_base.specs.Lists.{Member}
use Rattle.kp_base.specs.declared.ground.Ground.{Ground}
use Rattle.kp_base.specs.declared.limits.Limits.{Limits}
use Rattle.kp_base.specs.declared.refused.Stop.{Stop}
use Rattle.kp_base.specs.declared.refused.Stop.TheVariants as stops
use Rattle.kp_base.specs.declared.ground.GroundName.{GroundName}
use Rattle.kp_base.proofs.Lists.{all_from, member_at}
use Rattle.kp_names_semantics.specs.Numbered.{Schema, Lifted}
use Rattle.kp_names_semantics.specs.Lifted.{Instance, schema_of}
use Rattle.kp_base.specs.Atoms.{Atom}
use Rattle.kp_ground_semantics.specs.Ground.{kept_bindings, kept_instances, actions_of, atom_name, numbered_set, object_names, ground_pre, ground_effects, action_of, IsNumbering, ground_over}
use Rattle.kp_ground_semantics.proofs.Public.{kept_instance, instance_action, actions_of_kept_instances}
use Rattle.kp_names_numbered.specs.declared.lifted.Schema as owned
use Rattle.kp_names.specs.View.{schema_view}
use Rattle.kp_ground_instances.specs.declared.kept.Kept.{Kept}
use Rattle.kp_ground_instances.specs.Counts.{kept_view}
use Rattle.kp_ground_joins.specs.Limits.{IsWithinLimits, StopsAtCounts}
use Rattle.kp_ground.specs.Grounded.{RefusesGround, AnswersGround}
use Rattle.kp_ground.specs.Passes.{has_schema, name_with, action_with, action_at, IsKnown, AnswersAtoms}

there_below : {X : Type 0} (xs : List X) (n : ℕ) (x : X) → slice_get xs n ≡ Some x → n < length xs
there_below [] n x h = cc
there_below (y ∷ ys) zero x h = omega arith
there_below (y ∷ ys) (suc n) x h = let rest = there_below ys n x h in omega arith

pub all_known : (l : Lifted) → list_all (has_schema l) (kept_instances l) ≡ true
all_known l = all_from (has_schema l) (kept_instances l) (λ i m. let kept = kept_instance l i m in lt-ltb i.schema (length l.schemas) (there_below l.schemas i.schema kept.schema kept.at))

pub actions_at : (l : Lifted) (atoms : List Atom) → flat_map (actions_of l atoms) l.schemas ≡ map (action_at l atoms) (kept_instances l)
actions_at l atoms = actions_of_kept_instances l atoms ∙ same (kept_instances l)
  where
    one : (o : Option Schema) (os : List ℕ) → instance_action l atoms o os ≡ action_with l atoms o os
    one None os = refl
    one (Some a) os = refl

    same : (is : List Instance) → map (λ i. instance_action l atoms (schema_of l i) i.objects) is ≡ map (action_at l atoms) is
    same [] = refl
    same (i ∷ is) = rw (one (schema_of l i) i.objects, same is) refl

-- names, actions and goal make the ground problem
pub ground_is : (l : Lifted) (atoms : List Atom) (names : List GroundName) (actions : List Action) (goal : List Lit) → names ≡ map (atom_name l) atoms → actions ≡ map (action_at l atoms) (kept_instances l) → goal ≡ numbered_set atoms l.goal
    → (let g : Ground = record { atoms = names; table = atoms; actions = actions; goal = goal } in g) ≡ ground_over l atoms
ground_is l atoms names actions goal n a g =
    let same : actions ≡ flat_map (actions_of l atoms) l.schemas = a ∙ sym (actions_at l atoms) in
    cc

-- where the counts stop a call, they stop grounding
pub counts_stop : (l : Lifted) (limits : Limits) (s : Stop) → StopsAtCounts l limits s → AnswersGround l limits (Err s)
counts_stop l limits (stops.Refused r) h = RefusesGround.counts_over r h
counts_stop l limits stops.Memory h = tt

-- and where there are too many atoms
pub atoms_stop : (l : Lifted) (limits : Limits) (s : Stop) → IsWithinLimits l limits → AnswersAtoms l limits.atoms (Err s) → AnswersGround l limits (Err s)
atoms_stop l limits (stops.Refused r) within h = subst (RefusesGround l limits) (sym h.0) (RefusesGround.atoms_over within h.1)
atoms_stop l limits stops.Memory within h = tt

-- ---- a kept instance

pub below_of : (l : Lifted) (i : Instance) → Member (kept_instances l) i → i.schema < length l.schemas
below_of l i m = let kept = kept_instance l i m in there_below l.schemas i.schema kept.schema kept.at

-- a schema of the program as plain data
pub schema_seen : (ss : List owned.Schema) (n : ℕ) (s : owned.Schema) → slice_get ss n ≡ Some s → slice_get (map schema_view ss) n ≡ Some (schema_view s)
schema_seen ss n s h = slice_get-map schema_view ss n ∙ ap (option_map schema_view) h

pub known_of : (l : Lifted) (atoms : List Atom) (i : Instance) (a : Schema) → IsNumbering l atoms → Member (kept_instances l) i → schema_of l i ≡ Some a → IsKnown l atoms a i.objects
known_of l atoms i a numbering m is =
    let kept = kept_instance l i m in
    let both : Some kept.schema ≡ Some a = sym kept.at ∙ is in
    let same : kept.schema ≡ a = cc in
    record {
      numbering = numbering;
      schema = member_at l.schemas i.schema a is;
      kept = subst (λ s. Member (kept_bindings l s) i.objects) same kept.among;
    }

-- name, precondition and effects make its action
pub action_is : (l : Lifted) (atoms : List Atom) (i : Instance) (a : Schema) (made : Action) → schema_of l i ≡ Some a → name_with l i.schema i.objects ≡ Some made.name → made.pre ≡ ground_pre l atoms a i.objects → made.effects ≡ ground_effects l atoms a i.objects → made ≡ action_at l atoms i
action_is l atoms i a made is name pre effects =
    let named : Some (let n : GroundName = record { head = a.name; objects = object_names l i.objects } in n) ≡ Some made.name = sym (ap (option_map (λ (b : Schema). (let n : GroundName = record { head = b.name; objects = object_names l i.objects } in n))) is) ∙ name in
    let same : (let n : GroundName = record { head = a.name; objects = object_names l i.objects } in n) ≡ made.name = cc in
    whole made.name made.pre made.effects (sym same) pre effects ∙ sym (ap (λ o. action_with l atoms o i.objects) is)
  where
    whole : (n : GroundName) (p : List Lit) (es : List Effect) → n ≡ (let m : GroundName = record { head = a.name; objects = object_names l i.objects } in m) → p ≡ ground_pre l atoms a i.objects → es ≡ ground_effects l atoms a i.objects
        → (let x : Action = record { name = n; pre = p; effects = es } in x) ≡ action_of l atoms a i.objects
    whole n p es e f g = rw (e, f, g) refl

-- the instances there are kept
pub member_there : (ks : List Kept) (i : ℕ) (k : Kept) → i < length ks → k ≡ get_or ks i k → Member (map kept_view ks) (kept_view k)
member_there [] i k lt is = absurd (omega arith)
member_there (j ∷ ks) zero k lt is = inl (ap kept_view (sym is))
member_there (j ∷ ks) (suc i) k lt is = inr (member_there ks i k (omega arith) is)
