-- What the two passes over the kept instances make of them. This file serves proofs alone.
use Rattle.std.specs.Prelude.{◌≡◌, ◌<◌, ◌≤◌, ℕ, Bool, not, List, [], ◌++◌, Option, Some, None, option_map, Result, Ok, Err, length, nat_lt, slice_get}
use Rattle.std.specs.List.{flat_map}
use Rattle.kp_base.specs.Lists.{Member}
use Rattle.kp_base.specs.declared.refused.Refused.TheVariants as refusals
use Rattle.kp_base.specs.declared.refused.Stop.{Stop}
use Rattle.kp_base.specs.declared.refused.Stop.TheVariants as stops
use Rattle.kp_base.specs.declared.ground.GroundName.{GroundName}
use Rattle.kp_base.specs.declared.ground.Action.{Action}
use Rattle.kp_names_semantics.specs.declared.lifted.GroundLit.{GroundLit}
use Rattle.kp_names_semantics.specs.Numbered.{Schema, Lifted}
use Rattle.kp_names_semantics.specs.Lifted.{Instance, schema_of}
use Rattle.kp_base.specs.Atoms.{Atom}
use Rattle.kp_ground_semantics.specs.Static.{is_static}
use Rattle.kp_ground_semantics.specs.Ground.{kept_bindings, instance_literals, open_literals, kept_instances, ground_atoms, IsNumbering, object_names, action_of}

-- ---- instances

-- there is a schema of this number
abbrev pub has_schema : Lifted → Instance → Bool
has_schema l i = nat_lt i.schema (length l.schemas)

-- the name of the action of an instance, if there is such a schema
abbrev pub name_with : Lifted → ℕ → List ℕ → Option GroundName
name_with l n os = option_map (λ a. record { head = a.name; objects = object_names l os }) (slice_get l.schemas n)

-- the action of a schema with these objects; an empty one where there is no such schema
abbrev pub action_with : Lifted → List Atom → Option Schema → List ℕ → Action
action_with l atoms None os = record { name = record { head = []; objects = [] }; pre = []; effects = [] }
action_with l atoms (Some a) os = action_of l atoms a os

-- the action of an instance
abbrev pub action_at : Lifted → List Atom → Instance → Action
action_at l atoms i = action_with l atoms (schema_of l i) i.objects

-- ---- literals

-- the literal's predicate isn't static
abbrev pub is_open : Lifted → GroundLit → Bool
is_open l m = not (is_static l m.pred)

-- those of a schema with these objects, if there is one
abbrev pub literals_of : Lifted → Option Schema → List ℕ → List GroundLit
literals_of l None os = []
literals_of l (Some a) os = instance_literals l a os

-- those of an instance
abbrev pub literals_at : Lifted → Instance → List GroundLit
literals_at l i = literals_of l (schema_of l i) i.objects

-- the schema with these objects is kept, and the atoms are those by whose places literals are numbered
pub record IsKnown (l : Lifted) (atoms : List Atom) (a : Schema) (os : List ℕ) : Type 0 where
  pub numbering : IsNumbering l atoms
  pub schema : Member l.schemas a
  pub kept : Member (kept_bindings l a) os

-- the literals whose atoms are gathered, in this order
abbrev pub noted : Lifted → List GroundLit
noted l = l.goal ++ (open_literals l ++ flat_map (literals_at l) (kept_instances l))

-- ---- answers

-- the ground atoms, or the refusal where they are more than the limit; want of memory is free
abbrev pub AnswersAtoms : Lifted → ℕ → Result (List Atom) Stop → Type 0
AnswersAtoms l limit (Ok atoms) = (atoms ≡ ground_atoms l) × (length (ground_atoms l) ≤ limit)
AnswersAtoms l limit (Err stops.Memory) = Unit {0}
AnswersAtoms l limit (Err (stops.Refused r)) = (r ≡ refusals.AtomsOver) × (limit < length (ground_atoms l))
