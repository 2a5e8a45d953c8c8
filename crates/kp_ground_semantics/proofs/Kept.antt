-- Kept instances, and their actions.
use Rattle.std.proofs.Common.{◌≡◌, ℕ, List, [], ◌∷◌, ◌++◌, Option, Some, None, refl, sym, ap, subst, map, ◌∙◌, inl, inr, zero, suc, ◌+◌, arith, slice_get, option_map}
use Rattle.std.specs.List.{flat_map}
use Rattle.std.proofs.lemmas.List.{map-append}
use Rattle.std.proofs.lemmas.Option.{slice_get-map}
use Rattle.kp_base.specs.declared.ground.Action.{Action}
use Rattle.kp_base.specs.Lists.{Member}
use Rattle.kp_base.proofs.Lists.{map_map, map_member, append_member, member_map, member_left, member_right}
use Rattle.kp_names_semantics.specs.Numbered.{Schema, Lifted}
use Rattle.kp_names_semantics.specs.Lifted.{Instance, schema_of}
use Rattle.kp_base.specs.Atoms.{Atom}
use Rattle.kp_ground_semantics.specs.Ground.{kept_bindings, instance, kept_from, kept_instances, action_of, actions_of, ground_over}

-- these schemas are those of the problem from this number on
abbrev From : Lifted → ℕ → List Schema → Type 0
From l k more = (n : ℕ) (a : Schema) → slice_get more n ≡ Some a → slice_get l.schemas (k + n) ≡ Some a

all_from_first : (l : Lifted) → From l 0 l.schemas
all_from_first l n a h = subst (λ j. slice_get l.schemas j ≡ Some a) (omega arith) h

first_at : (l : Lifted) (k : ℕ) (a : Schema) (more : List Schema) → From l k (a ∷ more) → slice_get l.schemas k ≡ Some a
first_at l k a more from = subst (λ j. slice_get l.schemas j ≡ Some a) (omega arith) (from 0 a refl)

from_next : (l : Lifted) (k : ℕ) (a : Schema) (more : List Schema) → From l k (a ∷ more) → From l (suc k) more
from_next l k a more from n b h = subst (λ j. slice_get l.schemas j ≡ Some b) (omega arith) (from (suc n) b h)

-- ---- what a kept instance is

-- its schema, and its objects among the kept ones
pub record Kept (l : Lifted) (i : Instance) : Type 0 where
  pub schema : Schema
  pub at : schema_of l i ≡ Some schema
  pub among : Member (kept_bindings l schema) i.objects

kept_in : (l : Lifted) (k : ℕ) (more : List Schema) → From l k more → (i : Instance) → Member (kept_from l k more) i → Kept l i
kept_in l k [] from i m = absurd m
kept_in l k (a ∷ more) from i m =
    elim (append_member (map (instance k) (kept_bindings l a)) (kept_from l (suc k) more) i m) [
      | inl here ↦
          let h = map_member (instance k) (kept_bindings l a) i here in
          record {
            schema = a;
            at = subst (λ j. slice_get l.schemas j ≡ Some a) (ap (λ (x : Instance). x.schema) h.2) (first_at l k a more from);
            among = subst (Member (kept_bindings l a)) (ap (λ (x : Instance). x.objects) h.2) h.1;
          }
      | inr there ↦ kept_in l (suc k) more (from_next l k a more from) i there
    ]

pub kept_of : (l : Lifted) (i : Instance) → Member (kept_instances l) i → Kept l i
kept_of l i m = kept_in l 0 l.schemas (all_from_first l) i m

-- and back
kept_member : (l : Lifted) (k n : ℕ) (more : List Schema) (a : Schema) (os : List ℕ) → slice_get more n ≡ Some a → Member (kept_bindings l a) os → Member (kept_from l k more) (instance (k + n) os)
kept_member l k n [] a os at m = cc
kept_member l k zero (b ∷ more) a os at m =
    let e : b ≡ a = cc in
    member_left (map (instance k) (kept_bindings l b)) (kept_from l (suc k) more) (instance (k + zero) os)
    (subst (λ c. Member (map (instance k) (kept_bindings l c)) (instance (k + zero) os)) (sym e)
    (subst (λ j. Member (map (instance k) (kept_bindings l a)) (instance j os)) (omega arith) (member_map (instance k) (kept_bindings l a) os m)))
kept_member l k (suc n) (b ∷ more) a os at m =
    member_right (map (instance k) (kept_bindings l b)) (kept_from l (suc k) more) (instance (k + suc n) os)
    (subst (λ j. Member (kept_from l (suc k) more) (instance j os)) (omega arith) (kept_member l (suc k) n more a os at m))

pub member_of : (l : Lifted) (i : Instance) → Kept l i → Member (kept_instances l) i
member_of l i k = subst (λ n. Member (kept_instances l) (instance n i.objects)) (omega arith) (kept_member l 0 i.schema l.schemas k.schema i.objects k.at k.among)

-- ---- actions

-- the action of an instance; an empty one where there is no such schema
abbrev pub act : Lifted → List Atom → Option Schema → List ℕ → Action
act l atoms None os = record { name = record { head = []; objects = [] }; pre = []; effects = [] }
act l atoms (Some a) os = action_of l atoms a os

-- the actions are those of the kept instances
acts_from : (l : Lifted) (atoms : List Atom) (k : ℕ) (more : List Schema) → From l k more → flat_map (actions_of l atoms) more ≡ map (λ i. act l atoms (schema_of l i) i.objects) (kept_from l k more)
acts_from l atoms k [] from = refl
acts_from l atoms k (a ∷ more) from =
    rw (
      map-append (λ (i : Instance). act l atoms (schema_of l i) i.objects) (map (instance k) (kept_bindings l a)) (kept_from l (suc k) more),
      map_map (instance k) (λ (i : Instance). act l atoms (schema_of l i) i.objects) (action_of l atoms a) (kept_bindings l a) (λ os. ap (λ o. act l atoms o os) (first_at l k a more from)),
    )
    (ap (λ as'. actions_of l atoms a ++ as') (acts_from l atoms (suc k) more (from_next l k a more from)))

pub actions_are : (l : Lifted) (atoms : List Atom) → (ground_over l atoms).actions ≡ map (λ i. act l atoms (schema_of l i) i.objects) (kept_instances l)
actions_are l atoms = acts_from l atoms 0 l.schemas (all_from_first l)

pub action_at : (l : Lifted) (atoms : List Atom) (n : ℕ) → slice_get (ground_over l atoms).actions n ≡ option_map (λ i. act l atoms (schema_of l i) i.objects) (slice_get (kept_instances l) n)
action_at l atoms n = ap (λ as'. slice_get as' n) (actions_are l atoms) ∙ slice_get-map (λ (i : Instance). act l atoms (schema_of l i) i.objects) (kept_instances l) n

pub action_there : (l : Lifted) (atoms : List Atom) (n : ℕ) (i : Instance) (k : Kept l i) → slice_get (kept_instances l) n ≡ Some i → slice_get (ground_over l atoms).actions n ≡ Some (action_of l atoms k.schema i.objects)
action_there l atoms n i k at = action_at l atoms n ∙ rw (at, k.at) refl
