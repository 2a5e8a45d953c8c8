-- What is gathered from the kept instances names the atoms that occur.
use Rattle.std.proofs.Common.{◌≡◌, ℕ, suc, Bool, true, ◌||◌, List, [], ◌∷◌, ◌++◌, Some, map, slice_get, refl, sym, ap, ◌∙◌, inl, inr}
use Rattle.std.specs.List.{list_any, flat_map}
use Rattle.std.proofs.lemmas.List.Folds.{list_any-append}
use Rattle.kp_base.specs.Lists.{Member}
use Rattle.kp_base.proofs.Lists.{any_map, any_member, any_from, bool_same, member_at}
use Rattle.kp_names_semantics.specs.declared.lifted.GroundLit.{GroundLit}
use Rattle.kp_names_semantics.specs.Numbered.{Schema, Lifted}
use Rattle.kp_names_semantics.specs.Lifted.{Instance, schema_of}
use Rattle.kp_base.specs.Atoms.{Atom, same_atom, has_atom}
use Rattle.kp_ground_semantics.specs.Ground.{kept_bindings, instance, kept_instances, atom_of, instance_literals, kept_literals, open_literals, occurring}
use Rattle.kp_ground_semantics.proofs.Public.{kept_instance, kept_is_member}
use Rattle.kp_ground.specs.Passes.{literals_of, literals_at, noted}

-- ---- lists

any-flat_map : {X Y : Type 0} (p : Y → Bool) (f : X → List Y) (xs : List X) → list_any p (flat_map f xs) ≡ list_any (λ x. list_any p (f x)) xs
any-flat_map p f [] = refl
any-flat_map p f (x ∷ xs) = list_any-append p (f x) (flat_map f xs) ∙ ap (λ t. list_any p (f x) || t) (any-flat_map p f xs)

-- a member has a place
record Placed {X : Type 0} (xs : List X) (x : X) : Type 0 where
  place : ℕ
  there : slice_get xs place ≡ Some x

placed : {X : Type 0} (xs : List X) (x : X) → Member xs x → Placed xs x
placed [] x m = absurd m
placed (y ∷ ys) x m = elim m [
  | inl e ↦ record { place = 0; there = ap Some e }
  | inr r ↦ let h = placed ys x r in record { place = suc h.place; there = h.there }
]

module _ (p : GroundLit → Bool) where
  -- ---- kept instances

  of_schema : (l : Lifted) (i : Instance) (a : Schema) → schema_of l i ≡ Some a → list_any p (literals_at l i) ≡ list_any p (instance_literals l a i.objects)
  of_schema l i a is = ap (λ o. list_any p (literals_of l o i.objects)) is

  kept_pass : (l : Lifted) → list_any p (flat_map (literals_at l) (kept_instances l)) ≡ list_any p (flat_map (kept_literals l) l.schemas)
  kept_pass l =
      any-flat_map p (literals_at l) (kept_instances l)
      ∙ (bool_same (list_any at_instance (kept_instances l)) (list_any at_schema l.schemas) there back
      ∙ sym (any-flat_map p (kept_literals l) l.schemas))
    where
      at_instance : Instance → Bool
      at_instance i = list_any p (literals_at l i)

      at_schema : Schema → Bool
      at_schema a = list_any p (kept_literals l a)

      there : list_any at_instance (kept_instances l) ≡ true → list_any at_schema l.schemas ≡ true
      there h =
          let found = any_member at_instance (kept_instances l) h in
          let kept = kept_instance l found.0 found.1 in
          let passes : list_any p (instance_literals l kept.schema (found.0).objects) ≡ true = sym (of_schema l found.0 kept.schema kept.at) ∙ found.2 in
          any_from at_schema l.schemas kept.schema (member_at l.schemas (found.0).schema kept.schema kept.at)
          (any-flat_map p (instance_literals l kept.schema) (kept_bindings l kept.schema)
          ∙ any_from (λ os. list_any p (instance_literals l kept.schema os)) (kept_bindings l kept.schema) (found.0).objects kept.among passes)

      back : list_any at_schema l.schemas ≡ true → list_any at_instance (kept_instances l) ≡ true
      back h =
          let found = any_member at_schema l.schemas h in
          let inner = any_member (λ os. list_any p (instance_literals l found.0 os)) (kept_bindings l found.0) (sym (any-flat_map p (instance_literals l found.0) (kept_bindings l found.0)) ∙ found.2) in
          let place = placed l.schemas found.0 found.1 in
          any_from at_instance (kept_instances l) (instance place.place inner.0)
          (kept_is_member l (instance place.place inner.0) (record { schema = found.0; at = place.there; among = inner.1 }))
          (of_schema l (instance place.place inner.0) found.0 place.there ∙ inner.2)

  -- ---- all literals

  noted_pass : (l : Lifted) → list_any p (noted l) ≡ list_any p (occurring l)
  noted_pass l =
      let kept : list_any p (open_literals l ++ flat_map (literals_at l) (kept_instances l)) ≡ list_any p (open_literals l ++ flat_map (kept_literals l) l.schemas) =
      list_any-append p (open_literals l) (flat_map (literals_at l) (kept_instances l))
      ∙ (ap (λ t. list_any p (open_literals l) || t) (kept_pass l)
      ∙ sym (list_any-append p (open_literals l) (flat_map (kept_literals l) l.schemas)))
      in
      list_any-append p l.goal (open_literals l ++ flat_map (literals_at l) (kept_instances l))
      ∙ (ap (λ t. list_any p l.goal || t) kept
      ∙ sym (list_any-append p l.goal (open_literals l ++ flat_map (kept_literals l) l.schemas)))

-- the atoms that are gathered are those that occur
pub noted_atoms : (l : Lifted) (x : Atom) → has_atom (map atom_of (noted l)) x ≡ has_atom (map atom_of (occurring l)) x
noted_atoms l x = named (noted l) ∙ (noted_pass (λ m. same_atom x (atom_of m)) l ∙ sym (named (occurring l)))
  where
    named : (ms : List GroundLit) → has_atom (map atom_of ms) x ≡ list_any (λ m. same_atom x (atom_of m)) ms
    named ms = any_map atom_of (same_atom x) (λ m. same_atom x (atom_of m)) ms (λ m. refl)
