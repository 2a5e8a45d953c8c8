-- What holds of each part of each section of a file holds of each part of its tree.
use Rattle.std.proofs.Common.{List, [], ◌∷◌}
use Rattle.std.specs.List.{AllByRecursion, flat_map}
use Rattle.kp_base.proofs.Lists.{each_flat_map}
use Rattle.kp_tree_grammar.specs.declared.tree.Word.{Word}
use Rattle.kp_tree_grammar.specs.Trees.{Typed, Cond, no_cond, Item, Pred, Schema, Section, section_types, section_constants, section_predicates, section_schemas, Given, given_objects, given_items, goal_of}

-- ---- domains: typed words, predicates and schemas

module _ (T : Typed Word → Type 0) (Q : Pred Word → Type 0) (S : Schema Word → Type 0) where
  abbrev pub OfSection : Section Word → Type 0
  OfSection Section.requires = Unit {0}
  OfSection (Section.types xs) = AllByRecursion T xs
  OfSection (Section.constants xs) = AllByRecursion T xs
  OfSection (Section.predicates qs) = AllByRecursion Q qs
  OfSection (Section.action s) = S s

  its_types : (x : Section Word) → OfSection x → AllByRecursion T (section_types x)
  its_types (Section.types xs) h = h
  its_types _ h = tt

  its_constants : (x : Section Word) → OfSection x → AllByRecursion T (section_constants x)
  its_constants (Section.constants xs) h = h
  its_constants _ h = tt

  its_predicates : (x : Section Word) → OfSection x → AllByRecursion Q (section_predicates x)
  its_predicates (Section.predicates qs) h = h
  its_predicates _ h = tt

  its_schemas : (x : Section Word) → OfSection x → AllByRecursion S (section_schemas x)
  its_schemas (Section.action s) h = (h, tt)
  its_schemas _ h = tt

  -- types, constants, predicates and schemas
  pub of_sections : (xs : List (Section Word)) → AllByRecursion OfSection xs → AllByRecursion T (flat_map section_types xs) × AllByRecursion T (flat_map section_constants xs) × AllByRecursion Q (flat_map section_predicates xs) × AllByRecursion S (flat_map section_schemas xs)
  of_sections xs h = (
    each_flat_map section_types OfSection T its_types xs h,
    each_flat_map section_constants OfSection T its_constants xs h,
    each_flat_map section_predicates OfSection Q its_predicates xs h,
    each_flat_map section_schemas OfSection S its_schemas xs h,
  )

-- ---- problems: typed words, items and the goal

module _ (T : Typed Word → Type 0) (I : Item Word → Type 0) (C : Cond Word → Type 0) where
  abbrev pub OfGiven : Given Word → Type 0
  OfGiven Given.of_domain = Unit {0}
  OfGiven Given.requires = Unit {0}
  OfGiven (Given.objects xs) = AllByRecursion T xs
  OfGiven (Given.init is) = AllByRecursion I is
  OfGiven (Given.goal g) = C g

  its_objects : (x : Given Word) → OfGiven x → AllByRecursion T (given_objects x)
  its_objects (Given.objects xs) h = h
  its_objects _ h = tt

  its_items : (x : Given Word) → OfGiven x → AllByRecursion I (given_items x)
  its_items (Given.init is) h = h
  its_items _ h = tt

  its_goal : C (Cond.all no_cond) → (xs : List (Given Word)) → AllByRecursion OfGiven xs → C (goal_of xs)
  its_goal none [] h = none
  its_goal none (Given.goal g ∷ xs) h = h.0
  its_goal none (Given.of_domain ∷ xs) h = its_goal none xs h.1
  its_goal none (Given.requires ∷ xs) h = its_goal none xs h.1
  its_goal none (Given.objects os ∷ xs) h = its_goal none xs h.1
  its_goal none (Given.init is ∷ xs) h = its_goal none xs h.1

  -- objects, items and the goal
  pub of_givens : C (Cond.all no_cond) → (xs : List (Given Word)) → AllByRecursion OfGiven xs → AllByRecursion T (flat_map given_objects xs) × AllByRecursion I (flat_map given_items xs) × C (goal_of xs)
  of_givens none xs h = (each_flat_map given_objects OfGiven T its_objects xs h, each_flat_map given_items OfGiven I its_items xs h, its_goal none xs h)
