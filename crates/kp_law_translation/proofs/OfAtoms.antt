-- The literals of a ground problem are of its atoms.
use Rattle.std.proofs.Common.{◌≡◌, ℕ, ◌+◌, ◌<◌, Bool, true, not, List, [], ◌∷◌, ◌++◌, refl, sym, subst, map, length, ◌∙◌, inl, nat_lt}
use Rattle.std.specs.List.{list_all, flat_map}
use Rattle.std.proofs.lemmas.Bool.{and_from, lt-ltb}
use Rattle.std.proofs.lemmas.List.{length-map}
use Rattle.std.proofs.lemmas.List.Folds.{list_all-map}
use Rattle.std.proofs.lemmas.Option.{slice_get_within}
use Rattle.kp_base.specs.declared.lit.Lit.{Lit}
use Rattle.kp_base.specs.declared.ground.Effect.{Effect}
use Rattle.kp_base.specs.Lists.{Member}
use Rattle.kp_base.specs.Implicates.{are_below, effect_below, action_below, IsOfItsAtoms}
use Rattle.kp_base.proofs.Parts.{all_flat_map}
use Rattle.kp_base.proofs.Lists.{all_from, member_left, member_right, member_flat_map}
use Rattle.kp_base.proofs.Once.{all_filter, all_each_once}
use Rattle.kp_base.proofs.Sets.{all-set_of}
use Rattle.kp_names_semantics.specs.declared.lifted.GroundLit.{GroundLit}
use Rattle.kp_names_semantics.specs.Numbered.{Schema, Lifted}
use Rattle.kp_names_semantics.specs.Numbering.{numbered_problem}
use Rattle.kp_base.specs.Atoms.{Atom, number_of}
use Rattle.kp_ground_semantics.specs.declared.flat.FlatEffect.{FlatEffect}
use Rattle.kp_ground_semantics.specs.Static.{remaining}
use Rattle.kp_ground_semantics.specs.Flattening.{same_flat, flat, flat_of}
use Rattle.kp_ground_semantics.specs.Ground.{kept_bindings, ground_atoms, atom_of, atom_name, effect_literals, instance_literals, kept_literals, open_literals, numbered, numbered_set, IsNumbering, numbered_effect, is_idle, ground_pre, ground_effects, action_of, actions_of, ground_over, ground_of}
use Rattle.kp_ground_semantics.proofs.Public.{atoms_are_numbered, IsCoveredLiteral, instance_literals_occur}
use Rattle.kp_law_translation.specs.Given.{GroundProblemsAreOfTheirAtoms}

abbrev pub below : ℕ → Lit → Bool
below n l = nat_lt l.atom.0 n

-- ---- literals by number are of the atoms that they are numbered by

module _ (l : Lifted) (atoms : List Atom) (numbering : IsNumbering l atoms) where
  pub covered_below : (m : GroundLit) → IsCoveredLiteral atoms m → below (length atoms) (numbered atoms m) ≡ true
  covered_below m c = lt-ltb (number_of atoms (atom_of m)) (length atoms) (slice_get_within atoms (number_of atoms (atom_of m)) (atom_of m) c)

  pub list_below : (ms : List GroundLit) → ((m : GroundLit) → Member ms m → IsCoveredLiteral atoms m) → are_below (length atoms) (map (numbered atoms) ms) ≡ true
  list_below ms c = list_all-map (below (length atoms)) (numbered atoms) ms ∙ all_from (λ m. below (length atoms) (numbered atoms m)) ms (λ m i. covered_below m (c m i))

  pub set_below : (ms : List GroundLit) → ((m : GroundLit) → Member ms m → IsCoveredLiteral atoms m) → are_below (length atoms) (numbered_set atoms ms) ≡ true
  set_below ms c = all-set_of (below (length atoms)) (map (numbered atoms) ms) ∙ list_below ms c

  covered_effect : (f : FlatEffect) → ((m : GroundLit) → Member (effect_literals f) m → IsCoveredLiteral atoms m) → effect_below (length atoms) (numbered_effect atoms f) ≡ true
  covered_effect f c =
      and_from (below (length atoms) (numbered atoms f.result)) (are_below (length atoms) (numbered_set atoms f.cond))
      (covered_below f.result (c f.result (member_right f.cond (f.result ∷ []) f.result (inl refl))))
      (set_below f.cond (λ m i. c m (member_left f.cond (f.result ∷ []) m i)))

  -- those of the action of a kept instance
  kept_below : (a : Schema) (os : List ℕ) → Member l.schemas a → Member (kept_bindings l a) os → action_below (length atoms) (action_of l atoms a os) ≡ true
  kept_below a os at kept =
      and_from (are_below (length atoms) (ground_pre l atoms a os)) (list_all (effect_below (length atoms)) (ground_effects l atoms a os))
      (set_below (remaining l os a.pre) (λ m j. covered m (member_left (remaining l os a.pre) (flat_map effect_literals (flat l os a.effect)) m j)))
      (all_filter (effect_below (length atoms)) (λ d. not_idle d) (map (numbered_effect atoms) (flat_of l a os).effects)
      (list_all-map (effect_below (length atoms)) (numbered_effect atoms) (flat_of l a os).effects
      ∙ all_each_once same_flat (λ f. effect_below (length atoms) (numbered_effect atoms f)) (flat l os a.effect)
      (all_from (λ f. effect_below (length atoms) (numbered_effect atoms f)) (flat l os a.effect)
      (λ f j. covered_effect f (λ m h. covered m (member_right (remaining l os a.pre) (flat_map effect_literals (flat l os a.effect)) m (member_flat_map effect_literals (flat l os a.effect) f m j h)))))))
    where
      covered : (m : GroundLit) → Member (instance_literals l a os) m → IsCoveredLiteral atoms m
      covered m j = numbering.covers m (instance_literals_occur l a os at kept m j)

      not_idle : Effect → Bool
      not_idle d = not (is_idle (ground_pre l atoms a os) (map (numbered_effect atoms) (flat_of l a os).effects) d)

  pub actions_below : list_all (action_below (length atoms)) (ground_over l atoms).actions ≡ true
  actions_below = all_flat_map (action_below (length atoms)) (actions_of l atoms) l.schemas (λ a at.
      list_all-map (action_below (length atoms)) (action_of l atoms a) (kept_bindings l a)
      ∙ all_from (λ os. action_below (length atoms) (action_of l atoms a os)) (kept_bindings l a) (λ os m. kept_below a os at m))

  pub goal_below : are_below (length atoms) (ground_over l atoms).goal ≡ true
  goal_below = set_below l.goal (λ m i. numbering.covers m (member_left l.goal (open_literals l ++ flat_map (kept_literals l) l.schemas) m i))

-- ---- the law

pub by_number : (l : Lifted) → length (ground_of l).atoms < 2147483648 → length (ground_of l).actions < 2147483648 → IsOfItsAtoms (ground_of l)
by_number l few_atoms few_actions =
    let atoms = ground_atoms l in
    let as_many = length-map atoms (atom_name l) in
    record {
      few_atoms = few_atoms;
      few_actions = few_actions;
      actions = subst (λ n. list_all (action_below n) (ground_over l atoms).actions ≡ true) (sym as_many) (actions_below l atoms (atoms_are_numbered l).numbering);
      goal = subst (λ n. are_below n (ground_over l atoms).goal ≡ true) (sym as_many) (goal_below l atoms (atoms_are_numbered l).numbering);
    }

pub of_their_atoms : GroundProblemsAreOfTheirAtoms
of_their_atoms d p = by_number (numbered_problem d p)
