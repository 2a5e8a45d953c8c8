-- Where two texts have a problem, its ground problem can be written: its names are Names in lower case and differ, and its literals are of its atoms.
use Rattle.std.proofs.Common.{◌≡◌, ◌<◌, ℕ, zero, suc, Bool, true, false, not, cond, ◌&&◌, nat_lt, List, [], ◌∷◌, ◌++◌, Some, map, filter, length, slice_get, refl, sym, ap, subst, ◌∙◌, inl, inr, arith}
use Rattle.std.specs.List.{AllByRecursion, IsDistinct, list_all, flat_map}
use Rattle.std.proofs.lemmas.Bool.{and_parts, lt-ltb, ltb-true, false_from_ne_true}
use Rattle.std.proofs.lemmas.List.{length-map}
use Rattle.std.proofs.lemmas.Option.{slice_get-map, slice_get_within}
use Rattle.kp_tree_grammar.specs.declared.tree.Word.{Word}
use Rattle.kp_tree_grammar.specs.Trees as trees
use Rattle.kp_tree_grammar.specs.Trees.{Typed, Domain, Problem}
use Rattle.kp_tree_grammar.specs.Words.{IsName, IsNamed, IsNamedPred, IsNamedSchema, IsNamedDomain, IsNamedProblem}
use Rattle.kp_tree_grammar.proofs.Public.{domains_named, problems_named}
use Rattle.kp_base.specs.declared.lit.Lit.{Lit}
use Rattle.kp_base.specs.declared.ground.GroundName.{GroundName}
use Rattle.kp_base.specs.declared.ground.Action.{Action}
use Rattle.kp_base.specs.Lists.{Member, each_once}
use Rattle.kp_base.proofs.Each.{each_from, each_member, each_map}
use Rattle.kp_base.proofs.Lists.{all_member, each_append, map_member, member_map, member_left, member_right, member_flat_map, flat_member, same-true}
use Rattle.kp_base.proofs.Lists as lists
use Rattle.kp_base.proofs.Lits.{has-member}
use Rattle.kp_base.proofs.Sets.{all-set_of}
use Rattle.kp_names_semantics.specs.declared.lifted.GroundLit.{GroundLit}
use Rattle.kp_names_semantics.specs.Problems.{Name, same, all_same, distinct, declared, object_lines, objects, HasNoFault, Schema, Lifted, name_at, heads, numbered_schema, numbered_problem, AreObjects, IsGroundName, same_name}
use Rattle.kp_names_semantics.proofs.Public.{all_same_names-true, valid_literal_parts, atoms_equal_as_named, HasCleanParts, clean_parts}
use Rattle.kp_base.specs.Atoms.{Atom, atom_before, same_atom, number_of, AtomsAscend}
use Rattle.kp_ground_semantics.specs.declared.flat.FlatEffect.{FlatEffect}
use Rattle.kp_ground_semantics.specs.Static.{remaining}
use Rattle.kp_ground_semantics.specs.Flattening.{same_flat, flat, flat_of}
use Rattle.kp_ground_semantics.specs.Ground.{kept_bindings, atom_of, effect_literals, instance_literals, kept_literals, open_literals, occurring, ground_atoms, numbered, numbered_set, IsNumbering, numbered_effect, is_idle, ground_pre, ground_effects, object_names, atom_name, action_of, actions_of}
use Rattle.kp_base.proofs.AtomOrder.{atom_never_before_itself, same_atom-true}
use Rattle.kp_ground_semantics.proofs.Public.{atoms_are_numbered, actions_named_once, instance_literals_occur}
use Rattle.kp_base.proofs.Closures.{closure_over_first_atoms}
use Rattle.kp_write.specs.Grounds.{IsOfAtom, AreOfAtoms, IsGroundEffect, IsGroundAction, IsWritable}
use Rattle.kp_law_translation.specs.OfTrees.{ground_of, initial_of, start_of}
use Rattle.kp_law_translation.specs.Given.{StartsAreOfAtoms, GroundProblemsAreWritable}
use Rattle.kp_law_translation.proofs.Apart.{as_literal, heads_are, atom_valid}
use Rattle.kp_law_translation.proofs.Starts.{formulas_over_atoms}
use Rattle.kp_law_translation.proofs.Valid.{kept_objects}

-- ---- lists

all_left : {X : Type 0} (P : X → Type 0) (p : X → Bool) (xs : List X) → AllByRecursion P xs → AllByRecursion P (filter p xs)
all_left P p [] h = tt
all_left P p (x ∷ xs) h = pick (p x) (all_left P p xs h.1)
  where
    pick : (t : Bool) → AllByRecursion P (filter p xs) → AllByRecursion P (cond t (x ∷ filter p xs) (filter p xs))
    pick true rest = (h.0, rest)
    pick false rest = rest

-- the name at a place is one of them
name_there : (P : Name → Type 0) (xs : List Name) (n : ℕ) → AllByRecursion P xs → n < length xs → P (name_at xs n)
name_there P [] n h below = absurd (omega (arith, below))
name_there P (x ∷ xs) zero h below = h.0
name_there P (x ∷ xs) (suc n) h below = name_there P xs n h.1 (omega (arith, below))

distinct_all : (P : Name → Type 0) (xs : List Name) → AllByRecursion P xs → AllByRecursion P (distinct xs)
distinct_all P [] h = tt
distinct_all P (x ∷ xs) h = (h.0, all_left P (λ y. not (same x y)) (distinct xs) (distinct_all P xs h.1))

-- ---- names that differ

same_name-true : (a b : GroundName) → same_name a b ≡ true → a ≡ b
same_name-true a b h =
    let parts = and_parts (same a.head b.head) (all_same a.objects b.objects) h in
    one a.head b.head a.objects b.objects (same-true a.head b.head parts.0) (all_same_names-true a.objects b.objects parts.1)
  where
    one : (x y : Name) (os us : List Name) → x ≡ y → os ≡ us → (let n : GroundName = record { head = x; objects = os } in n) ≡ record { head = y; objects = us }
    one x y os us e f = cc

-- no name stands at two places
abbrev StandOnce : List GroundName → Type 0
StandOnce ns = (m n : ℕ) (x : GroundName) → slice_get ns m ≡ Some x → slice_get ns n ≡ Some x → m ≡ n

place_there : (ns : List GroundName) (x : GroundName) → Member ns x → (n : ℕ) × (slice_get ns n ≡ Some x)
place_there [] x m = absurd m
place_there (n ∷ ns) x m = elim m [
  | inl e ↦ (0, ap Some e)
  | inr r ↦ let h = place_there ns x r in (suc h.0, h.1)
]

once_differ : (ns : List GroundName) → StandOnce ns → IsDistinct same_name ns
unfolding IsDistinct
once_differ [] once = tt
once_differ (n ∷ ns) once = (
  each_from (λ x. same_name n x ≡ false) ns (λ x m. false_from_ne_true (same_name n x) (λ h.
      let e = same_name-true n x h in
      let r = place_there ns x m in
      let here : 0 ≡ suc r.0 = once 0 (suc r.0) x (ap Some e) r.1 in
      let no : ⊥ = absurd (omega (arith, here)) in no)),
  once_differ ns (λ i j x f g. let e = once (suc i) (suc j) x f g in omega (arith, e)),
)

-- ---- trees in which no name is at fault

module _ (d : Domain Word) (p : Problem Word) (domain : IsNamedDomain d) (problem : IsNamedProblem p) (no_fault : HasNoFault d p) where
  abbrev l : Lifted
  l = numbered_problem d p

  abbrev atoms : List Atom
  atoms = ground_atoms l

  abbrev names : List GroundName
  names = map (atom_name l) atoms

  c : HasCleanParts d p
  c = clean_parts d p no_fault

  numbering : IsNumbering l atoms
  numbering = (atoms_are_numbered l).numbering

  -- ---- names

  heads_named : AllByRecursion IsName (heads d)
  heads_named =
      each_map (λ (w : Word). IsName w.text) IsName (λ (w : Word). w.text) (λ w h. h) (map (λ (q : trees.Pred Word). q.head) d.predicates)
      (each_map IsNamedPred (λ (w : Word). IsName w.text) (λ (q : trees.Pred Word). q.head) (λ q h. record { token = h.head.token; low = h.head.low }) d.predicates domain.predicates)

  objects_named : AllByRecursion IsName (objects d p)
  objects_named =
      distinct_all IsName (declared (object_lines d p))
      (each_map IsNamed IsName (λ (x : Typed Word). x.word.text) (λ x h. h.name) (object_lines d p) (each_append IsNamed d.constants p.objects domain.constants problem.objects))

  named_objects : (os : List ℕ) → AreObjects d p os → AllByRecursion IsName (object_names l os)
  named_objects [] h = tt
  named_objects (o ∷ os) h =
      let parts = and_parts (nat_lt o (length (objects d p))) (list_all (λ o. nat_lt o (length (objects d p))) os) h in
      (name_there IsName (objects d p) o objects_named (ltb-true o (length (objects d p)) parts.0), named_objects os parts.1)

  -- ---- atoms

  atom_written : (a : Atom) → Member atoms a → IsGroundName (atom_name l a)
  atom_written a m =
      let parts = valid_literal_parts d p (as_literal a) (atom_valid d p c a m) in
      record { head = subst (λ ns. IsName (name_at ns a.pred)) (sym (heads_are d p)) (name_there IsName (heads d) a.pred heads_named parts.0); objects = named_objects a.objects parts.1 }

  -- atoms with one name are one
  name_tells : (a b : Atom) → Member atoms a → Member atoms b → same_name (atom_name l a) (atom_name l b) ≡ same_atom a b
  name_tells a b m n = ap (λ ns. same (name_at ns a.pred) (name_at ns b.pred) && all_same (object_names l a.objects) (object_names l b.objects)) (heads_are d p) ∙ sym (atoms_equal_as_named d p c.heads_once (as_literal a) (as_literal b) (atom_valid d p c a m) (atom_valid d p c b n))

  -- those in order have different names
  others_apart : (a : Atom) (more : List Atom) → list_all (atom_before a) more ≡ true → ((b : Atom) → Member (a ∷ more) b → Member atoms b) → AllByRecursion (λ n. same_name (atom_name l a) n ≡ false) (map (atom_name l) more)
  others_apart a more before among = each_map (Member more) (λ n. same_name (atom_name l a) n ≡ false) (atom_name l) apart more (each_from (Member more) more (λ b m. m))
    where
      apart : (b : Atom) → Member more b → same_name (atom_name l a) (atom_name l b) ≡ false
      apart b m =
          name_tells a b (among a (inl refl)) (among b (inr m))
          ∙ false_from_ne_true (same_atom a b) (λ e. atom_never_before_itself a (subst (λ x. atom_before a x ≡ true) (sym (same_atom-true a b e)) (all_member (atom_before a) more b m before)))

  ascending_differ : (more : List Atom) → AtomsAscend more → ((a : Atom) → Member more a → Member atoms a) → IsDistinct same_name (map (atom_name l) more)
  unfolding IsDistinct
  ascending_differ [] h among = tt
  ascending_differ (a ∷ more) h among = (others_apart a more h.0 among, ascending_differ more h.1 (λ b m. among b (inr m)))

  atoms_differ : IsDistinct same_name names
  atoms_differ = ascending_differ atoms (atoms_are_numbered l).ascending (λ a m. m)

  -- ---- literals

  of_atom : (m : GroundLit) → Member (occurring l) m → IsOfAtom names (numbered atoms m)
  of_atom m i =
      let within = slice_get_within atoms (number_of atoms (atom_of m)) (atom_of m) (numbering.covers m i) in
      let size = length-map atoms (atom_name l) in
      omega (arith, within, size)

  -- the same as a test
  abbrev is_below : Lit → Bool
  is_below x = nat_lt x.atom.0 (length names)

  of_atoms : (ms : List GroundLit) → ((m : GroundLit) → Member ms m → Member (occurring l) m) → AreOfAtoms names (numbered_set atoms ms)
  of_atoms ms f = each_from (IsOfAtom names) (numbered_set atoms ms) (λ x i. ltb-true x.atom.0 (length names) (all_member is_below (numbered_set atoms ms) x i (all-set_of is_below (map (numbered atoms) ms) ∙ lists.all_from is_below (map (numbered atoms) ms) below)))
    where
      below : (x : Lit) → Member (map (numbered atoms) ms) x → is_below x ≡ true
      below x i = let r = map_member (numbered atoms) ms x i in subst (λ y. is_below y ≡ true) r.2 (lt-ltb (number_of atoms (atom_of r.0)) (length names) (of_atom r.0 (f r.0 r.1)))

  -- ---- actions

  module _ (a : trees.Schema Word) (at : Member d.schemas a) (os : List ℕ) (kept : Member (kept_bindings l (numbered_schema d p a)) os) where
    abbrev s : Schema
    s = numbered_schema d p a

    there : (m : GroundLit) → Member (instance_literals l s os) m → Member (occurring l) m
    there m i = instance_literals_occur l s os (member_map (numbered_schema d p) d.schemas a at) kept m i

    effect_on : (f : FlatEffect) → Member (flat l os s.effect) f → IsGroundEffect names (numbered_effect atoms f)
    effect_on f i = record {
      conds = of_atoms f.cond (λ m j. of_effect m (member_left f.cond (f.result ∷ []) m j));
      result = of_atom f.result (of_effect f.result (member_right f.cond (f.result ∷ []) f.result (inl refl)));
    }
      where
        of_effect : (m : GroundLit) → Member (effect_literals f) m → Member (occurring l) m
        of_effect m j = there m (member_right (remaining l os s.pre) (flat_map effect_literals (flat l os s.effect)) m (member_flat_map effect_literals (flat l os s.effect) f m i j))

    effects_on : AllByRecursion (IsGroundEffect names) (ground_effects l atoms s os)
    effects_on =
        all_left (IsGroundEffect names) (λ e. not (is_idle (ground_pre l atoms s os) (map (numbered_effect atoms) (flat_of l s os).effects) e)) (map (numbered_effect atoms) (flat_of l s os).effects)
        (each_map (Member (flat l os s.effect)) (IsGroundEffect names) (numbered_effect atoms) effect_on (flat_of l s os).effects
        (once_all (Member (flat l os s.effect)) (flat l os s.effect) (each_from (Member (flat l os s.effect)) (flat l os s.effect) (λ f i. i))))
      where
        once_all : (P : FlatEffect → Type 0) (fs : List FlatEffect) → AllByRecursion P fs → AllByRecursion P (each_once same_flat fs)
        once_all P [] h = tt
        once_all P (f ∷ fs) h = (h.0, all_left P (λ g. not (same_flat f g)) (each_once same_flat fs) (once_all P fs h.1))

    action_written : IsGroundAction names (action_of l atoms s os)
    action_written = record {
      name = record { head = (each_member IsNamedSchema d.schemas a domain.schemas at).name; objects = named_objects os (kept_objects d p l a os kept) };
      pre = of_atoms (remaining l os s.pre) (λ m i. there m (member_left (remaining l os s.pre) (flat_map effect_literals (flat l os s.effect)) m i));
      effects = effects_on;
    }

  actions_written : AllByRecursion (IsGroundAction names) (ground_of d p).actions
  actions_written = each_from (IsGroundAction names) (ground_of d p).actions (λ x m.
      let s = flat_member (actions_of l atoms) l.schemas x m in
      let a = map_member (numbered_schema d p) d.schemas s.0 s.1 in
      let os = map_member (action_of l atoms s.0) (kept_bindings l s.0) x s.2 in
      subst (IsGroundAction names) (ap (λ y. action_of l atoms y os.0) a.2 ∙ os.2) (action_written a.0 a.1 os.0 (subst (λ y. Member (kept_bindings l y) os.0) (sym a.2) os.1)))

  actions_differ : IsDistinct same_name (map (λ a. a.name) (ground_of d p).actions)
  actions_differ = once_differ (map (λ (a : Action). a.name) (ground_of d p).actions) (λ m n x f g.
      actions_named_once d p no_fault m n x (sym (slice_get-map (λ (a : Action). a.name) (ground_of d p).actions m) ∙ f) (sym (slice_get-map (λ (a : Action). a.name) (ground_of d p).actions n) ∙ g))

  -- ---- the ground problem

  trees_written : IsWritable (ground_of d p)
  trees_written = record {
    atoms = each_map (Member atoms) IsGroundName (atom_name l) atom_written atoms (each_from (Member atoms) atoms (λ a m. m));
    atoms_differ = atoms_differ;
    actions = actions_written;
    actions_differ = actions_differ;
    goal_of_atoms = of_atoms l.goal (λ m i. member_left l.goal (open_literals l ++ flat_map (kept_literals l) l.schemas) m i);
  }

-- ---- the laws

pub starts_of_atoms : StartsAreOfAtoms
starts_of_atoms d p =
    let exact = closure_over_first_atoms (initial_of d p) (length (ground_of d p).atoms) (formulas_over_atoms d p) [] refl in
    each_from (IsOfAtom (ground_of d p).atoms) (start_of d p) (λ x m. exact.closure.of_atoms x (has-member (start_of d p) x m))

pub grounds_written : GroundProblemsAreWritable
grounds_written domain_text problem_text x = trees_written x.domain x.problem (domains_named domain_text x.domain x.domain_reads) (problems_named problem_text x.problem x.problem_reads) x.no_fault
