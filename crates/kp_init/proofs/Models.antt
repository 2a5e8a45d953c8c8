-- The models of the initial formula are the initial states.
use Rattle.std.proofs.Common.{◌≡◌, ℕ, Bool, true, false, not, ◌&&◌, ◌||◌, cond, List, [], ◌∷◌, ◌++◌, Option, Some, None, refl, sym, ap, subst, map, ◌∙◌, inl, inr, nat_eq, zero, suc, ◌<◌, arith, eqb-true, eq-eqb, slice_get, length, filter}
use Rattle.std.specs.List.{list_any, list_all, flat_map}
use Rattle.std.proofs.lemmas.Bool.{and_parts, and_from, or_left, false≢true, both_ways, cases_Bool, not-true, false_from_ne_true}
use Rattle.std.proofs.lemmas.List.Folds.{list_all-append, list_all-map}
use Rattle.std.proofs.Math.Bool.{or-false, and-true}
use Rattle.kp_base.specs.declared.lit.AtomId.{AtomId}
use Rattle.kp_base.specs.Planning.{Member, signed, only_if, same_lit, is_model, Atom, same_atom, number_of, has_atom}
use Rattle.kp_base.specs.Steps as steps
use Rattle.kp_base.proofs.Lists.{any_member, any_from, all_member, any_alike, all_alike, any_map, bool_same, member_at, filter_member, same-true, same-refl, all_from, member_left, member_right, member_flat_map, member_filter}
use Rattle.kp_base.proofs.Sets.{any-set_of}
use Rattle.kp_names_semantics.specs.declared.lifted.GroundLit.{GroundLit}
use Rattle.kp_names_semantics.specs.declared.lifted.Item.{Item}
use Rattle.kp_names_semantics.specs.Names.{same}
use Rattle.kp_names_semantics.specs.Numbered.{Lifted}
use Rattle.kp_names_semantics.specs.Lifted.{State, literal_holds, same_literal, one_holds, item_holds, item_literals, is_of, is_named, IsInitial}
use Rattle.kp_ground_semantics.specs.Static.{is_static, leaves_static, says, initially}
use Rattle.kp_ground_semantics.specs.Ground.{atom_of, kept_literals, open_literals, numbered, numbered_set, at_atom, seen_on, IsNumbering}
use Rattle.kp_base.proofs.AtomOrder.{same_atom-true, same_atom-refl, atom_at_its_number}
use Rattle.kp_ground_semantics.proofs.Public.{static_predicate_parts, static_atoms_keep_their_truth, IsCoveredLiteral, holds_numbered, literal_number_is_its_own, same_literal-true, same_literal-refl}
use Rattle.kp_init.specs.Initial.{exactly_one, item_clauses, closed_of, initial_over}
use Rattle.kp_init.specs.Laws.{IsInitialExact}
use Rattle.kp_init.proofs.Exactly.{is_only, exactly_one_holds}

module _ (l : Lifted) (atoms : List Atom) (numbering : IsNumbering l atoms) where
  -- ---- items

  -- the literals of items that aren't of a static predicate are in the list
  init_covered : (i : Item) → Member l.init i → (m : GroundLit) → Member (item_literals i) m → is_static l m.pred ≡ false → IsCoveredLiteral atoms m
  init_covered i at m in' not_static =
      numbering.covers m
      (member_right l.goal (open_literals l ++ flat_map (kept_literals l) l.schemas) m
      (member_left (open_literals l) (flat_map (kept_literals l) l.schemas) m
      (member_filter (λ m. not (is_static l m.pred)) (flat_map item_literals l.init) m (member_flat_map item_literals l.init i m at in') (ap not not_static))))

  -- a predicate that stands in such an item isn't static
  not_static : (i : Item) → Member l.init i → (q : ℕ) → leaves_static q i ≡ false → is_static l q ≡ false
  not_static i at q h = false_from_ne_true (is_static l q) (λ static. both_ways (leaves_static q i) h (all_member (leaves_static q) l.init i at (static_predicate_parts l q static).1))

  pub list_covered : (i : Item) → Member l.init i → ((q : ℕ) → list_any (λ m. nat_eq m.pred q) (item_literals i) ≡ true → leaves_static q i ≡ false) → (m : GroundLit) → Member (item_literals i) m → IsCoveredLiteral atoms m
  list_covered i at f m in' =
      init_covered i at m in' (not_static i at m.pred (f m.pred (any_from (λ (x : GroundLit). nat_eq x.pred m.pred) (item_literals i) m in' (eq-eqb m.pred m.pred refl))))

  -- numbers tell literals apart
  numbered_apart : (x y : GroundLit) → IsCoveredLiteral atoms x → IsCoveredLiteral atoms y → same_lit (numbered atoms x) (numbered atoms y) ≡ same_literal x y
  numbered_apart x y cx cy = literal_number_is_its_own l atoms numbering x cx y.positive (number_of atoms (atom_of y)) (atom_of y) cy ∙ turned y x
    where
      turned : (a b : GroundLit) → same_literal a b ≡ same_literal b a
      turned a b = bool_same (same_literal a b) (same_literal b a)
          (λ h. let e = same_literal-true a b h in subst (λ z. same_literal z a ≡ true) e (same_literal-refl a))
          (λ h. let e = same_literal-true b a h in subst (λ z. same_literal z b ≡ true) e (same_literal-refl b))

  pub ground_covered : (a : Atom) → has_atom atoms a ≡ true → slice_get atoms (number_of atoms a) ≡ Some a
  ground_covered a h =
      let r = any_member (same_atom a) atoms h in
      atom_at_its_number atoms a (subst (Member atoms) (sym (same_atom-true a r.0 r.2)) r.1)

  covered_ground : (n : ℕ) (a : Atom) → slice_get atoms n ≡ Some a → has_atom atoms a ≡ true
  covered_ground n a at = any_from (same_atom a) atoms a (member_at atoms n a at) (same_atom-refl a)

  -- the state and the ground state say the same of the literals in the list
  abbrev SameOn : State → steps.State → Type 0
  SameOn s g = (m : GroundLit) → IsCoveredLiteral atoms m → steps.holds g (numbered atoms m) ≡ literal_holds s m

  module _ (s : State) (g : steps.State) (same_on : SameOn s g) where
    any_clause : (ms : List GroundLit) → ((m : GroundLit) → Member ms m → IsCoveredLiteral atoms m) → list_any (steps.holds g) (numbered_set atoms ms) ≡ list_any (literal_holds s) ms
    any_clause ms covered =
        any-set_of (steps.holds g) (map (numbered atoms) ms)
        ∙ (any_map (numbered atoms) (steps.holds g) (λ m. steps.holds g (numbered atoms m)) ms (λ m. refl)
        ∙ any_alike (λ m. steps.holds g (numbered atoms m)) (literal_holds s) ms (λ m i. same_on m (covered m i)))

    one_clause : (ms : List GroundLit) → ((m : GroundLit) → Member ms m → IsCoveredLiteral atoms m) → list_all (list_any (steps.holds g)) (exactly_one (map (numbered atoms) ms)) ≡ one_holds s ms
    one_clause ms covered =
        exactly_one_holds g (map (numbered atoms) ms)
        ∙ (any_map (numbered atoms) (λ x. steps.holds g x && is_only (steps.holds g) (map (numbered atoms) ms) x) (λ x. steps.holds g (numbered atoms x) && is_only (steps.holds g) (map (numbered atoms) ms) (numbered atoms x)) ms (λ x. refl)
        ∙ any_alike (λ x. steps.holds g (numbered atoms x) && is_only (steps.holds g) (map (numbered atoms) ms) (numbered atoms x)) (λ x. literal_holds s x && list_all (λ m. not (literal_holds s m) || same_literal x m) ms) ms
        (λ x i. rw (same_on x (covered x i), list_all-map (λ m. not (steps.holds g m) || same_lit (numbered atoms x) m) (numbered atoms) ms)
        (ap (λ t. literal_holds s x && t)
        (all_alike (λ m. not (steps.holds g (numbered atoms m)) || same_lit (numbered atoms x) (numbered atoms m)) (λ m. not (literal_holds s m) || same_literal x m) ms
        (λ m j. rw (same_on m (covered m j), numbered_apart x m (covered x i) (covered m j)) refl)))))

    -- an item holds where its clauses do, but for a literal whose atom isn't in the list
    item_exact : (i : Item) → Member l.init i → ((m : GroundLit) → i ≡ Item.One m → has_atom atoms (atom_of m) ≡ false → literal_holds s m ≡ true) → list_all (list_any (steps.holds g)) (item_clauses atoms i) ≡ item_holds s i
    item_exact (Item.One m) at other = pick (has_atom atoms (atom_of m)) refl
      where
        pick : (t : Bool) → has_atom atoms (atom_of m) ≡ t → list_all (list_any (steps.holds g)) (only_if t ((numbered atoms m ∷ []) ∷ [])) ≡ literal_holds s m
        pick false is = sym (other m refl is)
        pick true is = and-true _ ∙ (or-false _ ∙ same_on m (ground_covered (atom_of m) is))
    item_exact (Item.OneOf ms) at other = one_clause ms (list_covered (Item.OneOf ms) at (λ q h. ap not h))
    item_exact (Item.AnyOf ms) at other = and-true _ ∙ any_clause ms (list_covered (Item.AnyOf ms) at (λ q h. ap not h))
    item_exact (Item.Unknown m) at other = refl

    items_exact : ((m : GroundLit) → Member l.init (Item.One m) → has_atom atoms (atom_of m) ≡ false → literal_holds s m ≡ true) → list_all (list_any (steps.holds g)) (flat_map (item_clauses atoms) l.init) ≡ list_all (item_holds s) l.init
    items_exact other = go l.init (λ i m. m)
      where
        go : (is : List Item) → ((i : Item) → Member is i → Member l.init i) → list_all (list_any (steps.holds g)) (flat_map (item_clauses atoms) is) ≡ list_all (item_holds s) is
        go [] f = refl
        go (i ∷ is) f =
            list_all-append (list_any (steps.holds g)) (item_clauses atoms i) (flat_map (item_clauses atoms) is)
            ∙ rw (item_exact i (f i (inl refl)) (λ m e not_ground. other m (subst (Member l.init) e (f i (inl refl))) not_ground), go is (λ j m. f j (inr m))) refl

  -- a literal whose atom isn't in the list is positive and of a static predicate
  other_static : (m : GroundLit) → Member l.init (Item.One m) → has_atom atoms (atom_of m) ≡ false → is_static l m.pred ≡ true
  other_static m at not_ground =
      elim (cases_Bool (is_static l m.pred)) [
        | inl static ↦ static
        | inr open' ↦ absurd (both_ways (has_atom atoms (atom_of m)) not_ground (covered_ground (number_of atoms (atom_of m)) (atom_of m) (init_covered (Item.One m) at m (inl refl) open')))
      ]

  other_positive : (m : GroundLit) → Member l.init (Item.One m) → is_static l m.pred ≡ true → m.positive ≡ true
  other_positive m at static =
      let plain = all_member (leaves_static m.pred) l.init (Item.One m) at (static_predicate_parts l m.pred static).1 in
      sym (or-false m.positive) ∙ (ap (λ t. m.positive || not t) (sym (eq-eqb m.pred m.pred refl)) ∙ plain)

  -- what a positive literal says of its atom
  item_says : (m : GroundLit) → Member l.init (Item.One m) → m.positive ≡ true → initially l m.pred m.objects ≡ true
  item_says m at positive = any_from (says m.pred m.objects) l.init (Item.One m) at (and_from m.positive (is_of m.pred m.objects m) positive (and_from (nat_eq m.pred m.pred) (same m.objects m.objects) (eq-eqb m.pred m.pred refl) (same-refl m.objects)))

  -- nothing is said of an atom that no item names
  unsaid : (q : ℕ) (os : List ℕ) → is_named l q os ≡ false → initially l q os ≡ false
  unsaid q os h = false_from_ne_true (initially l q os) (λ said.
      let r = any_member (says q os) l.init said in
      both_ways (is_named l q os) h (any_from (λ i. list_any (is_of q os) (item_literals i)) l.init r.0 r.1 (named_by r.0 r.2)))
    where
      named_by : (i : Item) → says q os i ≡ true → list_any (is_of q os) (item_literals i) ≡ true
      named_by (Item.One m) g = or_left (is_of q os m) false (and_parts m.positive (is_of q os m) g).1
      named_by (Item.OneOf ms) g = absurd (false≢true g)
      named_by (Item.AnyOf ms) g = absurd (false≢true g)
      named_by (Item.Unknown m) g = absurd (false≢true g)

  -- ---- closed atoms

  abbrev is_closed : Atom → Bool
  is_closed a = not (is_named l a.pred a.objects)

  closed_tests : (f : ℕ → Bool) → list_all (λ p. f p.0) (closed_of l atoms) ≡ list_all (λ a. f (number_of atoms a)) (filter is_closed atoms)
  closed_tests f = list_all-map (λ (p : AtomId). f p.0) (λ a. let p : AtomId = record { 0 = number_of atoms a } in p) (filter is_closed atoms)

  pub closed_all : (f : ℕ → Bool) → ((a : Atom) → Member atoms a → is_named l a.pred a.objects ≡ false → f (number_of atoms a) ≡ true) → list_all (λ p. f p.0) (closed_of l atoms) ≡ true
  closed_all f h = closed_tests f ∙ all_from (λ a. f (number_of atoms a)) (filter is_closed atoms) (λ a m. let r = filter_member is_closed atoms a m in h a r.0 (not-true (is_named l a.pred a.objects) r.1))

  closed_each : (f : ℕ → Bool) → list_all (λ p. f p.0) (closed_of l atoms) ≡ true → (a : Atom) → Member atoms a → is_named l a.pred a.objects ≡ false → f (number_of atoms a) ≡ true
  closed_each f h a m not_named = all_member (λ a. f (number_of atoms a)) (filter is_closed atoms) a (member_filter is_closed atoms a m (ap not not_named)) (sym (closed_tests f) ∙ h)

  -- ---- the three parts

  -- a ground state as a state: of the atoms in the list it says what the ground state does, of others what `:init` does
  abbrev lift : steps.State → State
  lift g q os = cond (has_atom atoms (record { pred = q; objects = os })) (g (number_of atoms (record { pred = q; objects = os }))) (initially l q os)

  lift_same : (g : steps.State) → SameOn (lift g) g
  lift_same g m covered = ap (signed m.positive) (ap (λ t. cond t (g (number_of atoms (atom_of m))) (initially l m.pred m.objects)) (sym (covered_ground (number_of atoms (atom_of m)) (atom_of m) covered)))

  is_model_of : (s : State) → IsInitial l s → is_model (initial_over l atoms) (seen_on atoms s) ≡ true
  is_model_of s init =
      and_from (list_all (list_any (steps.holds (seen_on atoms s))) (initial_over l atoms).clauses) (list_all (λ p. not (seen_on atoms s p.0)) (initial_over l atoms).closed)
      (items_exact s (seen_on atoms s) (λ m c. holds_numbered atoms s m c)
      (λ m at not_ground.
      let static = other_static m at not_ground in
      let positive = other_positive m at static in
      let true' = static_atoms_keep_their_truth l s init m.pred m.objects static ∙ item_says m at positive in
      subst (λ b. signed b (s m.pred m.objects) ≡ true) (sym positive) true')
      ∙ init.items)
      (closed_all (λ n. not (seen_on atoms s n)) (λ a m not_named. ap not (ap (at_atom s) (atom_at_its_number atoms a m) ∙ init.absent a.pred a.objects not_named)))

  state_of : (g : steps.State) → is_model (initial_over l atoms) g ≡ true → (s : State) × IsInitial l s × ((n : ℕ) → n < length atoms → seen_on atoms s n ≡ g n)
  state_of g h = (lift g, record { items = items; absent = λ q os n. pick (has_atom atoms (record { pred = q; objects = os })) q os refl n }, same_seen)
    where
      parts : (list_all (list_any (steps.holds g)) (initial_over l atoms).clauses ≡ true) × (list_all (λ p. not (g p.0)) (initial_over l atoms).closed ≡ true)
      parts = and_parts (list_all (list_any (steps.holds g)) (initial_over l atoms).clauses) (list_all (λ p. not (g p.0)) (initial_over l atoms).closed) h

      items : list_all (item_holds (lift g)) l.init ≡ true
      items = sym (items_exact (lift g) g (lift_same g)
          (λ m at not_ground.
          let positive = other_positive m at (other_static m at not_ground) in
          subst (λ b. signed b (lift g m.pred m.objects) ≡ true) (sym positive) (ap (λ t. cond t (g (number_of atoms (atom_of m))) (initially l m.pred m.objects)) not_ground ∙ item_says m at positive))) ∙ parts.0

      pick : (t : Bool) (q : ℕ) (os : List ℕ) → has_atom atoms (record { pred = q; objects = os }) ≡ t → is_named l q os ≡ false → cond t (g (number_of atoms (record { pred = q; objects = os }))) (initially l q os) ≡ false
      pick false q os is n = unsaid q os n
      pick true q os is n =
          let a : Atom = record { pred = q; objects = os } in
          not-true (g (number_of atoms a)) (closed_each (λ n. not (g n)) parts.1 a (member_at atoms (number_of atoms a) a (ground_covered a is)) n)

      same_seen : (n : ℕ) → n < length atoms → seen_on atoms (lift g) n ≡ g n
      same_seen n lt = go (slice_get atoms n) refl
        where
          go : (o : Option Atom) → slice_get atoms n ≡ o → at_atom (lift g) o ≡ g n
          go None is = absurd (past atoms n lt is)
            where
              past : (as' : List Atom) (k : ℕ) → k < length as' → slice_get as' k ≡ None → ⊥
              past [] k lt e = absurd (omega arith)
              past (b ∷ as') zero lt e = cc
              past (b ∷ as') (suc k) lt e = past as' k (omega arith) e
          go (Some a) is = ap (λ t. cond t (g (number_of atoms a)) (initially l a.pred a.objects)) (covered_ground n a is) ∙ ap g (numbering.once n a is)

  only_one : (s t : State) → IsInitial l s → IsInitial l t → ((n : ℕ) → seen_on atoms s n ≡ seen_on atoms t n) → (q : ℕ) (os : List ℕ) → s q os ≡ t q os
  only_one s t init_s init_t same_seen q os =
      elim (cases_Bool (has_atom atoms (record { pred = q; objects = os }))) [
        | inl ground' ↦
            let at = ground_covered (record { pred = q; objects = os }) ground' in
            sym (ap (at_atom s) at) ∙ (same_seen (number_of atoms (record { pred = q; objects = os })) ∙ ap (at_atom t) at)
        | inr not_ground ↦ elim (cases_Bool (is_named l q os)) [
          | inl named ↦
              let i = any_member (λ i. list_any (is_of q os) (item_literals i)) l.init named in
              let m = any_member (is_of q os) (item_literals i.0) i.2 in
              elim (cases_Bool (is_static l q)) [
                | inl static ↦ static_atoms_keep_their_truth l s init_s q os static ∙ sym (static_atoms_keep_their_truth l t init_t q os static)
                | inr open' ↦
                    let parts = and_parts (nat_eq m.0.pred q) (same m.0.objects os) m.2 in
                    let e = eqb-true m.0.pred q parts.0 in
                    let f = same-true m.0.objects os parts.1 in
                    let covered = init_covered i.0 i.1 m.0 m.1 (subst (λ r. is_static l r ≡ false) (sym e) open') in
                    let there = covered_ground (number_of atoms (atom_of m.0)) (atom_of m.0) covered in
                    absurd (both_ways (has_atom atoms (record { pred = q; objects = os })) not_ground (subst (λ r. has_atom atoms (record { pred = r; objects = os }) ≡ true) e (subst (λ us. has_atom atoms (record { pred = m.0.pred; objects = us }) ≡ true) f there)))
              ]
          | inr not_named ↦ init_s.absent q os not_named ∙ sym (init_t.absent q os not_named)
        ]
      ]

pub initial_exact : IsInitialExact
initial_exact l atoms numbering = record { model = is_model_of l atoms numbering; state = state_of l atoms numbering; only = only_one l atoms numbering }
