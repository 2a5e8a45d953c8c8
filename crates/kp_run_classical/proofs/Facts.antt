-- Where nothing in `:init` leaves the initial state open, each clause of the initial formula is one literal, and each ground atom is said or closed.
use Rattle.std.proofs.Common.{◌≡◌, ◌<◌, ◌∙◌, ℕ, Bool, true, false, not, ◌||◌, List, [], ◌∷◌, Option, Some, None, length, filter, nat_eq, slice_get, refl, sym, ap, subst, inl, inr, arith}
use Rattle.std.specs.List.{list_any, list_all, flat_map}
use Rattle.std.proofs.lemmas.Bool.{and_parts, and_from, or_left, or_right, cases_Bool, false≢true, eq-eqb}
use Rattle.std.proofs.lemmas.List.{length-map}
use Rattle.std.proofs.lemmas.List.Folds.{list_all-append}
use Rattle.std.proofs.lemmas.Option.{slice_get_cases}
use Rattle.kp_base.specs.declared.lit.AtomId.{AtomId}
use Rattle.kp_base.specs.declared.lit.Lit.{Lit}
use Rattle.kp_base.specs.Lists.{Member, only_if}
use Rattle.kp_base.specs.Lit.{positive, negative, has}
use Rattle.kp_base.proofs.Parts.{all_flat_map}
use Rattle.kp_base.proofs.Lists.{all_member, any_member, any_from, member_at, member_map, member_filter, member_flat_map}
use Rattle.kp_base.proofs.Lits.{same_lit-refl}
use Rattle.kp_tree_grammar.specs.declared.tree.Word.{Word}
use Rattle.kp_tree_grammar.specs.Trees as trees
use Rattle.kp_tree_grammar.specs.Trees.{Domain, Problem}
use Rattle.kp_names_semantics.specs.declared.lifted.Item.{Item}
use Rattle.kp_names_semantics.specs.Problems.{same, Lifted, numbered_item, numbered_items, numbered_problem}
use Rattle.kp_names_semantics.specs.Lifted.{item_literals, is_of, is_named}
use Rattle.kp_names.specs.Resolved.{or_else, unsure_item, unsure_items, first_unsure}
use Rattle.kp_base.specs.Atoms.{Atom, same_atom, has_atom, number_of}
use Rattle.kp_ground_semantics.specs.Ground.{atom_of, numbered, IsNumbering, ground_atoms, atom_name, ground_of}
use Rattle.kp_base.proofs.AtomOrder.{same_atom-true, same_atom-refl}
use Rattle.kp_ground_semantics.proofs.Public.{atoms_are_numbered}
use Rattle.kp_init.specs.Initial.{item_clauses, closed_of, initial_over, initial_of}
use Rattle.kp_classic.specs.Grounded.{is_known}
use Rattle.kp_law_translation.proofs.Public.{formula_by_number_is_over_atoms}
use Rattle.kp_run_classical.specs.Certain.{has_units, SaysAtMostOneState}
use Rattle.kp_run_classical.specs.Classical.{IsCertain}
use Rattle.kp_run_classical.specs.Numbered.{is_fact, HasFacts}

-- ---- items of trees

neither : (a b : Option Word) → or_else a b ≡ None → (a ≡ None) × (b ≡ None)
neither None b e = (refl, e)
neither (Some w) b e = absurd cc

mutual
  item_facts : (d : Domain Word) (p : Problem Word) (i : trees.Item Word) → unsure_item i ≡ None → list_all is_fact (numbered_item d p i) ≡ true
  item_facts d p (trees.Item.items is) e = items_facts d p is e
  item_facts d p (trees.Item.fact positive a) e = refl
  item_facts d p (trees.Item.one_of w ls) e = absurd cc
  item_facts d p (trees.Item.any_of w ls) e = absurd cc
  item_facts d p (trees.Item.unknown w a) e = absurd cc

  items_facts : (d : Domain Word) (p : Problem Word) (is : trees.Items Word) → unsure_items is ≡ None → list_all is_fact (numbered_items d p is) ≡ true
  items_facts d p trees.Items.no_item e = refl
  items_facts d p (trees.Items.more_items i is) e =
      let both = neither (unsure_item i) (unsure_items is) e in
      list_all-append is_fact (numbered_item d p i) (numbered_items d p is) ∙ and_from _ _ (item_facts d p i both.0) (items_facts d p is both.1)

list_facts : (d : Domain Word) (p : Problem Word) (is : List (trees.Item Word)) → first_unsure is ≡ None → list_all is_fact (flat_map (numbered_item d p) is) ≡ true
list_facts d p [] e = refl
list_facts d p (i ∷ is) e =
    let both = neither (unsure_item i) (first_unsure is) e in
    list_all-append is_fact (numbered_item d p i) (flat_map (numbered_item d p) is) ∙ and_from _ _ (item_facts d p i both.0) (list_facts d p is both.1)

pub certain_facts : (d : Domain Word) (p : Problem Word) → IsCertain p → HasFacts (numbered_problem d p)
certain_facts d p certain = list_facts d p p.init certain

-- ---- the formula

module _ (l : Lifted) (facts : HasFacts l) where
  units : (atoms : List Atom) → has_units (initial_over l atoms) ≡ true
  units atoms = all_flat_map (λ (c : List Lit). nat_eq (length c) 1) (item_clauses atoms) l.init (λ i m. each i (all_member is_fact l.init i m facts))
    where
      one : (b : Bool) (x : Lit) → list_all (λ (c : List Lit). nat_eq (length c) 1) (only_if b ((x ∷ []) ∷ [])) ≡ true
      one true x = refl
      one false x = refl

      each : (i : Item) → is_fact i ≡ true → list_all (λ (c : List Lit). nat_eq (length c) 1) (item_clauses atoms i) ≡ true
      each (Item.One m) e = one (has_atom atoms (atom_of m)) (numbered atoms m)
      each (Item.OneOf ms) e = absurd (false≢true e)
      each (Item.AnyOf ms) e = absurd (false≢true e)
      each (Item.Unknown m) e = absurd (false≢true e)

  module _ (atoms : List Atom) (numbering : IsNumbering l atoms) where
    -- an atom that an item names stands in a clause
    said : (p : ℕ) (a : Atom) → slice_get atoms p ≡ Some a → (i : Item) → Member l.init i → is_fact i ≡ true → list_any (is_of a.pred a.objects) (item_literals i) ≡ true → list_any (λ c. has c (positive p) || has c (negative p)) (initial_over l atoms).clauses ≡ true
    said p a at (Item.OneOf ms) here e named = absurd (false≢true e)
    said p a at (Item.AnyOf ms) here e named = absurd (false≢true e)
    said p a at (Item.Unknown m) here e named = absurd (false≢true e)
    said p a at (Item.One m) here e named =
        any_from (λ c. has c (positive p) || has c (negative p)) (flat_map (item_clauses atoms) l.init) (numbered atoms m ∷ [])
        (member_flat_map (item_clauses atoms) l.init (Item.One m) (numbered atoms m ∷ []) here (subst (λ b. Member (only_if b ((numbered atoms m ∷ []) ∷ [])) (numbered atoms m ∷ [])) (sym there) (inl refl)))
        (by m.positive refl)
      where
        or_none : (b : Bool) → (b || false) ≡ true → b ≡ true
        or_none true h = refl
        or_none false h = h

        parts : (nat_eq m.pred a.pred ≡ true) × (same m.objects a.objects ≡ true)
        parts = and_parts (nat_eq m.pred a.pred) (same m.objects a.objects) (or_none _ named)

        is_atom : atom_of m ≡ a
        is_atom = same_atom-true (atom_of m) a (and_from (nat_eq m.pred a.pred) (same m.objects a.objects) parts.0 parts.1)

        there : has_atom atoms (atom_of m) ≡ true
        there = subst (λ b. has_atom atoms b ≡ true) (sym is_atom) (any_from (same_atom a) atoms a (member_at atoms p a at) (same_atom-refl a))

        number : number_of atoms (atom_of m) ≡ p
        number = ap (number_of atoms) is_atom ∙ numbering.once p a at

        by : (b : Bool) → m.positive ≡ b → (has (numbered atoms m ∷ []) (positive p) || has (numbered atoms m ∷ []) (negative p)) ≡ true
        by true sign =
            let alike : numbered atoms m ≡ positive p = cc (number, sign) in
            subst (λ (x : Lit). (has (x ∷ []) (positive p) || has (x ∷ []) (negative p)) ≡ true) (sym alike) (or_left _ _ (or_left _ _ (same_lit-refl (positive p))))
        by false sign =
            let alike : numbered atoms m ≡ negative p = cc (number, sign) in
            subst (λ (x : Lit). (has (x ∷ []) (positive p) || has (x ∷ []) (negative p)) ≡ true) (sym alike) (or_right _ _ (or_left _ _ (same_lit-refl (negative p))))

    -- another is closed
    closed : (p : ℕ) (a : Atom) → slice_get atoms p ≡ Some a → is_named l a.pred a.objects ≡ false → list_any (λ q. nat_eq q.0 p) (initial_over l atoms).closed ≡ true
    closed p a at unnamed =
        any_from (λ (q : AtomId). nat_eq q.0 p) (closed_of l atoms) (record { 0 = number_of atoms a })
        (member_map (λ b. let q : AtomId = record { 0 = number_of atoms b } in q) (filter (λ b. not (is_named l b.pred b.objects)) atoms) a (member_filter (λ b. not (is_named l b.pred b.objects)) atoms a (member_at atoms p a at) (ap not unnamed)))
        (eq-eqb (number_of atoms a) p (numbering.once p a at))

    known : (p : ℕ) → p < length atoms → is_known (initial_over l atoms) p ≡ true
    known p lt = elim ((slice_get_cases atoms p).1) [
      | inl r ↦ at_atom r.0 r.2
      | inr r ↦ (let le = r.0 in absurd (omega (arith, lt, le)))
    ]
      where
        at_atom : (a : Atom) → slice_get atoms p ≡ Some a → is_known (initial_over l atoms) p ≡ true
        at_atom a at = elim (cases_Bool (is_named l a.pred a.objects)) [
          | inl named ↦ (
              let r = any_member (λ i. list_any (is_of a.pred a.objects) (item_literals i)) l.init named in
              or_left _ _ (said p a at r.0 r.1 (all_member is_fact l.init r.0 r.1 facts) r.2))
          | inr unnamed ↦ or_right _ _ (closed p a at unnamed)
        ]

pub says_at_most_one : (l : Lifted) → HasFacts l → SaysAtMostOneState (length (ground_of l).atoms) (initial_of l)
says_at_most_one l facts = record {
  of_atoms = formula_by_number_is_over_atoms l;
  units = units l facts (ground_atoms l);
  each_known = λ p lt. known l facts (ground_atoms l) (atoms_are_numbered l).numbering p (subst (λ n. p < n) (length-map (ground_atoms l) (atom_name l)) lt);
}
