-- Initial states that say the same of each ground atom are the same state.
use Rattle.std.proofs.Common.{◌≡◌, ◌∙◌, ◌<◌, ℕ, suc, Bool, true, false, List, [], ◌∷◌, Option, Some, None, if◌then◌else◌, map, nat_lt, length, slice_get, refl, sym, subst, inl, inr, arith}
use Rattle.std.specs.List.{list_any, list_all, flat_map}
use Rattle.std.proofs.lemmas.Bool.{and_parts, ltb-true}
use Rattle.kp_base.specs.declared.ground.GroundName.{GroundName}
use Rattle.kp_base.specs.Lists.{Member}
use Rattle.kp_base.proofs.Lists.{any_member, append_empty, append_member, flat_empty, map_member, member_at, member_map, same-true}
use Rattle.kp_tree_grammar.specs.declared.tree.Word.{Word}
use Rattle.kp_tree_grammar.specs.Trees.{Term, Atom as AtomTree, Lit, Item, Items, Domain, Problem}
use Rattle.kp_names_semantics.specs.Problems.{Name, same, all_same, objects, term_faults, atom_faults, lit_faults, item_faults, items_faults, Literal, unbound, by_name, items_literals, Lifted, index_of, name_at, heads, object_number, numbered_literal, numbered_problem, named_objects, named_literal, AreObjects, Agree}
use Rattle.kp_names_semantics.specs.States as named
use Rattle.kp_names_semantics.specs.States.{literal, object_of}
use Rattle.kp_names_semantics.specs.Initial as named_initial
use Rattle.kp_names_semantics.specs.Initial.{item_literals, is_of, is_named}
use Rattle.kp_names_semantics.specs.Lifted.{State}
use Rattle.kp_names_semantics.proofs.Public.{name_at_index, head_is_declared, atom_terms_have_no_fault, all_same_names-true, valid_literal_parts, numbered_literal_is_valid, HasCleanParts, clean_parts, initial_states_are_the_same_by_number}
use Rattle.kp_base.specs.Atoms.{Atom}
use Rattle.kp_ground_semantics.specs.Ground.{ground_atoms, atom_name, at_atom, seen_on}
use Rattle.kp_ground_semantics.proofs.Public.{atoms_are_numbered}
use Rattle.kp_init.proofs.Public.{models_are_initial_states}
use Rattle.kp_law_translation.specs.OfTrees.{ground_of}
use Rattle.kp_law_translation.specs.Given.{DifferentStatesAreDifferentModels}
use Rattle.kp_law_translation.proofs.Apart.{as_literal, atom_valid, heads_are}

-- the name at a number is the one that was numbered, if the number stands for some name
back_by_index : (xs : List Name) (x : Name) → index_of xs x < length xs → name_at xs (index_of xs x) ≡ x
back_by_index [] x h = absurd (omega arith)
back_by_index (y ∷ ys) x h = pick (same y x) refl (λ g. back_by_index ys x g) h
  where
    pick : (t : Bool) → same y x ≡ t → (index_of ys x < length ys → name_at ys (index_of ys x) ≡ x) → (if t then 0 else suc (index_of ys x)) < length (y ∷ ys) → name_at (y ∷ ys) (if t then 0 else suc (index_of ys x)) ≡ x
    pick true is rest g = same-true y x is
    pick false is rest g = rest (omega arith)

module _ (d : Domain Word) (p : Problem Word) where
  abbrev l : Lifted
  l = numbered_problem d p

  -- ---- literals of `:init` have their names back

  terms_back : (ts : List (Term Word)) → AreObjects d p (map (object_number d p) ts) → flat_map (term_faults d p []) ts ≡ [] → named_objects d p (map (object_number d p) ts) ≡ map (object_of unbound) ts
  terms_back [] below h = refl
  terms_back (Term.name w ∷ ts) below h =
      let first = and_parts (nat_lt (index_of (objects d p) w.text) (length (objects d p))) (list_all (λ o. nat_lt o (length (objects d p))) (map (object_number d p) ts)) below in
      let rest = append_empty (term_faults d p [] (Term.name w)) (flat_map (term_faults d p []) ts) h in
      rw (back_by_index (objects d p) w.text (ltb-true (index_of (objects d p) w.text) (length (objects d p)) first.0), terms_back ts first.1 rest.1) refl
  terms_back (Term.variable w ∷ ts) below h = cc

  literal_back : (positive : Bool) (a : AtomTree Word) → atom_faults d p [] a ≡ [] → named_literal d p (numbered_literal d p positive a) ≡ literal positive a unbound
  literal_back positive a h =
      let parts = valid_literal_parts d p (numbered_literal d p positive a) (numbered_literal_is_valid d p positive a h) in
      rw (name_at_index (heads d) a.head.text (head_is_declared d p [] a h), terms_back a.terms parts.1 (atom_terms_have_no_fault d p [] a h)) refl

  -- ---- two states that are one by number

  module _ (s t : named.State) (m n : State) (as_m : Agree d p s m) (as_n : Agree d p t n) (alike : (q : ℕ) (os : List ℕ) → m q os ≡ n q os) where
    abbrev AreAlikeAt : Literal → Type 0
    AreAlikeAt x = s x.head x.objects ≡ t x.head x.objects

    at_literal : (positive : Bool) (a : AtomTree Word) → atom_faults d p [] a ≡ [] → AreAlikeAt (literal positive a unbound)
    at_literal positive a h =
        let g = numbered_literal d p positive a in
        let parts = valid_literal_parts d p g (numbered_literal_is_valid d p positive a h) in
        subst AreAlikeAt (literal_back positive a h) (sym (as_m g.pred g.objects parts.0 parts.1) ∙ (alike g.pred g.objects ∙ as_n g.pred g.objects parts.0 parts.1))

    at_choice : (ls : List (Lit Word)) → flat_map (lit_faults d p) ls ≡ [] → (x : Literal) → Member (map by_name ls) x → AreAlikeAt x
    at_choice ls h x among =
        let r = map_member by_name ls x among in
        subst AreAlikeAt r.2 (at_literal r.0.positive r.0.atom (flat_empty (lit_faults d p) ls h r.0 r.1))

    at_one : (positive : Bool) (a : AtomTree Word) → atom_faults d p [] a ≡ [] → (x : Literal) → Member (literal positive a unbound ∷ []) x → AreAlikeAt x
    at_one positive a h x among = elim among [ inl e ↦ subst AreAlikeAt e (at_literal positive a h) | inr none ↦ absurd none ]

    mutual
      at_item : (i : Item Word) → item_faults d p i ≡ [] → (x : Literal) → Member (item_literals i) x → AreAlikeAt x
      at_item (Item.items is) h x among = at_items is h x among
      at_item (Item.fact positive a) h x among = at_one positive a h x among
      at_item (Item.one_of w ls) h x among = at_choice ls h x among
      at_item (Item.any_of w ls) h x among = at_choice ls h x among
      at_item (Item.unknown w a) h x among = at_one true a h x among

      at_items : (is : Items Word) → items_faults d p is ≡ [] → (x : Literal) → Member (items_literals is) x → AreAlikeAt x
      at_items Items.no_item h x among = absurd among
      at_items (Items.more_items i is) h x among =
          let parts = append_empty (item_faults d p i) (items_faults d p is) h in
          elim (append_member (item_literals i) (items_literals is) x among) [
            | inl first ↦ at_item i parts.0 x first
            | inr rest ↦ at_items is parts.1 x rest
          ]

    -- and where `:init` names no atom, neither has it
    alike_by_name : HasCleanParts d p → named_initial.IsInitial p s → named_initial.IsInitial p t → (h : Name) (os : List Name) → s h os ≡ t h os
    alike_by_name c at_s at_t h os = pick (is_named p h os) refl
      where
        pick : (u : Bool) → is_named p h os ≡ u → s h os ≡ t h os
        pick false is = at_s.absent h os is ∙ sym (at_t.absent h os is)
        pick true is =
            let i = any_member (λ i. list_any (is_of h os) (item_literals i)) p.init is in
            let x = any_member (is_of h os) (item_literals i.0) i.2 in
            let parts = and_parts (same x.0.head h) (all_same x.0.objects os) x.2 in
            let head : x.0.head ≡ h = same-true x.0.head h parts.0 in
            let terms : x.0.objects ≡ os = all_same_names-true x.0.objects os parts.1 in
            subst (λ z. s h z ≡ t h z) terms (subst (λ z. s z x.0.objects ≡ t z x.0.objects) head (at_item i.0 (c.items i.0 i.1) x.0 x.1))

  -- ---- two states that are the same model

  -- what is said by name of the ground atoms is said of them by number
  seen_alike : HasCleanParts d p → (s t : named.State) (m n : State) → Agree d p s m → Agree d p t n → ((a : GroundName) → Member (ground_of d p).atoms a → s a.head a.objects ≡ t a.head a.objects)
      → (k : ℕ) → seen_on (ground_atoms l) m k ≡ seen_on (ground_atoms l) n k
  seen_alike c s t m n as_m as_n alike k = at (slice_get (ground_atoms l) k) refl
    where
      at : (o : Option Atom) → slice_get (ground_atoms l) k ≡ o → at_atom m o ≡ at_atom n o
      at None is = refl
      at (Some a) is =
          let here = member_at (ground_atoms l) k a is in
          let parts = valid_literal_parts d p (as_literal a) (atom_valid d p c a here) in
          let told = subst (λ hs. s (name_at hs a.pred) (named_objects d p a.objects) ≡ t (name_at hs a.pred) (named_objects d p a.objects)) (heads_are d p) (alike (atom_name l a) (member_map (atom_name l) (ground_atoms l) a here)) in
          as_m a.pred a.objects parts.0 parts.1 ∙ (told ∙ sym (as_n a.pred a.objects parts.0 parts.1))

pub states_differ : DifferentStatesAreDifferentModels
states_differ d p no_fault s t at_s at_t alike =
    let same_states = initial_states_are_the_same_by_number d p no_fault in
    let c = clean_parts d p no_fault in
    let m = same_states.by_number s at_s in
    let n = same_states.by_number t at_t in
    let models = models_are_initial_states (numbered_problem d p) (ground_atoms (numbered_problem d p)) (atoms_are_numbered (numbered_problem d p)).numbering in
    alike_by_name d p s t m.0 n.0 m.2 n.2
    (models.only m.0 n.0 m.1 n.1 (λ k. seen_alike d p c s t m.0 n.0 m.2 n.2 alike k))
    c at_s at_t
