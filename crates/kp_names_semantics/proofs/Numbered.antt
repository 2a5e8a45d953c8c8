-- Conditions and effects mean the same by number as by name.
use Rattle.std.proofs.Common.{◌≡◌, ◌<◌, ℕ, suc, Bool, true, false, not, if◌then◌else◌, nat_eq, nat_lt, List, [], ◌∷◌, ◌++◌, Option, Some, None, cond, refl, sym, ap, subst, ◌∙◌, inl, inr, map, find, length, length-append, slice_index, arith, eqb-true, eq-eqb}
use Rattle.std.specs.List.{list_any, list_all, flat_map}
use Rattle.std.proofs.Math.ListN.{get_or-append}
use Rattle.std.proofs.Math.Seq.{get_or-append_seam}
use Rattle.std.proofs.lemmas.List.{append_assoc, append-nil, map-append}
use Rattle.std.proofs.lemmas.List.Folds.{flat_map-map}
use Rattle.std.proofs.lemmas.Bool.{and_parts, and_from, or_cases, or_left, or_right, both_ways, not-false, lt-ltb}
use Rattle.kp_tree_grammar.specs.declared.tree.Word.{Word}
use Rattle.kp_tree_grammar.specs.Trees.{Typed, Term, Atom, Cond, Conds, Eff, Effs, Pred, Domain, Problem}
use Rattle.kp_names_semantics.specs.declared.lifted.Range.{Range}
use Rattle.kp_base.specs.Lists.{Member, signed, only_if, choices}
use Rattle.kp_names_semantics.specs.Names.{Name, same, is_among}
use Rattle.kp_names_semantics.specs.Types.{names, declared, object_lines, objects, range, is_of_type, types_of}
use Rattle.kp_names_semantics.specs.Faults.{unknown_name, unless_among, inside, term_faults, predicate_of, head_faults, atom_faults, cond_faults, conds_faults, eff_faults, effs_faults, variable_faults}
use Rattle.kp_names_semantics.specs.States as named
use Rattle.kp_names_semantics.specs.States.{bind}
use Rattle.kp_names_semantics.specs.Steps as named_steps
use Rattle.kp_names_semantics.specs.Steps.{object_lists}
use Rattle.kp_names_semantics.specs.Lifted.{State, Binding, object_of, holds, all_hold, bindings, fires, all_fire}
use Rattle.kp_names_semantics.specs.Numbering.{index_of, name_at, heads, variable_number, numbered_term, numbered_terms, numbered_head, numbered_range, numbered_cond, numbered_conds, numbered_eff, numbered_effs, named_objects, named_literal, AreObjects, Agree}
use Rattle.kp_names_semantics.specs.NumberLaws.{Matches, IsHoldsNumbered, IsFiresNumbered}
use Rattle.kp_names_semantics.proofs.Lists.{same-true, same-refl, same-sym, bool_same, append_empty, among_member, flat_alike, map_member, flat_member, filter_member}
use Rattle.kp_names_semantics.proofs.Indexes.{only_if_empty, at_index, index_below, index_at, distinct_once, among_distinct, variable_below}

-- ---- heads

found_among : (qs : List (Pred Word)) (x : Name) (q : Pred Word) → find (λ q. same q.head.text x) qs ≡ Some q → is_among (names (map (λ q. q.head) qs)) x ≡ true
found_among [] x q h = cc
found_among (r ∷ qs) x q h = pick (same r.head.text x) refl (λ g. found_among qs x q g) h
  where
    pick : (t : Bool) → same r.head.text x ≡ t → (find (λ q. same q.head.text x) qs ≡ Some q → is_among (names (map (λ q. q.head) qs)) x ≡ true) → cond t (Some r) (find (λ q. same q.head.text x) qs) ≡ Some q → is_among (names (map (λ q. q.head) (r ∷ qs))) x ≡ true
    pick true is rest g = or_left (same x r.head.text) (is_among (names (map (λ (q : Pred Word). q.head) qs)) x) (same-sym x r.head.text ∙ is)
    pick false is rest g = or_right (same x r.head.text) (is_among (names (map (λ (q : Pred Word). q.head) qs)) x) (rest g)

-- ---- lists of lists

pub map_flat : {X Y Z : Type 0} (g : Y → Z) (f : X → List Y) (xs : List X) → map g (flat_map f xs) ≡ flat_map (λ x. map g (f x)) xs
map_flat g f [] = refl
map_flat g f (x ∷ xs) = map-append g (f x) (flat_map f xs) ∙ ap (λ z. map g (f x) ++ z) (map_flat g f xs)

pub choices_map : {X Y : Type 0} (f : X → Y) (xss : List (List X)) → choices (map (map f) xss) ≡ map (map f) (choices xss)
choices_map f [] = refl
choices_map {X} {Y} f (xs ∷ xss) =
    flat_map-map (λ y. map (λ rest. y ∷ rest) (choices (map (map f) xss))) f xs
    ∙ (go xs (choices_map f xss) ∙ sym (map_flat (map f) (λ x. map (λ rest. x ∷ rest) (choices xss)) xs))
  where
    one : (x : X) (zss : List (List X)) → map (λ rest. f x ∷ rest) (map (map f) zss) ≡ map (map f) (map (λ rest. x ∷ rest) zss)
    one x [] = refl
    one x (z ∷ zss) = ap (λ w. (f x ∷ map f z) ∷ w) (one x zss)

    go : (xs : List X) → choices (map (map f) xss) ≡ map (map f) (choices xss) → flat_map (λ x. map (λ rest. f x ∷ rest) (choices (map (map f) xss))) xs ≡ flat_map (λ x. map (map f) (map (λ rest. x ∷ rest) (choices xss))) xs
    go [] e = refl
    go (x ∷ xs) e = rw (go xs e, e, one x (choices xss)) refl

module _ (d : Domain Word) (p : Problem Word) where
  -- an object of no fault is in the list
  among_objects : (w : Word) → unless_among (declared (object_lines d p)) w ≡ [] → is_among (objects d p) w.text ≡ true
  among_objects w h = among_distinct (declared (object_lines d p)) w.text (not-false (is_among (declared (object_lines d p)) w.text) (only_if_empty (not (is_among (declared (object_lines d p)) w.text)) (unknown_name w.byte) h))

  -- two objects are one where their names are
  pub object_eq : (x y : ℕ) → x < length (objects d p) → y < length (objects d p) → nat_eq x y ≡ same (name_at (objects d p) x) (name_at (objects d p) y)
  object_eq x y hx hy =
      bool_same (nat_eq x y) (same (name_at (objects d p) x) (name_at (objects d p) y))
      (λ h. subst (λ z. same (name_at (objects d p) x) (name_at (objects d p) z) ≡ true) (eqb-true x y h) (same-refl (name_at (objects d p) x)))
      (λ h.
      let e = same-true (name_at (objects d p) x) (name_at (objects d p) y) h in
      let once = distinct_once (declared (object_lines d p)) in
      eq-eqb x y (sym (index_at (objects d p) once x hx) ∙ (ap (index_of (objects d p)) e ∙ index_at (objects d p) once y hy)))

  pub among_heads : (scope : List Name) (a : Atom Word) → atom_faults d p scope a ≡ [] → is_among (heads d) a.head.text ≡ true
  among_heads scope a h = go (predicate_of d a) refl (append_empty (head_faults (predicate_of d a) a) (flat_map (term_faults d p scope) a.terms) h).0
    where
      go : (o : Option (Pred Word)) → predicate_of d a ≡ o → head_faults o a ≡ [] → is_among (heads d) a.head.text ≡ true
      go None is g = cc
      go (Some q) is g = found_among d.predicates a.head.text q is

  pub atom_terms : (scope : List Name) (a : Atom Word) → atom_faults d p scope a ≡ [] → flat_map (term_faults d p scope) a.terms ≡ []
  atom_terms scope a h = (append_empty (head_faults (predicate_of d a) a) (flat_map (term_faults d p scope) a.terms) h).1

  -- ---- under variables that match

  module _ (scope : List Name) (b : named.Binding) (c : Binding) (m : Matches d p scope b c) where
    pub term_below : (t : Term Word) → term_faults d p scope t ≡ [] → object_of c (numbered_term d p scope t) < length (objects d p)
    term_below (Term.name w) h = index_below (objects d p) w.text (among_objects w h)
    term_below (Term.variable w) h = m.below w.text (not-false (is_among scope w.text) (only_if_empty (not (is_among scope w.text)) (unknown_name w.byte) h))

    pub term_named : (t : Term Word) → term_faults d p scope t ≡ [] → name_at (objects d p) (object_of c (numbered_term d p scope t)) ≡ named.object_of b t
    term_named (Term.name w) h = at_index (objects d p) w.text (among_objects w h)
    term_named (Term.variable w) h = m.names w.text (not-false (is_among scope w.text) (only_if_empty (not (is_among scope w.text)) (unknown_name w.byte) h))

    pub terms_below : (ts : List (Term Word)) → flat_map (term_faults d p scope) ts ≡ [] → AreObjects d p (map (object_of c) (map (numbered_term d p scope) ts))
    terms_below [] h = refl
    terms_below (t ∷ ts) h =
        let parts = append_empty (term_faults d p scope t) (flat_map (term_faults d p scope) ts) h in
        and_from (nat_lt (object_of c (numbered_term d p scope t)) (length (objects d p))) (list_all (λ o. nat_lt o (length (objects d p))) (map (object_of c) (map (numbered_term d p scope) ts)))
        (lt-ltb (object_of c (numbered_term d p scope t)) (length (objects d p)) (term_below t parts.0)) (terms_below ts parts.1)

    pub terms_named : (ts : List (Term Word)) → flat_map (term_faults d p scope) ts ≡ [] → named_objects d p (map (object_of c) (map (numbered_term d p scope) ts)) ≡ map (named.object_of b) ts
    terms_named [] h = refl
    terms_named (t ∷ ts) h =
        let parts = append_empty (term_faults d p scope t) (flat_map (term_faults d p scope) ts) h in
        rw (term_named t parts.0, terms_named ts parts.1) refl

    -- ---- conditions

    module _ (s : named.State) (t : State) (agree : Agree d p s t) where
      mutual
        pub cond_numbered : (x : Cond Word) → cond_faults d p scope x ≡ [] → holds t c (numbered_cond d p scope x) ≡ named.holds s b x
        cond_numbered (Cond.all xs) h = conds_numbered xs h
        cond_numbered (Cond.atom positive a) h =
            ap (signed positive)
            (agree (numbered_head d a) (map (object_of c) (numbered_terms d p scope a)) (index_below (heads d) a.head.text (among_heads scope a h)) (terms_below a.terms (atom_terms scope a h))
            ∙ rw (at_index (heads d) a.head.text (among_heads scope a h), terms_named a.terms (atom_terms scope a h)) refl)
        cond_numbered (Cond.same positive x y) h =
            let parts = append_empty (term_faults d p scope x) (term_faults d p scope y) h in
            ap (signed positive)
            (object_eq (object_of c (numbered_term d p scope x)) (object_of c (numbered_term d p scope y)) (term_below x parts.0) (term_below y parts.1)
            ∙ rw (term_named x parts.0, term_named y parts.1) refl)

        conds_numbered : (xs : Conds Word) → conds_faults d p scope xs ≡ [] → all_hold t c (numbered_conds d p scope xs) ≡ named.all_hold s b xs
        conds_numbered Conds.no_cond h = refl
        conds_numbered (Conds.more_conds x xs) h =
            let parts = append_empty (cond_faults d p scope x) (conds_faults d p scope xs) h in
            rw (cond_numbered x parts.0, conds_numbered xs parts.1) refl

  -- ---- bindings

  -- one variable more
  matches_one : (scope : List Name) (b : named.Binding) (c : Binding) → Matches d p scope b c → (v o : Name) → is_among (objects d p) o ≡ true → Matches d p (v ∷ scope) (λ w. if same w v then o else b w) (c ++ index_of (objects d p) o ∷ [])
  matches_one scope b c m v o h =
      record {
        size = omega (arith, length-append c (index_of (objects d p) o ∷ []), m.size);
        below = λ w g. subst (λ z. z < length (objects d p)) (sym (place w g (same v w) refl)) (below_at w g (same v w) refl);
        names = λ w g. ap (name_at (objects d p)) (place w g (same v w) refl) ∙ named_at w g (same v w) refl;
      }
    where
      among_rest : (w : Name) → is_among (v ∷ scope) w ≡ true → same v w ≡ false → is_among scope w ≡ true
      among_rest w g is = elim (or_cases (same w v) (is_among scope w) g) [
        | inl e ↦ absurd (both_ways (same v w) is (same-sym v w ∙ e))
        | inr e ↦ e
      ]

      -- the object's number at the variable's
      place : (w : Name) → is_among (v ∷ scope) w ≡ true → (t : Bool) → same v w ≡ t → slice_index (c ++ index_of (objects d p) o ∷ []) (if same v w then length scope else variable_number scope w) ≡ (if t then index_of (objects d p) o else slice_index c (variable_number scope w))
      place w g true is =
          rw (is, ← m.size) (get_or-append_seam c (index_of (objects d p) o) [] 0)
      place w g false is =
          let lt = variable_below scope w (among_rest w g is) in
          let lt' : variable_number scope w < length c = omega (arith, lt, m.size) in
          rw is (get_or-append c (index_of (objects d p) o ∷ []) 0 (variable_number scope w) lt')

      below_at : (w : Name) → is_among (v ∷ scope) w ≡ true → (t : Bool) → same v w ≡ t → (if t then index_of (objects d p) o else slice_index c (variable_number scope w)) < length (objects d p)
      below_at w g true is = index_below (objects d p) o h
      below_at w g false is = m.below w (among_rest w g is)

      named_at : (w : Name) → is_among (v ∷ scope) w ≡ true → (t : Bool) → same v w ≡ t → name_at (objects d p) (if t then index_of (objects d p) o else slice_index c (variable_number scope w)) ≡ (if same w v then o else b w)
      named_at w g true is = let e = same-sym w v ∙ is in rw e (at_index (objects d p) o h)
      named_at w g false is = let e = same-sym w v ∙ is in rw e (m.names w (among_rest w g is))

  pub matches_more : (scope : List Name) (b : named.Binding) (c : Binding) → Matches d p scope b c → (vs os : List Name) → length os ≡ length vs → list_all (is_among (objects d p)) os ≡ true → Matches d p (inside vs scope) (bind vs os b) (c ++ map (index_of (objects d p)) os)
  matches_more scope b c m [] [] size h = subst (λ z. Matches d p scope b z) (sym (append-nil c)) m
  matches_more scope b c m [] (o ∷ os) size h = absurd (omega arith)
  matches_more scope b c m (v ∷ vs) [] size h = absurd (omega arith)
  matches_more scope b c m (v ∷ vs) (o ∷ os) size h =
      let parts = and_parts (is_among (objects d p) o) (list_all (is_among (objects d p)) os) h in
      let one = matches_one scope b c m v o parts.0 in
      subst (λ z. Matches d p (inside vs (v ∷ scope)) (bind vs os (λ w. if same w v then o else b w)) z) (append_assoc c (index_of (objects d p) o ∷ []) (map (index_of (objects d p)) os))
      (matches_more (v ∷ scope) (λ w. if same w v then o else b w) (c ++ index_of (objects d p) o ∷ []) one vs os (omega arith) parts.1)

  -- ---- lists of objects

  -- the bindings of numbered ranges are the numbered object lists
  pub bindings_numbered : (xs : List (Typed Word)) → bindings (map (numbered_range d p) xs) ≡ map (map (index_of (objects d p))) (object_lists d p xs)
  bindings_numbered xs = ap choices (ranges xs) ∙ choices_map (index_of (objects d p)) (map (range d p) xs)
    where
      ranges : (xs : List (Typed Word)) → map (λ (r : Range). r.objects) (map (numbered_range d p) xs) ≡ map (map (index_of (objects d p))) (map (range d p) xs)
      ranges [] = refl
      ranges (x ∷ xs) = ap (λ z. map (index_of (objects d p)) (range d p x) ∷ z) (ranges xs)

  -- an object list has an object for each variable
  pub object_list_good : (xs : List (Typed Word)) (os : List Name) → Member (object_lists d p xs) os → (length os ≡ length (declared xs)) × (list_all (is_among (objects d p)) os ≡ true)
  object_list_good [] os m = elim m [ inl e ↦ (ap length (sym e), subst (λ z. list_all (is_among (objects d p)) z ≡ true) e refl) | inr r ↦ absurd r ]
  object_list_good (x ∷ xs) os m =
      let r = flat_member (λ o. map (λ rest. o ∷ rest) (object_lists d p xs)) (range d p x) os m in
      let h = map_member (λ rest. r.0 ∷ rest) (object_lists d p xs) os r.2 in
      let good = object_list_good xs h.0 h.1 in
      let o_in = among_member (objects d p) r.0 (filter_member (λ o. list_any (is_of_type d p o) (types_of x)) (objects d p) r.0 r.1).0 in
      (sym (ap length h.2) ∙ ap suc good.0, subst (λ z. list_all (is_among (objects d p)) z ≡ true) h.2 (and_from (is_among (objects d p) r.0) (list_all (is_among (objects d p)) h.0) o_in good.1))

  -- ---- effects

  module _ (s : named.State) (t : State) (agree : Agree d p s t) where
    mutual
      pub eff_numbered : (scope : List Name) (b : named.Binding) (c : Binding) → Matches d p scope b c → (e : Eff Word) → eff_faults d p scope e ≡ [] → map (named_literal d p) (fires t c (numbered_eff d p scope e)) ≡ named_steps.fires d p s b e
      eff_numbered scope b c m (Eff.both es) h = effs_numbered scope b c m es h
      eff_numbered scope b c m (Eff.when x e) h =
          let parts = append_empty (cond_faults d p scope x) (eff_faults d p scope e) h in
          rw (cond_numbered scope b c m s t agree x parts.0, ← eff_numbered scope b c m e parts.1)
          (pick (named.holds s b x))
        where
          pick : (u : Bool) → map (named_literal d p) (only_if u (fires t c (numbered_eff d p scope e))) ≡ only_if u (map (named_literal d p) (fires t c (numbered_eff d p scope e)))
          pick true = refl
          pick false = refl
      eff_numbered scope b c m (Eff.each xs e) h =
          let parts = append_empty (variable_faults d xs) (eff_faults d p (inside (declared xs) scope) e) h in
          ap (λ bs. map (named_literal d p) (flat_map (λ os. fires t (c ++ os) (numbered_eff d p (inside (declared xs) scope) e)) bs)) (bindings_numbered xs)
          ∙ (ap (map (named_literal d p)) (flat_map-map (λ os. fires t (c ++ os) (numbered_eff d p (inside (declared xs) scope) e)) (map (index_of (objects d p))) (object_lists d p xs))
          ∙ (map_flat (named_literal d p) (λ os. fires t (c ++ map (index_of (objects d p)) os) (numbered_eff d p (inside (declared xs) scope) e)) (object_lists d p xs)
          ∙ flat_alike (λ os. map (named_literal d p) (fires t (c ++ map (index_of (objects d p)) os) (numbered_eff d p (inside (declared xs) scope) e))) (λ os. named_steps.fires d p s (bind (declared xs) os b) e) (object_lists d p xs)
          (λ os i.
          let good = object_list_good xs os i in
          eff_numbered (inside (declared xs) scope) (bind (declared xs) os b) (c ++ map (index_of (objects d p)) os) (matches_more scope b c m (declared xs) os good.0 good.1) e parts.1)))
      eff_numbered scope b c m (Eff.makes positive a) h =
          rw (at_index (heads d) a.head.text (among_heads scope a h), terms_named scope b c m a.terms (atom_terms scope a h)) refl

      effs_numbered : (scope : List Name) (b : named.Binding) (c : Binding) → Matches d p scope b c → (es : Effs Word) → effs_faults d p scope es ≡ [] → map (named_literal d p) (all_fire t c (numbered_effs d p scope es)) ≡ named_steps.all_fire d p s b es
      effs_numbered scope b c m Effs.no_eff h = refl
      effs_numbered scope b c m (Effs.more_effs e es) h =
          let parts = append_empty (eff_faults d p scope e) (effs_faults d p scope es) h in
          map-append (named_literal d p) (fires t c (numbered_eff d p scope e)) (all_fire t c (numbered_effs d p scope es))
          ∙ rw (eff_numbered scope b c m e parts.0, effs_numbered scope b c m es parts.1) refl

pub holds_numbered : IsHoldsNumbered
holds_numbered d p s t agree scope b c m x h = cond_numbered d p scope b c m s t agree x h

pub fires_numbered : IsFiresNumbered
fires_numbered d p s t agree scope b c m e h = eff_numbered d p s t agree scope b c m e h
