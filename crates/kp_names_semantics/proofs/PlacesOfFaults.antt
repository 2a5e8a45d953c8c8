-- Whether a tree has a fault doesn't depend on where its words stand.
use Rattle.std.proofs.Common.{◌≡◌, Bool, true, false, not, ◌&&◌, ◌==◌, List, [], ◌∷◌, ◌++◌, refl, sym, ap, ◌∙◌, Option, Some, None, option_map, map, length}
use Rattle.std.specs.List.{flat_map}
use Rattle.std.proofs.lemmas.Bool.{false≢true}
use Rattle.kp_tree_grammar.specs.declared.tree.Word.{Word}
use Rattle.kp_tree_grammar.specs.Trees.{Typed, Term, Atom, Cond, Conds, Eff, Effs, Lit, Item, Items, Pred, Schema, Domain, Problem}
use Rattle.kp_tree_grammar.specs.TreeMaps.{typed_map, term_map, atom_map, cond_map, conds_map, eff_map, effs_map, lit_map, item_map, items_map, pred_map, schema_map, domain_map, problem_map}
use Rattle.kp_base.specs.Lists.{only_if}
use Rattle.kp_base.proofs.Parts.{find_map}
use Rattle.kp_names_semantics.specs.Names.{Name, same, is_among}
use Rattle.kp_names_semantics.specs.Types.{names, declared, types, object, object_lines}
use Rattle.kp_names_semantics.specs.Faults.{Fault, unknown_name, declared_twice, wrong_use, unless_among, repeated, twice_in, words, type_faults, variable_faults, inside, term_faults, predicate_of, head_faults, atom_faults, cond_faults, conds_faults, eff_faults, effs_faults, schema_faults, lit_faults, item_faults, items_faults, predicate_faults, domain_faults, problem_faults, HasNoFault}
use Rattle.kp_names_semantics.specs.Places.{KeepsTexts, PlacesMeanNothing}
use Rattle.std.proofs.lemmas.List.{length-map}
use Rattle.kp_names_semantics.proofs.Places.{declared_kept, names_kept, lines_kept, solves_there, solves_back}

-- no fault is in the list
abbrev clean : List Fault → Bool
clean [] = true
clean (x ∷ xs) = false

clean_append : (xs ys : List Fault) → clean (xs ++ ys) ≡ (clean xs && clean ys)
clean_append [] ys = refl
clean_append (x ∷ xs) ys = refl

clean_only : (t : Bool) (x : Fault) → clean (only_if t (x ∷ [])) ≡ not t
clean_only true x = refl
clean_only false x = refl

both : (xs us ys vs : List Fault) → clean xs ≡ clean us → clean ys ≡ clean vs → clean (xs ++ ys) ≡ clean (us ++ vs)
both xs us ys vs e g = rw (clean_append xs ys, clean_append us vs, e, g) refl

only : (t u : Bool) (x y : Fault) → t ≡ u → clean (only_if t (x ∷ [])) ≡ clean (only_if u (y ∷ []))
only t u x y e = clean_only t x ∙ (ap not e ∙ sym (clean_only u y))

each_clean : {X Y : Type 0} (m : X → Y) (g : Y → List Fault) (h : X → List Fault) (xs : List X) → ((x : X) → clean (g (m x)) ≡ clean (h x)) → clean (flat_map g (map m xs)) ≡ clean (flat_map h xs)
each_clean m g h [] e = refl
each_clean m g h (x ∷ xs) e = both (g (m x)) (h x) (flat_map g (map m xs)) (flat_map h xs) (e x) (each_clean m g h xs e)

from_clean : (xs : List Fault) → clean xs ≡ true → xs ≡ []
from_clean [] h = refl
from_clean (x ∷ xs) h = absurd (false≢true h)

module _ (f : Word → Word) (keep : KeepsTexts f) where
  word_kept : (xs ys : List Name) (w : Word) → xs ≡ ys → clean (unless_among xs (f w)) ≡ clean (unless_among ys w)
  word_kept xs ys w e = only (not (is_among xs (f w).text)) (not (is_among ys w.text)) (unknown_name (f w).byte) (unknown_name w.byte) (ap (λ z. not (is_among z (f w).text)) e ∙ ap (λ z. not (is_among ys z)) (keep w))

  repeated_kept : (ns : List Name) (ws : List Word) → clean (repeated ns (map f ws)) ≡ clean (repeated ns ws)
  repeated_kept ns [] = refl
  repeated_kept ns (w ∷ ws) =
      both (only_if (is_among ns (f w).text) (declared_twice (f w).byte ∷ [])) (only_if (is_among ns w.text) (declared_twice w.byte ∷ [])) (repeated ((f w).text ∷ ns) (map f ws)) (repeated (w.text ∷ ns) ws)
      (only (is_among ns (f w).text) (is_among ns w.text) (declared_twice (f w).byte) (declared_twice w.byte) (ap (is_among ns) (keep w)))
      (ap (λ z. clean (repeated (z ∷ ns) (map f ws))) (keep w) ∙ repeated_kept (w.text ∷ ns) ws)

  words_kept : (xs : List (Typed Word)) → words (map (typed_map f) xs) ≡ map f (words xs)
  words_kept [] = refl
  words_kept (x ∷ xs) = ap (λ z. f x.word ∷ z) (words_kept xs)

  twice_kept : (xs : List (Typed Word)) → clean (twice_in (words (map (typed_map f) xs))) ≡ clean (twice_in (words xs))
  twice_kept xs = ap (λ z. clean (twice_in z)) (words_kept xs) ∙ repeated_kept [] (words xs)

  types_kept : (d : Domain Word) → types (domain_map f d) ≡ types d
  types_kept d = ap (λ z. object ∷ z) (go d.kinds)
    where
      go : (xs : List (Typed Word)) → flat_map (λ x. x.word.text ∷ names x.kinds) (map (typed_map f) xs) ≡ flat_map (λ x. x.word.text ∷ names x.kinds) xs
      go [] = refl
      go (x ∷ xs) = rw (keep x.word, names_kept f keep x.kinds, go xs) refl

  module _ (d : Domain Word) (p : Problem Word) where
    type_faults_kept : (xs : List (Typed Word)) → clean (type_faults (domain_map f d) (map (typed_map f) xs)) ≡ clean (type_faults d xs)
    type_faults_kept xs =
        each_clean (typed_map f) (λ x. flat_map (unless_among (types (domain_map f d))) x.kinds) (λ x. flat_map (unless_among (types d)) x.kinds) xs
        (λ x. each_clean f (unless_among (types (domain_map f d))) (unless_among (types d)) x.kinds (λ w. word_kept (types (domain_map f d)) (types d) w (types_kept d)))

    variable_faults_kept : (xs : List (Typed Word)) → clean (variable_faults (domain_map f d) (map (typed_map f) xs)) ≡ clean (variable_faults d xs)
    variable_faults_kept xs = both (type_faults (domain_map f d) (map (typed_map f) xs)) (type_faults d xs) (twice_in (words (map (typed_map f) xs))) (twice_in (words xs)) (type_faults_kept xs) (twice_kept xs)

    objects_known : declared (object_lines (domain_map f d) (problem_map f p)) ≡ declared (object_lines d p)
    objects_known = ap declared (lines_kept f keep d p) ∙ declared_kept f keep (object_lines d p)

    term_kept : (scope : List Name) (t : Term Word) → clean (term_faults (domain_map f d) (problem_map f p) scope (term_map f t)) ≡ clean (term_faults d p scope t)
    term_kept scope (Term.name w) = word_kept (declared (object_lines (domain_map f d) (problem_map f p))) (declared (object_lines d p)) w objects_known
    term_kept scope (Term.variable w) = word_kept scope scope w refl

    predicate_kept : (a : Atom Word) → predicate_of (domain_map f d) (atom_map f a) ≡ option_map (pred_map f) (predicate_of d a)
    predicate_kept a = find_map (pred_map f) (λ q. same q.head.text (f a.head).text) (λ q. same q.head.text a.head.text) d.predicates (λ q. rw (keep q.head, keep a.head) refl)

    head_kept : (o : Option (Pred Word)) (a : Atom Word) → clean (head_faults (option_map (pred_map f) o) (atom_map f a)) ≡ clean (head_faults o a)
    head_kept None a = refl
    head_kept (Some q) a = only (not (length (map (typed_map f) q.params) == length (map (term_map f) a.terms))) (not (length q.params == length a.terms)) (wrong_use (f a.head).byte) (wrong_use a.head.byte) (rw (length-map q.params (typed_map f), length-map a.terms (term_map f)) refl)

    atom_kept : (scope : List Name) (a : Atom Word) → clean (atom_faults (domain_map f d) (problem_map f p) scope (atom_map f a)) ≡ clean (atom_faults d p scope a)
    atom_kept scope a =
        both (head_faults (predicate_of (domain_map f d) (atom_map f a)) (atom_map f a)) (head_faults (predicate_of d a) a) (flat_map (term_faults (domain_map f d) (problem_map f p) scope) (map (term_map f) a.terms)) (flat_map (term_faults d p scope) a.terms)
        (ap (λ o. clean (head_faults o (atom_map f a))) (predicate_kept a) ∙ head_kept (predicate_of d a) a)
        (each_clean (term_map f) (term_faults (domain_map f d) (problem_map f p) scope) (term_faults d p scope) a.terms (term_kept scope))

    mutual
      cond_kept : (scope : List Name) (c : Cond Word) → clean (cond_faults (domain_map f d) (problem_map f p) scope (cond_map f c)) ≡ clean (cond_faults d p scope c)
      cond_kept scope (Cond.all cs) = conds_kept scope cs
      cond_kept scope (Cond.atom positive a) = atom_kept scope a
      cond_kept scope (Cond.same positive left right) = both (term_faults (domain_map f d) (problem_map f p) scope (term_map f left)) (term_faults d p scope left) (term_faults (domain_map f d) (problem_map f p) scope (term_map f right)) (term_faults d p scope right) (term_kept scope left) (term_kept scope right)

      conds_kept : (scope : List Name) (cs : Conds Word) → clean (conds_faults (domain_map f d) (problem_map f p) scope (conds_map f cs)) ≡ clean (conds_faults d p scope cs)
      conds_kept scope Conds.no_cond = refl
      conds_kept scope (Conds.more_conds c cs) = both (cond_faults (domain_map f d) (problem_map f p) scope (cond_map f c)) (cond_faults d p scope c) (conds_faults (domain_map f d) (problem_map f p) scope (conds_map f cs)) (conds_faults d p scope cs) (cond_kept scope c) (conds_kept scope cs)

    mutual
      eff_kept : (scope : List Name) (e : Eff Word) → clean (eff_faults (domain_map f d) (problem_map f p) scope (eff_map f e)) ≡ clean (eff_faults d p scope e)
      eff_kept scope (Eff.both es) = effs_kept scope es
      eff_kept scope (Eff.when c e) = both (cond_faults (domain_map f d) (problem_map f p) scope (cond_map f c)) (cond_faults d p scope c) (eff_faults (domain_map f d) (problem_map f p) scope (eff_map f e)) (eff_faults d p scope e) (cond_kept scope c) (eff_kept scope e)
      eff_kept scope (Eff.each xs e) =
          both (variable_faults (domain_map f d) (map (typed_map f) xs)) (variable_faults d xs) (eff_faults (domain_map f d) (problem_map f p) (inside (declared (map (typed_map f) xs)) scope) (eff_map f e)) (eff_faults d p (inside (declared xs) scope) e)
          (variable_faults_kept xs)
          (ap (λ z. clean (eff_faults (domain_map f d) (problem_map f p) (inside z scope) (eff_map f e))) (declared_kept f keep xs) ∙ eff_kept (inside (declared xs) scope) e)
      eff_kept scope (Eff.makes positive a) = atom_kept scope a

      effs_kept : (scope : List Name) (es : Effs Word) → clean (effs_faults (domain_map f d) (problem_map f p) scope (effs_map f es)) ≡ clean (effs_faults d p scope es)
      effs_kept scope Effs.no_eff = refl
      effs_kept scope (Effs.more_effs e es) = both (eff_faults (domain_map f d) (problem_map f p) scope (eff_map f e)) (eff_faults d p scope e) (effs_faults (domain_map f d) (problem_map f p) scope (effs_map f es)) (effs_faults d p scope es) (eff_kept scope e) (effs_kept scope es)

    schema_faults_kept : (a : Schema Word) → clean (schema_faults (domain_map f d) (problem_map f p) (schema_map f a)) ≡ clean (schema_faults d p a)
    schema_faults_kept a = rw (declared_kept f keep a.params)
        (both (variable_faults (domain_map f d) (map (typed_map f) a.params)) (variable_faults d a.params)
        (cond_faults (domain_map f d) (problem_map f p) (inside (declared a.params) []) (cond_map f a.pre) ++ eff_faults (domain_map f d) (problem_map f p) (inside (declared a.params) []) (eff_map f a.effect))
        (cond_faults d p (inside (declared a.params) []) a.pre ++ eff_faults d p (inside (declared a.params) []) a.effect)
        (variable_faults_kept a.params)
        (both (cond_faults (domain_map f d) (problem_map f p) (inside (declared a.params) []) (cond_map f a.pre)) (cond_faults d p (inside (declared a.params) []) a.pre) (eff_faults (domain_map f d) (problem_map f p) (inside (declared a.params) []) (eff_map f a.effect)) (eff_faults d p (inside (declared a.params) []) a.effect)
        (cond_kept (inside (declared a.params) []) a.pre) (eff_kept (inside (declared a.params) []) a.effect)))

    lit_kept : (l : Lit Word) → clean (lit_faults (domain_map f d) (problem_map f p) (lit_map f l)) ≡ clean (lit_faults d p l)
    lit_kept l = atom_kept [] l.atom

    mutual
      item_kept : (i : Item Word) → clean (item_faults (domain_map f d) (problem_map f p) (item_map f i)) ≡ clean (item_faults d p i)
      item_kept (Item.items is) = items_faults_kept is
      item_kept (Item.fact positive a) = atom_kept [] a
      item_kept (Item.one_of w ls) = each_clean (lit_map f) (lit_faults (domain_map f d) (problem_map f p)) (lit_faults d p) ls lit_kept
      item_kept (Item.any_of w ls) = each_clean (lit_map f) (lit_faults (domain_map f d) (problem_map f p)) (lit_faults d p) ls lit_kept
      item_kept (Item.unknown w a) = atom_kept [] a

      items_faults_kept : (is : Items Word) → clean (items_faults (domain_map f d) (problem_map f p) (items_map f is)) ≡ clean (items_faults d p is)
      items_faults_kept Items.no_item = refl
      items_faults_kept (Items.more_items i is) = both (item_faults (domain_map f d) (problem_map f p) (item_map f i)) (item_faults d p i) (items_faults (domain_map f d) (problem_map f p) (items_map f is)) (items_faults d p is) (item_kept i) (items_faults_kept is)

    heads_kept : (qs : List (Pred Word)) → map (λ q. q.head) (map (pred_map f) qs) ≡ map f (map (λ q. q.head) qs)
    heads_kept [] = refl
    heads_kept (q ∷ qs) = ap (λ z. f q.head ∷ z) (heads_kept qs)

    schema_names_kept : (as' : List (Schema Word)) → map (λ a. a.name) (map (schema_map f) as') ≡ map f (map (λ a. a.name) as')
    schema_names_kept [] = refl
    schema_names_kept (a ∷ as') = ap (λ z. f a.name ∷ z) (schema_names_kept as')

    predicate_faults_kept : (qs : List (Pred Word)) → clean (predicate_faults (map (pred_map f) qs)) ≡ clean (predicate_faults qs)
    predicate_faults_kept qs =
        both (twice_in (map (λ q. q.head) (map (pred_map f) qs))) (twice_in (map (λ q. q.head) qs)) (flat_map (λ q. twice_in (words q.params)) (map (pred_map f) qs)) (flat_map (λ q. twice_in (words q.params)) qs)
        (ap (λ z. clean (twice_in z)) (heads_kept qs) ∙ repeated_kept [] (map (λ q. q.head) qs))
        (each_clean (pred_map f) (λ q. twice_in (words q.params)) (λ q. twice_in (words q.params)) qs (λ q. twice_kept q.params))

    domain_kept : clean (domain_faults (domain_map f d) (problem_map f p)) ≡ clean (domain_faults d p)
    domain_kept =
        both (type_faults (domain_map f d) (map (typed_map f) d.constants)) (type_faults d d.constants)
        (predicate_faults (map (pred_map f) d.predicates) ++ (twice_in (map (λ a. a.name) (map (schema_map f) d.schemas)) ++ flat_map (schema_faults (domain_map f d) (problem_map f p)) (map (schema_map f) d.schemas)))
        (predicate_faults d.predicates ++ (twice_in (map (λ a. a.name) d.schemas) ++ flat_map (schema_faults d p) d.schemas))
        (type_faults_kept d.constants)
        (both (predicate_faults (map (pred_map f) d.predicates)) (predicate_faults d.predicates)
        (twice_in (map (λ a. a.name) (map (schema_map f) d.schemas)) ++ flat_map (schema_faults (domain_map f d) (problem_map f p)) (map (schema_map f) d.schemas))
        (twice_in (map (λ a. a.name) d.schemas) ++ flat_map (schema_faults d p) d.schemas)
        (predicate_faults_kept d.predicates)
        (both (twice_in (map (λ a. a.name) (map (schema_map f) d.schemas))) (twice_in (map (λ a. a.name) d.schemas)) (flat_map (schema_faults (domain_map f d) (problem_map f p)) (map (schema_map f) d.schemas)) (flat_map (schema_faults d p) d.schemas) names_once schemas_clean))
      where
        names_once : clean (twice_in (map (λ a. a.name) (map (schema_map f) d.schemas))) ≡ clean (twice_in (map (λ a. a.name) d.schemas))
        names_once = ap (λ z. clean (twice_in z)) (schema_names_kept d.schemas) ∙ repeated_kept [] (map (λ a. a.name) d.schemas)

        schemas_clean : clean (flat_map (schema_faults (domain_map f d) (problem_map f p)) (map (schema_map f) d.schemas)) ≡ clean (flat_map (schema_faults d p) d.schemas)
        schemas_clean = each_clean (schema_map f) (schema_faults (domain_map f d) (problem_map f p)) (schema_faults d p) d.schemas schema_faults_kept

    problem_kept : clean (problem_faults (domain_map f d) (problem_map f p)) ≡ clean (problem_faults d p)
    problem_kept =
        both (type_faults (domain_map f d) (map (typed_map f) p.objects)) (type_faults d p.objects)
        (flat_map (item_faults (domain_map f d) (problem_map f p)) (map (item_map f) p.init) ++ cond_faults (domain_map f d) (problem_map f p) [] (cond_map f p.goal)) (flat_map (item_faults d p) p.init ++ cond_faults d p [] p.goal)
        (type_faults_kept p.objects)
        (both (flat_map (item_faults (domain_map f d) (problem_map f p)) (map (item_map f) p.init)) (flat_map (item_faults d p) p.init) (cond_faults (domain_map f d) (problem_map f p) [] (cond_map f p.goal)) (cond_faults d p [] p.goal)
        (each_clean (item_map f) (item_faults (domain_map f d) (problem_map f p)) (item_faults d p) p.init item_kept)
        (cond_kept [] p.goal))

    faultless_there : HasNoFault d p → HasNoFault (domain_map f d) (problem_map f p)
    faultless_there h = record {
      domain = from_clean (domain_faults (domain_map f d) (problem_map f p)) (domain_kept ∙ ap clean h.domain);
      problem = from_clean (problem_faults (domain_map f d) (problem_map f p)) (problem_kept ∙ ap clean h.problem);
    }

    faultless_back : HasNoFault (domain_map f d) (problem_map f p) → HasNoFault d p
    faultless_back h = record {
      domain = from_clean (domain_faults d p) (sym domain_kept ∙ ap clean h.domain);
      problem = from_clean (problem_faults d p) (sym problem_kept ∙ ap clean h.problem);
    }

pub places_mean_nothing : PlacesMeanNothing
places_mean_nothing f keep d p = record {
  faults = (faultless_there f keep d p, faultless_back f keep d p);
  plans = λ steps. (solves_there f keep d p steps, solves_back f keep d p steps);
}
