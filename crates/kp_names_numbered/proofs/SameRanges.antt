-- Types that have the same objects: their ranges, and one more type.
use Rattle.std.proofs.Common.{◌≡◌, ◌+◌, ◌<◌, ℕ, Bool, true, false, ◌&&◌, ◌||◌, if◌then◌else◌, List, [], ◌∷◌, ◌++◌, length, map, filter, take, get_or, slice_get, Option, Some, None, IfSome, refl, sym, ap, ◌∙◌}
use Rattle.std.specs.Option.{option_map}
use Rattle.std.specs.List.{list_any}
use Rattle.std.proofs.Math.Bool.{or-false}
use Rattle.std.proofs.lemmas.Bool.{and_parts, or_left, false≢true}
use Rattle.std.proofs.lemmas.List.{take_more, map-append}
use Rattle.std.proofs.lemmas.List.Folds.{list_any-append}
use Rattle.kp_tree_grammar.specs.declared.tree.Word.{Word}
use Rattle.kp_tree_grammar.specs.Trees.{Domain, Problem}
use Rattle.kp_base.proofs.Lists.{any_from, any_member, same_member, same-true}
use Rattle.kp_names_semantics.specs.Names.{Name, same, is_among}
use Rattle.kp_names_semantics.specs.Numbering.{index_of}
use Rattle.kp_names_semantics.specs.Types.{names, types_of, object_lines, objects, is_below, is_of_type}
use Rattle.kp_names_semantics.proofs.Public.{type_test_is_exact}
use Rattle.kp_names_declared.specs.Steps.{range_of, with_name, HoldTypes}
use Rattle.kp_names_numbered.specs.Alike.{HaveSame}

-- ---- lists

-- what is true of one of some names is true of one of these, once one more is among them
any_with : (f : Name → Bool) (xs : List Name) (x : Name) → list_any f (with_name xs x) ≡ (list_any f xs || f x)
any_with f xs x = by (is_among xs x) refl
  where
    covered : (b : Bool) → f x ≡ b → is_among xs x ≡ true → list_any f xs ≡ (list_any f xs || f x)
    covered true e is = let there = any_from f xs x (same_member same same-true xs x is) e in there ∙ sym (or_left (list_any f xs) (f x) there)
    covered false e is = sym (ap (λ b. list_any f xs || b) e ∙ or-false (list_any f xs))

    by : (b : Bool) → is_among xs x ≡ b → list_any f (if b then xs else xs ++ x ∷ []) ≡ (list_any f xs || f x)
    by true is = covered (f x) refl is
    by false is = list_any-append f xs (x ∷ []) ∙ ap (λ b. list_any f xs || b) (or-false (f x))

-- the first of some names, where there is just one
pub only_one : {V : Type 0} (now : V → Name) (o : Option V) (xs : List Name) → length xs ≡ 1 → option_map now o ≡ slice_get xs 0 → IfSome o (λ n. xs ≡ now n ∷ [])
only_one now None xs one is = tt
only_one now (Some n) [] one is = cc
only_one now (Some n) (x ∷ []) one is = let first : now n ≡ x = cc in ap (λ z. z ∷ []) (sym first)
only_one now (Some n) (x ∷ y ∷ xs) one is = cc

-- the names of one more word
pub names_more : (ws : List Word) (i : ℕ) (w : Word) → i < length ws → w ≡ get_or ws i w → names (take (i + 1) ws) ≡ names (take i ws) ++ w.text ∷ []
names_more ws i w lt at = ap names (take_more ws i w lt ∙ ap (λ z. take i ws ++ z ∷ []) (sym at)) ∙ map-append (λ v. v.text) (take i ws) (w ∷ [])

module _ (d : Domain Word) (p : Problem Word) where
  -- ---- ranges

  filters : (f g : Name → Bool) → ((o : Name) → f o ≡ g o) → (os : List Name) → filter f os ≡ filter g os
  filters f g h [] = refl
  filters f g h (o ∷ os) = rw (h o, filters f g h os) refl

  -- they have one range
  pub same_range : (ts us : List Name) → HaveSame d p ts us → range_of d p ts ≡ range_of d p us
  same_range ts us h = ap (map (index_of (objects d p))) (filters (λ o. list_any (is_of_type d p o) ts) (λ o. list_any (is_of_type d p o) us) h.each (objects d p))

  -- no type has no objects
  no_objects : (os : List Name) → filter (λ o. list_any (is_of_type d p o) []) os ≡ []
  no_objects [] = refl
  no_objects (o ∷ os) = no_objects os

  -- a type that isn't held with those of objects has none
  pub none_of_it : (ns : List Name) → HoldTypes d p ns → (t : Name) → is_among ns t ≡ false → (o : Name) → is_of_type d p o t ≡ false
  none_of_it ns held t out o = by (is_of_type d p o t) refl
    where
      by : (b : Bool) → is_of_type d p o t ≡ b → is_of_type d p o t ≡ false
      by false e = e
      by true e =
          let x = any_member (λ x. same x.word.text o && list_any (λ k. is_below d.kinds k t) (types_of x)) (object_lines d p) e in
          let parts = and_parts (same x.0.word.text o) (list_any (λ k. is_below d.kinds k t) (types_of x.0)) x.2 in
          let k = any_member (λ k. is_below d.kinds k t) (types_of x.0) parts.1 in
          absurd (false≢true (sym out ∙ held.above k.0 t ((type_test_is_exact d.kinds k.0 t).0 k.2) (held.own x.0 k.0 x.1 k.1)))

  pub empty_range : (ns : List Name) → HoldTypes d p ns → (t : Name) → is_among ns t ≡ false → range_of d p (t ∷ []) ≡ []
  empty_range ns held t out = same_range (t ∷ []) [] (record { each = λ o. ap (λ b. b || false) (none_of_it ns held t out o) }) ∙ ap (map (index_of (objects d p))) (no_objects (objects d p))

  -- ---- lists of types

  pub same_one : (t u : Name) → ((o : Name) → is_of_type d p o t ≡ is_of_type d p o u) → HaveSame d p (t ∷ []) (u ∷ [])
  same_one t u h = record { each = λ o. ap (λ b. b || false) (h o) }

  -- none and none
  pub same_none : HaveSame d p [] []
  same_none = record { each = λ o. refl }

  -- one more on either side, with the same objects
  pub one_more : (us ts : List Name) (t u : Name) → ((o : Name) → is_of_type d p o t ≡ is_of_type d p o u) → HaveSame d p us ts → HaveSame d p (with_name us u) (ts ++ t ∷ [])
  one_more us ts t u h all = record {
    each = λ o. any_with (is_of_type d p o) us u
        ∙ (ap (λ b. b || is_of_type d p o u) (all.each o)
        ∙ (ap (λ b. list_any (is_of_type d p o) ts || b) (sym (h o) ∙ sym (or-false (is_of_type d p o t)))
        ∙ sym (list_any-append (is_of_type d p o) ts (t ∷ []))));
  }

  -- one more that has none
  pub none_more : (us ts : List Name) (t : Name) → ((o : Name) → is_of_type d p o t ≡ false) → HaveSame d p us ts → HaveSame d p us (ts ++ t ∷ [])
  none_more us ts t none all = record {
    each = λ o. all.each o
        ∙ sym (list_any-append (is_of_type d p o) ts (t ∷ []) ∙ (ap (λ b. list_any (is_of_type d p o) ts || (b || false)) (none o) ∙ or-false (list_any (is_of_type d p o) ts)));
  }
