-- A type without an object of its own has the objects of the types right under it.
use Rattle.std.proofs.Common.{◌≡◌, ◌+◌, ◌<◌, ℕ, Bool, true, false, ◌&&◌, ◌||◌, List, [], ◌∷◌, length, map, take, get_or, fold, Option, Some, None, refl, sym, ap, subst, ◌∙◌, inl, inr, ◌⊎◌}
use Rattle.std.specs.List.{list_any}
use Rattle.std.proofs.Math.Bool.{or-false}
use Rattle.std.proofs.lemmas.Bool.{and_parts, and_from, false≢true}
use Rattle.std.proofs.lemmas.List.{take_more, map-append}
use Rattle.std.proofs.lemmas.List.Folds.{list_any-append}
use Rattle.kp_tree_grammar.specs.declared.tree.Word.{Word}
use Rattle.kp_tree_grammar.specs.Trees.{Typed, Domain, Problem}
use Rattle.kp_base.specs.Lists.{Member}
use Rattle.kp_base.proofs.Lists.{bool_same, any_member, any_from, same_member, same-true, member_flat_map}
use Rattle.kp_names_semantics.specs.Names.{Name, same, is_among}
use Rattle.kp_names_semantics.specs.Types.{object, names, or_object, types_of, IsBelow, itself, root, parent, onward, is_below, object_lines, is_of_type}
use Rattle.kp_names_semantics.proofs.Public.{type_test_is_exact, member_is_among}
use Rattle.kp_names_declared.specs.Steps.{with_name, own_types, lines_under, under}
use Rattle.kp_names_declared.proofs.Public.{among_all, gathered_member, member_gathered, put_by, puts_it}
use Rattle.kp_names_numbered.specs.Alike.{of_found, fits}

-- ---- types behind a name

-- another type than `object` is written there
written : (ws : List Word) (k : Name) → (k ≡ object → ⊥) → Member (or_object (names ws)) k → Member (names ws) k
written [] k other (inl e) = absurd (other (sym e))
written [] k other (inr m) = absurd m
written (w ∷ ws) k other m = m

-- and what is written there is one of them
behind : (ws : List Word) (k : Name) → Member (names ws) k → Member (or_object (names ws)) k
behind [] k m = absurd m
behind (w ∷ ws) k m = m

-- ---- a type other than `object`, with no object of its own

module _ (d : Domain Word) (p : Problem Word) (t : Name) (other : t ≡ object → ⊥) (own : (x : Typed Word) → Member (object_lines d p) x → Member (names x.kinds) t → ⊥) where
  -- it is below one of those under the type
  abbrev IsBelowOne : Name → Type 0
  IsBelowOne a = (c : Name) × (is_among (under (lines_under d.kinds) t) c ≡ true) × IsBelow d.kinds a c

  -- what is below the type is the type, or below one of those under it
  below_either : (a u : Name) → IsBelow d.kinds a u → (u ≡ t) ⊎ IsBelowOne u → (a ≡ t) ⊎ IsBelowOne a
  below_either a u itself h = h
  below_either a u root (inl e) = absurd (other (sym e))
  below_either a u root (inr b) = inr (b.0, b.1, onward root b.2)
  below_either a u (parent x q m k) (inl e) = inr (x.word.text, puts_it d.kinds x t m (written x.kinds t other (subst (Member (types_of x)) e k)), itself)
  below_either a u (parent x q m k) (inr b) = inr (b.0, b.1, onward (parent x q m k) b.2)
  below_either a v (onward {u = u} f g) h = below_either a u f (below_either u v g h)

  -- one of those under it is below it
  under_it : (c : Name) → is_among (under (lines_under d.kinds) t) c ≡ true → IsBelow d.kinds c t
  under_it c m =
      let l = put_by t c d.kinds m in
      subst (λ z. IsBelow d.kinds z t) l.3 (parent l.0 t l.1 (behind l.0.kinds t l.2))

  -- an object is of the type where it is of one of those under it
  pub of_those_under : (o : Name) → is_of_type d p o t ≡ list_any (is_of_type d p o) (under (lines_under d.kinds) t)
  of_those_under o = bool_same (is_of_type d p o t) (list_any (is_of_type d p o) (under (lines_under d.kinds) t)) there back
    where
      is_it : Name → Typed Word → Bool
      is_it u x = same x.word.text o && list_any (λ k. is_below d.kinds k u) (types_of x)

      it_is : (u : Name) (x : Typed Word) (k : Name) → Member (object_lines d p) x → same x.word.text o ≡ true → Member (types_of x) k → IsBelow d.kinds k u → is_of_type d p o u ≡ true
      it_is u x k m s n b = any_from (is_it u) (object_lines d p) x m (and_from (same x.word.text o) (list_any (λ k. is_below d.kinds k u) (types_of x)) s (any_from (λ k. is_below d.kinds k u) (types_of x) k n ((type_test_is_exact d.kinds k u).1 b)))

      there : is_of_type d p o t ≡ true → list_any (is_of_type d p o) (under (lines_under d.kinds) t) ≡ true
      there h =
          let x = any_member (is_it t) (object_lines d p) h in
          let parts = and_parts (same x.0.word.text o) (list_any (λ k. is_below d.kinds k t) (types_of x.0)) x.2 in
          let k = any_member (λ k. is_below d.kinds k t) (types_of x.0) parts.1 in
          elim (below_either k.0 t ((type_test_is_exact d.kinds k.0 t).0 k.2) (inl refl)) [
            | inl e ↦ absurd (own x.0 x.1 (written x.0.kinds t other (subst (Member (types_of x.0)) e k.1)))
            | inr b ↦
                any_from (is_of_type d p o) (under (lines_under d.kinds) t) b.0 (same_member same same-true (under (lines_under d.kinds) t) b.0 b.1)
                (it_is b.0 x.0 k.0 x.1 parts.0 k.1 b.2)
          ]

      back : list_any (is_of_type d p o) (under (lines_under d.kinds) t) ≡ true → is_of_type d p o t ≡ true
      back h =
          let c = any_member (is_of_type d p o) (under (lines_under d.kinds) t) h in
          let x = any_member (is_it c.0) (object_lines d p) c.2 in
          let parts = and_parts (same x.0.word.text o) (list_any (λ k. is_below d.kinds k c.0) (types_of x.0)) x.2 in
          let k = any_member (λ k. is_below d.kinds k c.0) (types_of x.0) parts.1 in
          it_is t x.0 k.0 x.1 parts.0 k.1 (onward ((type_test_is_exact d.kinds k.0 c.0).0 k.2) (under_it c.0 (member_is_among (under (lines_under d.kinds) t) c.0 c.1)))

-- ---- those that are gathered

-- what is true of one of some names is true of one of those gathered
any_gathered : (f : Name → Bool) (xs : List Name) → list_any f (fold with_name [] xs) ≡ list_any f xs
any_gathered f xs =
    bool_same (list_any f (fold with_name [] xs)) (list_any f xs)
    (λ h. let r = any_member f (fold with_name [] xs) h in any_from f xs r.0 (gathered_member xs r.0 r.1) r.2)
    (λ h. let r = any_member f xs h in any_from f (fold with_name [] xs) r.0 (member_gathered xs r.0 r.1) r.2)

-- a type that isn't among `object` and those of objects has the objects of those gathered from under it
pub settled : (d : Domain Word) (p : Problem Word) (t : Name) → is_among (fold with_name [] (own_types d p)) t ≡ false → (o : Name)
    → is_of_type d p o t ≡ list_any (is_of_type d p o) (fold with_name [] (under (lines_under d.kinds) t))
settled d p t out o = of_those_under d p t other own o ∙ sym (any_gathered (is_of_type d p o) (under (lines_under d.kinds) t))
  where
    none : Member (own_types d p) t → ⊥
    none m = absurd (false≢true (sym (sym (among_all (own_types d p) t) ∙ out) ∙ member_is_among (own_types d p) t m))

    other : t ≡ object → ⊥
    other e = none (inl (sym e))

    own : (x : Typed Word) → Member (object_lines d p) x → Member (names x.kinds) t → ⊥
    own x m n = none (inr (member_flat_map (λ x. names x.kinds) (object_lines d p) x t m n))

-- ---- one type to which some lead

module _ {V : Type 0} (now : V → Name) (f : Name → Bool) (vs : List V) (i : ℕ) (v : V) (o : Option Name) (within : i < length vs) (h : list_any f (map now (take i vs)) ≡ of_found f o) where
  one_more : list_any f (map now (take (i + 1) vs)) ≡ (of_found f o || f (now (get_or vs i v)))
  one_more =
      ap (λ l. list_any f (map now l)) (take_more vs i v within)
      ∙ (ap (list_any f) (map-append now (take i vs) (get_or vs i v ∷ []))
      ∙ (list_any-append f (map now (take i vs)) (now (get_or vs i v) ∷ [])
      ∙ (ap (λ b. b || (f (now (get_or vs i v)) || false)) h ∙ ap (λ b. of_found f o || b) (or-false (f (now (get_or vs i v)))))))

  -- one more of which it isn't true
  pub one_without : f (now (get_or vs i v)) ≡ false → list_any f (map now (take (i + 1) vs)) ≡ of_found f o
  one_without none = one_more ∙ (ap (λ b. of_found f o || b) none ∙ or-false (of_found f o))

  -- one more that leads to a type, where none was found or the same
  pub one_with : (c : Name) → fits o c ≡ true → f (now (get_or vs i v)) ≡ f c → list_any f (map now (take (i + 1) vs)) ≡ f c
  one_with c one e = one_more ∙ (ap (λ b. of_found f o || b) e ∙ by o one)
    where
      twice : (b : Bool) → (b || b) ≡ b
      twice true = refl
      twice false = refl

      by : (o : Option Name) → fits o c ≡ true → (of_found f o || f c) ≡ f c
      by None one = refl
      by (Some b) one = ap (λ z. f z || f c) (same-true b c one) ∙ twice (f c)
