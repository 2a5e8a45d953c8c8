-- What gathering types one after the other finds: exactly the types below some.
use Rattle.std.proofs.Common.{◌≡◌, ◌+◌, ◌<◌, ◌≤◌, ℕ, Bool, true, false, not, ◌||◌, List, [], ◌∷◌, ◌++◌, length, take, filter, fold, slice_get, Some, None, refl, sym, ap, subst, ◌∙◌, inl, inr, arith}
use Rattle.std.specs.List.{list_any}
use Rattle.std.proofs.lemmas.Bool.{or_cases, or_left, or_right, false≢true}
use Rattle.std.proofs.lemmas.List.{take_all, take_more, take-append-le}
use Rattle.std.proofs.lemmas.List.Folds.{list_any-append}
use Rattle.std.proofs.lemmas.Option.{none-some, slice_get_cases, slice_get_within, get_or_from_slice_get}
use Rattle.kp_tree_grammar.specs.declared.tree.Word.{Word}
use Rattle.kp_tree_grammar.specs.Trees.{Typed}
use Rattle.kp_base.specs.Lists.{Member}
use Rattle.kp_base.proofs.Lists.{same_member, any_member, any_from, any_map, bool_same, same-true, member_at}
use Rattle.kp_names_semantics.specs.Names.{Name, same, is_among, distinct}
use Rattle.kp_names_semantics.specs.Types.{object, names, or_object, types_of, IsBelow, itself, root, parent, onward, is_below}
use Rattle.kp_names_semantics.proofs.Public.{member_is_among, type_test_is_exact}
use Rattle.kp_names_declared.specs.Steps.{with_name, any_among, has_type, under, lines_under, IsClosing, AreBelow}
use Rattle.kp_names_declared.proofs.Gathering.{gathers, among_gathered}
use Rattle.kp_names_declared.proofs.NamesUnderTypes.{put_by, puts_it}

-- the name is there, or `object` is
abbrev pub reaches : List Name → Name → Bool
reaches names k = is_among names k || is_among names object

-- ---- types behind a name

type_there : (ns : List Name) (x : Typed Word) (k : Name) → Member (types_of x) k → is_among ns k ≡ true → has_type ns x ≡ true
type_there ns x k m h = by x.kinds m
  where
    by : (ks : List Word) → Member (or_object (names ks)) k → (is_among ns object || any_among ns ks) ≡ true
    by [] m = elim m [ inl e ↦ or_left (is_among ns object) false (subst (λ z. is_among ns z ≡ true) (sym e) h) | inr r ↦ absurd r ]
    by (w ∷ ws) m = or_right (is_among ns object) (any_among ns (w ∷ ws)) (sym (any_map (λ v. v.text) (is_among ns) (λ v. is_among ns v.text) (w ∷ ws) (λ v. refl)) ∙ any_from (is_among ns) (names (w ∷ ws)) k m h)

pub there_type : (ns : List Name) (x : Typed Word) → has_type ns x ≡ true → (k : Name) × Member (types_of x) k × (reaches ns k ≡ true)
there_type ns x h = by x.kinds h
  where
    by : (ks : List Word) → (is_among ns object || any_among ns ks) ≡ true → (k : Name) × Member (or_object (names ks)) k × (reaches ns k ≡ true)
    by [] h = (object, inl refl, elim (or_cases (is_among ns object) false h) [ inl e ↦ or_left (is_among ns object) (is_among ns object) e | inr e ↦ absurd (false≢true e) ])
    by (w ∷ ws) h = elim (or_cases (is_among ns object) (any_among ns (w ∷ ws)) h) [
      | inl e ↦ (w.text, inl refl, or_right (is_among ns w.text) (is_among ns object) e)
      | inr e ↦
          let r = any_member (is_among ns) (names (w ∷ ws)) (any_map (λ v. v.text) (is_among ns) (λ v. is_among ns v.text) (w ∷ ws) (λ v. refl) ∙ e) in
          (r.0, r.1, or_left (is_among ns r.0) (is_among ns object) r.2)
    ]

pub reached_type : (ns : List Name) (x : Typed Word) (k : Name) → Member (types_of x) k → reaches ns k ≡ true → has_type ns x ≡ true
reached_type ns x k m h = elim (or_cases (is_among ns k) (is_among ns object) h) [
  | inl e ↦ type_there ns x k m e
  | inr e ↦ or_left (is_among ns object) (any_among ns x.kinds) e
]

pub written : (ws : List Word) (k : Name) → Member (names ws) k → Member (or_object (names ws)) k
written [] k m = absurd m
written (w ∷ ws) k m = m

pub past_all : {X : Type 0} (xs : List X) (i : ℕ) → slice_get xs i ≡ None → length xs ≤ i
past_all xs i h = elim (slice_get_cases xs i).1 [ inl there ↦ absurd (none-some there.0 (sym h ∙ there.2)) | inr past ↦ past.0 ]

-- ---- one type after the other

module _ (ps : List (Name × Name)) (old : List Name) where
  -- none was looked at yet
  pub closing_starts : IsClosing ps old 0 old
  closing_starts = record {
    kept = λ x h. h;
    front = λ k x h u. absurd (false≢true h);
    sound = λ q a b x h. a x h;
  }

  -- what stands under one more is added
  pub closing_goes_on : (at : ℕ) (ns : List Name) (n : Name) → slice_get ns at ≡ Some n → IsClosing ps old at ns → IsClosing ps old (at + 1) (fold with_name ns (under ps n))
  closing_goes_on at ns n here c = record {
    kept = λ x h. among_gathered ns (under ps n) x ∙ or_left (is_among ns x) (is_among (under ps n) x) (c.kept x h);
    front = front;
    sound = λ q a b x h. elim (or_cases (is_among ns x) (is_among (under ps n) x) (sym (among_gathered ns (under ps n) x) ∙ h)) [
      | inl e ↦ c.sound q a b x e
      | inr e ↦ b n x (c.sound q a b n (member_is_among ns n (member_at ns at n here))) e
    ];
  }
    where
      more : List Name
      more = filter (λ y. not (is_among ns y)) (distinct (under ps n))

      within : at < length ns
      within = slice_get_within ns at n here

      first : take (at + 1) (fold with_name ns (under ps n)) ≡ take at ns ++ n ∷ []
      first =
          ap (take (at + 1)) (gathers ns (under ps n))
          ∙ (take-append-le (at + 1) ns more (omega (arith, within))
          ∙ (take_more ns at n within ∙ ap (λ z. take at ns ++ z ∷ []) (get_or_from_slice_get ns at n n here)))

      front : (k x : Name) → is_among (take (at + 1) (fold with_name ns (under ps n))) k ≡ true → is_among (under ps k) x ≡ true → is_among (fold with_name ns (under ps n)) x ≡ true
      front k x h u =
          among_gathered ns (under ps n) x
          ∙ elim (or_cases (is_among (take at ns) k) (same k n || false) (sym (list_any-append (same k) (take at ns) (n ∷ [])) ∙ (sym (ap (λ l. is_among l k) first) ∙ h))) [
            | inl e ↦ or_left (is_among ns x) (is_among (under ps n) x) (c.front k x e u)
            | inr e ↦ elim (or_cases (same k n) false e) [
              | inl f ↦ or_right (is_among ns x) (is_among (under ps n) x) (subst (λ z. is_among (under ps z) x ≡ true) (same-true k n f) u)
              | inr f ↦ absurd (false≢true f)
            ]
          ]

  -- all were looked at
  pub closing_ends : (at : ℕ) (ns : List Name) → length ns ≤ at → IsClosing ps old at ns → IsClosing ps old (length ns) ns
  closing_ends at ns le c = record {
    kept = c.kept;
    front = λ k x h u. c.front k x (ap (λ l. is_among l k) (take_all at ns le ∙ sym (take_all (length ns) ns (omega arith))) ∙ h) u;
    sound = c.sound;
  }

-- ---- together

pub closed_below : (kinds : List (Typed Word)) (tops ns : List Name) → IsClosing (lines_under kinds) tops (length ns) ns → AreBelow kinds tops ns
closed_below kinds tops ns c = record { each = λ k. bool_same (reaches ns k) (list_any (is_below kinds k) tops) (there k) (back k) }
  where
    below : Name → Bool
    below k = list_any (is_below kinds k) tops

    at_top : (x : Name) → is_among tops x ≡ true → list_any (is_below kinds x) tops ≡ true
    at_top x h = any_from (is_below kinds x) tops x (same_member same same-true tops x h) ((type_test_is_exact kinds x x).1 itself)

    under_it : (k x : Name) → list_any (is_below kinds k) tops ≡ true → is_among (under (lines_under kinds) k) x ≡ true → list_any (is_below kinds x) tops ≡ true
    under_it k x h u =
        let t = any_member (is_below kinds k) tops h in
        let l = put_by k x kinds u in
        let up : IsBelow kinds x k = subst (λ z. IsBelow kinds z k) l.3 (parent l.0 k l.1 (written l.0.kinds k l.2)) in
        any_from (is_below kinds x) tops t.0 t.1 ((type_test_is_exact kinds x t.0).1 (onward up ((type_test_is_exact kinds k t.0).0 t.2)))

    sound : (x : Name) → is_among ns x ≡ true → list_any (is_below kinds x) tops ≡ true
    sound = c.sound below at_top under_it

    there : (k : Name) → reaches ns k ≡ true → list_any (is_below kinds k) tops ≡ true
    there k h = elim (or_cases (is_among ns k) (is_among ns object) h) [
      | inl e ↦ sound k e
      | inr e ↦
          let t = any_member (is_below kinds object) tops (sound object e) in
          any_from (is_below kinds k) tops t.0 t.1 ((type_test_is_exact kinds k t.0).1 (onward root ((type_test_is_exact kinds object t.0).0 t.2)))
    ]

    reached : (k u : Name) → IsBelow kinds k u → reaches ns u ≡ true → reaches ns k ≡ true
    reached k u itself h = h
    reached k u root h = or_right (is_among ns k) (is_among ns object) (elim (or_cases (is_among ns object) (is_among ns object) h) [ inl e ↦ e | inr e ↦ e ])
    reached k u (parent l p m n) h = elim (or_cases (is_among ns p) (is_among ns object) h) [
      | inl e ↦ by_kinds l.kinds refl n e
      | inr e ↦ or_right (is_among ns l.word.text) (is_among ns object) e
    ]
      where
        by_kinds : (ws : List Word) → l.kinds ≡ ws → Member (or_object (names ws)) p → is_among ns p ≡ true → reaches ns l.word.text ≡ true
        by_kinds [] is n e = elim n [ inl f ↦ or_right (is_among ns l.word.text) (is_among ns object) (subst (λ z. is_among ns z ≡ true) (sym f) e) | inr f ↦ absurd f ]
        by_kinds (w ∷ ws) is n e =
            or_left (is_among ns l.word.text) (is_among ns object)
            (c.front p l.word.text (ap (λ z. is_among z p) (take_all (length ns) ns (omega arith)) ∙ e) (puts_it kinds l p m (subst (λ z. Member (names z) p) (sym is) n)))
    reached k u (onward a b) h = reached k _ a (reached _ u b h)

    back : (k : Name) → list_any (is_below kinds k) tops ≡ true → reaches ns k ≡ true
    back k h =
        let t = any_member (is_below kinds k) tops h in
        reached k t.0 ((type_test_is_exact kinds k t.0).0 t.2) (or_left (is_among ns t.0) (is_among ns object) (c.kept t.0 (member_is_among tops t.0 t.1)))
