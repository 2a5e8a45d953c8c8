-- When literals are compatible with one more atom, and so when an effect breaks a pair.
use Rattle.std.proofs.Common.{◌≡◌, ◌⊎◌, ℕ, Bool, true, false, not, ◌&&◌, ◌||◌, List, [], ◌∷◌, ◌++◌, inl, inr, refl, sym, ap, ap₂, subst, ◌∙◌}
use Rattle.std.proofs.lemmas.Bool.{and_parts, and_from, or_cases, or_left, or_right, false≢true, false_from_ne_true, true_from_ne_false, not-true}
use Rattle.std.proofs.lemmas.List.{append_assoc}
use Rattle.std.proofs.lemmas.List.Folds.{list_any-append}
use Rattle.std.specs.List.{list_any, list_all}
use Rattle.kp_base.specs.declared.lit.Lit.{Lit}
use Rattle.kp_base.specs.declared.ground.Effect.{Effect}
use Rattle.kp_base.specs.declared.ground.Action.{Action}
use Rattle.kp_base.specs.Planning.{Member, positive, negative, negated, same_lit, Pairs, are_exclusive, are_compatible, compatible_effects, firing_with}
use Rattle.kp_base.proofs.Lists.{bool_same, all_member, all_from, any_from, any_member, member_left, member_right, append_member}
use Rattle.kp_base.proofs.Lits.{same_lit-true, same_lit-negated}
use Rattle.kp_clash_exclusive.specs.Settled.{deletes_within, keeps_apart}
use Rattle.kp_clash_exclusive.specs.Removed.{breaks, adds_pair, BreaksNone}
use Rattle.kp_clash_exclusive.proofs.Greatest.{is_lit}
use Rattle.kp_clash_exclusive.proofs.Removing.{is_positive}

-- ---- literals

compatible_part : (pairs : Pairs) (xs ys : List Lit) → are_compatible pairs (xs ++ ys) ≡ true → are_compatible pairs xs ≡ true
compatible_part pairs xs ys h =
    all_from (λ k. list_all (λ l. not (are_exclusive pairs k l)) xs) xs (λ k in-k.
    all_from (λ l. not (are_exclusive pairs k l)) xs (λ l in-l.
    all_member (λ l. not (are_exclusive pairs k l)) (xs ++ ys) l (member_left xs ys l in-l) (all_member (λ k. list_all (λ l. not (are_exclusive pairs k l)) (xs ++ ys)) (xs ++ ys) k (member_left xs ys k in-k) h)))

pub incompatible_with_more : (pairs : Pairs) (xs ys : List Lit) → are_compatible pairs xs ≡ false → are_compatible pairs (xs ++ ys) ≡ false
incompatible_with_more pairs xs ys n = false_from_ne_true (are_compatible pairs (xs ++ ys)) (λ h. false≢true (sym n ∙ compatible_part pairs xs ys h))

-- an effect that never fires breaks none
breaks_not : (pairs : Pairs) (a : Action) (e : Effect) (q : ℕ) → are_compatible pairs (a.pre ++ e.cond) ≡ false → breaks pairs a e q ≡ false
breaks_not pairs a e q n = false_from_ne_true (breaks pairs a e q) (λ h.
    let x = and_parts e.result.positive (pairs e.result.atom.0 q && not (keeps_apart pairs e.result.atom.0 q a e)) h in
    let y = and_parts (pairs e.result.atom.0 q) (not (keeps_apart pairs e.result.atom.0 q a e)) x.1 in
    let never : are_compatible pairs (firing_with a e q) ≡ false = ap (are_compatible pairs) (sym (append_assoc a.pre e.cond (positive q ∷ []))) ∙ incompatible_with_more pairs (a.pre ++ e.cond) (positive q ∷ []) n in
    let apart : keeps_apart pairs e.result.atom.0 q a e ≡ true = or_right (not (same_lit e.result (positive e.result.atom.0))) (not (are_compatible pairs (firing_with a e q)) || deletes_within a q (firing_with a e q)) (or_left (not (are_compatible pairs (firing_with a e q))) (deletes_within a q (firing_with a e q)) (ap not never)) in
    false≢true (sym (not-true (keeps_apart pairs e.result.atom.0 q a e) y.1) ∙ apart))

-- alone, or together with another effect
pub breaks_none : (pairs : Pairs) (a : Action) (e : Effect) → are_compatible pairs (a.pre ++ e.cond) ≡ false → BreaksNone pairs a e
breaks_none pairs a e n = record {
  alone = λ q. breaks_not pairs a e q n;
  together = false_from_ne_true (list_any (adds_pair pairs a e) a.effects) (λ h.
      let x = any_member (adds_pair pairs a e) a.effects h in
      let fires = (and_parts (e.result.positive && (x.0.result.positive && pairs e.result.atom.0 x.0.result.atom.0)) (compatible_effects pairs a e x.0) x.2).1 in
      let never : compatible_effects pairs a e x.0 ≡ false = ap (are_compatible pairs) (sym (append_assoc a.pre e.cond x.0.cond)) ∙ incompatible_with_more pairs (a.pre ++ e.cond) x.0.cond n in
      false≢true (sym never ∙ fires));
}

-- where an effect breaks a pair no literal excludes the other atom
pub breaks_free : (pairs : Pairs) (a : Action) (e : Effect) (q : ℕ) → breaks pairs a e q ≡ true → (pairs e.result.atom.0 q ≡ true) × (list_any (λ l. are_exclusive pairs l (positive q)) a.pre ≡ false) × (list_any (λ l. are_exclusive pairs l (positive q)) e.cond ≡ false)
breaks_free pairs a e q h = (y.0, none a.pre (λ l m. member_left a.pre (e.cond ++ positive q ∷ []) l m), none e.cond (λ l m. member_right a.pre (e.cond ++ positive q ∷ []) l (member_left e.cond (positive q ∷ []) l m)))
  where
    y : (pairs e.result.atom.0 q ≡ true) × (not (keeps_apart pairs e.result.atom.0 q a e) ≡ true)
    y = and_parts (pairs e.result.atom.0 q) (not (keeps_apart pairs e.result.atom.0 q a e)) (and_parts e.result.positive (pairs e.result.atom.0 q && not (keeps_apart pairs e.result.atom.0 q a e)) h).1

    fires : are_compatible pairs (firing_with a e q) ≡ true
    fires = true_from_ne_false (are_compatible pairs (firing_with a e q)) (λ never.
        let apart : keeps_apart pairs e.result.atom.0 q a e ≡ true = or_right (not (same_lit e.result (positive e.result.atom.0))) (not (are_compatible pairs (firing_with a e q)) || deletes_within a q (firing_with a e q)) (or_left (not (are_compatible pairs (firing_with a e q))) (deletes_within a q (firing_with a e q)) (ap not never)) in
        false≢true (sym (not-true (keeps_apart pairs e.result.atom.0 q a e) y.1) ∙ apart))

    none : (xs : List Lit) → ((l : Lit) → Member xs l → Member (firing_with a e q) l) → list_any (λ l. are_exclusive pairs l (positive q)) xs ≡ false
    none xs there = false_from_ne_true (list_any (λ l. are_exclusive pairs l (positive q)) xs) (λ t.
        let x = any_member (λ l. are_exclusive pairs l (positive q)) xs t in
        let row = all_member (λ k. list_all (λ l. not (are_exclusive pairs k l)) (firing_with a e q)) (firing_with a e q) x.0 (there x.0 x.1) fires in
        let apart = all_member (λ l. not (are_exclusive pairs x.0 l)) (firing_with a e q) (positive q) (member_right a.pre (e.cond ++ positive q ∷ []) (positive q) (member_right e.cond (positive q ∷ []) (positive q) (inl refl))) row in
        false≢true (sym (not-true (are_exclusive pairs x.0 (positive q)) apart) ∙ x.2))

-- ---- literals with one more

module _ (pairs : Pairs) (turn : (p q : ℕ) → pairs p q ≡ pairs q p) where
  exclusive_turned : (k l : Lit) → are_exclusive pairs k l ≡ true → are_exclusive pairs l k ≡ true
  exclusive_turned k l h = elim (or_cases (same_lit (negated k) l) (k.positive && l.positive && pairs k.atom.0 l.atom.0) h) [
    | inl e ↦ or_left (same_lit (negated l) k) (l.positive && k.positive && pairs l.atom.0 k.atom.0) (same_lit-negated l k ∙ is_lit l (negated k) (sym (same_lit-true (negated k) l e)))
    | inr e ↦
        let x = and_parts (k.positive && l.positive) (pairs k.atom.0 l.atom.0) e in
        let y = and_parts k.positive l.positive x.0 in
        or_right (same_lit (negated l) k) (l.positive && k.positive && pairs l.atom.0 k.atom.0) (and_from (l.positive && k.positive) (pairs l.atom.0 k.atom.0) (and_from l.positive k.positive y.1 y.0) (turn l.atom.0 k.atom.0 ∙ x.1))
  ]

  -- compatible literals are so with more where each of these excludes none
  pub compatible_more : (xs ys : List Lit) → are_compatible pairs xs ≡ true → list_all (λ k. list_all (λ l. not (are_exclusive pairs k l)) (xs ++ ys)) ys ≡ are_compatible pairs (xs ++ ys)
  compatible_more xs ys fine = bool_same (list_all row ys) (list_all row (xs ++ ys)) from_new (λ h. all_from row ys (λ k m. all_member row (xs ++ ys) k (member_right xs ys k m) h))
    where
      row : Lit → Bool
      row k = list_all (λ l. not (are_exclusive pairs k l)) (xs ++ ys)

      from_new : list_all row ys ≡ true → list_all row (xs ++ ys) ≡ true
      from_new h = all_from row (xs ++ ys) (λ k in-k. all_from (λ l. not (are_exclusive pairs k l)) (xs ++ ys) (λ l in-l. apart k l in-k in-l (append_member xs ys k in-k) (append_member xs ys l in-l)))
        where
          new : (k l : Lit) → Member ys k → Member (xs ++ ys) l → not (are_exclusive pairs k l) ≡ true
          new k l m n = all_member (λ l. not (are_exclusive pairs k l)) (xs ++ ys) l n (all_member row ys k m h)

          apart : (k l : Lit) → Member (xs ++ ys) k → Member (xs ++ ys) l → Member xs k ⊎ Member ys k → Member xs l ⊎ Member ys l → not (are_exclusive pairs k l) ≡ true
          apart k l in-k in-l (inl a) (inl b) = all_member (λ l. not (are_exclusive pairs k l)) xs l b (all_member (λ k. list_all (λ l. not (are_exclusive pairs k l)) xs) xs k a fine)
          apart k l in-k in-l (inr a) b = new k l a in-l
          apart k l in-k in-l (inl a) (inr b) = ap not (false_from_ne_true (are_exclusive pairs k l) (λ e. false≢true (sym (not-true (are_exclusive pairs l k) (new l k b in-k)) ∙ exclusive_turned k l e)))

module _ (pairs : Pairs) (turn : (p q : ℕ) → pairs p q ≡ pairs q p) (different : (p : ℕ) → pairs p p ≡ false) where
  never_itself : (q : ℕ) → are_exclusive pairs (positive q) (positive q) ≡ false
  never_itself q = false_from_ne_true (are_exclusive pairs (positive q) (positive q)) (λ h. elim (or_cases (same_lit (negative q) (positive q)) (pairs q q) h) [
    | inl e ↦ let same : negative q ≡ positive q = same_lit-true (negative q) (positive q) e in absurd (false≢true (ap (λ l. l.positive) same))
    | inr e ↦ false≢true (sym (different q) ∙ e)
  ])

  -- compatible literals are so with one more atom where none excludes it
  compatible_with : (xs : List Lit) (q : ℕ) → are_compatible pairs xs ≡ true → are_compatible pairs (xs ++ positive q ∷ []) ≡ not (list_any (λ l. are_exclusive pairs l (positive q)) xs)
  compatible_with xs q fine = bool_same (are_compatible pairs (xs ++ positive q ∷ [])) (not (list_any (λ l. are_exclusive pairs l (positive q)) xs)) none both
    where
      none : are_compatible pairs (xs ++ positive q ∷ []) ≡ true → not (list_any (λ l. are_exclusive pairs l (positive q)) xs) ≡ true
      none h = ap not (false_from_ne_true (list_any (λ l. are_exclusive pairs l (positive q)) xs) (λ e.
          let x = any_member (λ l. are_exclusive pairs l (positive q)) xs e in
          let row = all_member (λ k. list_all (λ l. not (are_exclusive pairs k l)) (xs ++ positive q ∷ [])) (xs ++ positive q ∷ []) x.0 (member_left xs (positive q ∷ []) x.0 x.1) h in
          let apart = all_member (λ l. not (are_exclusive pairs x.0 l)) (xs ++ positive q ∷ []) (positive q) (member_right xs (positive q ∷ []) (positive q) (inl refl)) row in
          false≢true (sym (not-true (are_exclusive pairs x.0 (positive q)) apart) ∙ x.2)))

      both : not (list_any (λ l. are_exclusive pairs l (positive q)) xs) ≡ true → are_compatible pairs (xs ++ positive q ∷ []) ≡ true
      both n =
          all_from (λ k. list_all (λ l. not (are_exclusive pairs k l)) (xs ++ positive q ∷ [])) (xs ++ positive q ∷ []) (λ k in-k.
          all_from (λ l. not (are_exclusive pairs k l)) (xs ++ positive q ∷ []) (λ l in-l.
          ap not (false_from_ne_true (are_exclusive pairs k l) (apart k l (append_member xs (positive q ∷ []) k in-k) (append_member xs (positive q ∷ []) l in-l)))))
        where
          free : (l : Lit) → Member xs l → are_exclusive pairs l (positive q) ≡ true → ⊥
          free l m e = false≢true (sym (not-true (list_any (λ l. are_exclusive pairs l (positive q)) xs) n) ∙ any_from (λ l. are_exclusive pairs l (positive q)) xs l m e)

          one : (l : Lit) → Member (positive q ∷ []) l → positive q ≡ l
          one l m = elim m [ inl e ↦ e | inr r ↦ absurd r ]

          apart : (k l : Lit) → Member xs k ⊎ Member (positive q ∷ []) k → Member xs l ⊎ Member (positive q ∷ []) l → are_exclusive pairs k l ≡ true → ⊥
          apart k l (inl a) (inl b) e = false≢true (sym (not-true (are_exclusive pairs k l) (all_member (λ l. not (are_exclusive pairs k l)) xs l b (all_member (λ k. list_all (λ l. not (are_exclusive pairs k l)) xs) xs k a fine))) ∙ e)
          apart k l (inl a) (inr b) e = free k a (subst (λ (m : Lit). are_exclusive pairs k m ≡ true) (sym (one l b)) e)
          apart k l (inr a) (inl b) e = free l b (exclusive_turned pairs turn (positive q) l (subst (λ (m : Lit). are_exclusive pairs m l ≡ true) (sym (one k a)) e))
          apart k l (inr a) (inr b) e = false≢true (sym (never_itself q) ∙ ap₂ (are_exclusive pairs) (one k a) (one l b) ∙ e)

  -- ---- effects

  -- what else than the other atom's being true stands against it
  pub breaks_where : (a : Action) (e : Effect) (q : ℕ) → e.result.positive ≡ true → are_compatible pairs (a.pre ++ e.cond) ≡ true
      → (pairs e.result.atom.0 q && not (list_any (λ l. are_exclusive pairs l (positive q)) a.pre || (list_any (λ l. are_exclusive pairs l (positive q)) e.cond || deletes_within a q (firing_with a e q)))) ≡ breaks pairs a e q
  breaks_where a e q adds fine = sym (ap₂ (λ x y. x && (pairs e.result.atom.0 q && not y)) adds kept)
    where
      or_of_the_refused : (x y z : Bool) → (not (not (x || y)) || z) ≡ (x || (y || z))
      or_of_the_refused true y z = refl
      or_of_the_refused false true z = refl
      or_of_the_refused false false z = refl

      fires : are_compatible pairs (firing_with a e q) ≡ not (list_any (λ l. are_exclusive pairs l (positive q)) a.pre || list_any (λ l. are_exclusive pairs l (positive q)) e.cond)
      fires = ap (are_compatible pairs) (sym (append_assoc a.pre e.cond (positive q ∷ []))) ∙ (compatible_with (a.pre ++ e.cond) q fine ∙ ap not (list_any-append (λ l. are_exclusive pairs l (positive q)) a.pre e.cond))

      kept : keeps_apart pairs e.result.atom.0 q a e ≡ (list_any (λ l. are_exclusive pairs l (positive q)) a.pre || (list_any (λ l. are_exclusive pairs l (positive q)) e.cond || deletes_within a q (firing_with a e q)))
      kept = ap₂ (λ x y. not x || (not y || deletes_within a q (firing_with a e q))) (is_positive e adds) fires ∙ or_of_the_refused (list_any (λ l. are_exclusive pairs l (positive q)) a.pre) (list_any (λ l. are_exclusive pairs l (positive q)) e.cond) (deletes_within a q (firing_with a e q))

  -- the same at a pair, and where there is none
  pub breaks_paired : (a : Action) (e : Effect) (q : ℕ) → e.result.positive ≡ true → are_compatible pairs (a.pre ++ e.cond) ≡ true → pairs e.result.atom.0 q ≡ true
      → not (list_any (λ l. are_exclusive pairs l (positive q)) a.pre || (list_any (λ l. are_exclusive pairs l (positive q)) e.cond || deletes_within a q (firing_with a e q))) ≡ breaks pairs a e q
  breaks_paired a e q adds fine pair = ap (λ x. x && not (list_any (λ l. are_exclusive pairs l (positive q)) a.pre || (list_any (λ l. are_exclusive pairs l (positive q)) e.cond || deletes_within a q (firing_with a e q)))) (sym pair) ∙ breaks_where a e q adds fine

  pub breaks_unpaired : (a : Action) (e : Effect) (q : ℕ) → e.result.positive ≡ true → are_compatible pairs (a.pre ++ e.cond) ≡ true → pairs e.result.atom.0 q ≡ false → false ≡ breaks pairs a e q
  breaks_unpaired a e q adds fine none = ap (λ x. x && not (list_any (λ l. are_exclusive pairs l (positive q)) a.pre || (list_any (λ l. are_exclusive pairs l (positive q)) e.cond || deletes_within a q (firing_with a e q)))) (sym none) ∙ breaks_where a e q adds fine
