-- The questions are answered exactly.
use Rattle.std.proofs.Common.{◌≡◌, ◌↔◌, ℕ, Bool, true, false, not, ◌||◌, List, [], ◌∷◌, refl, sym, ◌∙◌, ap, subst, inl, inr, map, nat_lt}
use Rattle.std.proofs.lemmas.Bool.{or_cases, or_left, or_right, false≢true, cases_Bool, true_from_ne_false, false_from_ne_true}
use Rattle.std.specs.List.{list_any, list_all}
use Rattle.kp_base.specs.declared.lit.Lit.{Lit}
use Rattle.kp_base.specs.Planning.{Member, negated, positive, negative, State, holds, is_tautology}
use Rattle.kp_base.specs.Steps.{has}
use Rattle.kp_base.specs.Implicates.{is_within}
use Rattle.kp_base.proofs.Lists.{any_member, any_from, all_from, all_member, member_map, map_member}
use Rattle.kp_base.proofs.Lits.{has-member, member-has, negated-negated, holds-negated}
use Rattle.kp_clauses.specs.Stored.{subsumed}
use Rattle.kp_clauses.proofs.Public.{within_member, one_more_is_no_tautology, tautology_from, MayJoin, state_makes_them_false}
use Rattle.kp_primes.specs.Asked.{denied, denied_but, inconsistent, entailed_by}
use Rattle.kp_primes.proofs.Cover.{IsCover}

opposite : (s : State) (l : Lit) → holds s l ≡ true → holds s (negated l) ≡ true → ⊥
opposite s l a b = false≢true (sym (holds-negated s l ∙ ap not a) ∙ b)

-- no state meets a tag with two complementary literals
opposed_none : (s : State) (tag : List Lit) → is_tautology tag ≡ true → list_all (holds s) tag ≡ true → ⊥
opposed_none s tag h met =
    let x = any_member (λ y. has tag (negated y)) tag h in
    opposite s x.0 (all_member (holds s) tag x.0 x.1 met) (all_member (holds s) tag (negated x.0) (member-has tag (negated x.0) x.2) met)

-- a true literal of a clause isn't denied by a tag that is met
not_denied : (s : State) (tag : List Lit) (x : Lit) → list_all (holds s) tag ≡ true → holds s x ≡ true → has tag (negated x) ≡ true → ⊥
not_denied s tag x met h d = opposite s x h (all_member (holds s) tag (negated x) (member-has tag (negated x) d) met)

-- the negations of a tag that doesn't oppose itself are no tautology
negations_proper : (tag : List Lit) → is_tautology tag ≡ false → is_tautology (map negated tag) ≡ false
negations_proper tag h = false_from_ne_true (is_tautology (map negated tag)) (λ t.
    let x = any_member (λ y. has (map negated tag) (negated y)) (map negated tag) t in
    let y = map_member negated tag x.0 x.1 in
    let z = map_member negated tag (negated x.0) (member-has (map negated tag) (negated x.0) x.2) in
    let e : z.0 ≡ negated y.0 = sym (negated-negated z.0) ∙ (ap negated z.2 ∙ ap (λ w. negated (negated w)) (sym y.2)) ∙ negated-negated (negated y.0) in
    false≢true (sym h ∙ tautology_from tag y.0 y.1 (subst (Member tag) e z.1)))

denied_within : (tag c : List Lit) → is_within c (map negated tag) ≡ true → denied tag c ≡ true
denied_within tag c h = all_from (λ x. has tag (negated x)) c (λ x m.
    let y = map_member negated tag x (within_member c (map negated tag) h x m) in
    has-member tag (negated x) (subst (Member tag) (sym (negated-negated y.0) ∙ ap negated y.2) y.1))

denied_but_within : (tag c : List Lit) (l : Lit) → is_within c (l ∷ map negated tag) ≡ true → denied_but tag l c ≡ true
denied_but_within tag c l h = all_from (λ x. has tag (negated x) || has (l ∷ []) x) c (λ x m.
    elim (within_member c (l ∷ map negated tag) h x m) [
      | inl e ↦ or_right (has tag (negated x)) (has (l ∷ []) x) (has-member (l ∷ []) x (inl e))
      | inr r ↦ let y = map_member negated tag x r in or_left (has tag (negated x)) (has (l ∷ []) x) (has-member tag (negated x) (subst (Member tag) (sym (negated-negated y.0) ∙ ap negated y.2) y.1))
    ])

-- where no literal of the negations is true, the tag is met
met_from : (s : State) (tag : List Lit) → list_any (holds s) (map negated tag) ≡ false → list_all (holds s) tag ≡ true
met_from s tag none = all_from (holds s) tag (λ x m. true_from_ne_false (holds s x) (λ off.
    false≢true (sym none ∙ any_from (holds s) (map negated tag) (negated x) (member_map negated tag x m) (holds-negated s x ∙ ap not off))))

-- the literals of a clause that a tag denies are negations of its literals
pub within_denied : (tag c : List Lit) → denied tag c ≡ true → is_within c (map negated tag) ≡ true
within_denied tag c h = all_from (has (map negated tag)) c (λ x m.
    has-member (map negated tag) x (subst (Member (map negated tag)) (negated-negated x) (member_map negated tag (negated x) (member-has tag (negated x) (all_member (λ x. has tag (negated x)) c x m h)))))

module _ (m : State → Bool) (ps : List (List Lit)) (cover : IsCover m ps) where
  -- not both literals of an atom are needed
  both_join : MayJoin ps
  both_join F may p h k = false≢true (sym may.free ∙ cover.covers F may.proper (λ s hm. true_from_ne_false (list_any (holds s) F) (λ off.
      let c = any_member (λ e. is_within e (positive p ∷ F)) ps h in
      let d = any_member (λ e. is_within e (negative p ∷ F)) ps k in
      let x = any_member (holds s) c.0 ((cover.each c.0 c.1).sound s hm) in
      let y = any_member (holds s) d.0 ((cover.each d.0 d.1).sound s hm) in
      elim (within_member c.0 (positive p ∷ F) c.2 x.0 x.1) [
        | inr in-F ↦ false≢true (sym off ∙ any_from (holds s) F x.0 in-F x.2)
        | inl e ↦ elim (within_member d.0 (negative p ∷ F) d.2 y.0 y.1) [
          | inr in-F ↦ false≢true (sym off ∙ any_from (holds s) F y.0 in-F y.2)
          | inl f ↦ opposite s (positive p) (subst (λ (z : Lit). holds s z ≡ true) (sym e) x.2) (subst (λ (z : Lit). holds s z ≡ true) (sym f) y.2)
        ]
      ])))

  -- where the tag is not found to be inconsistent, some state in which the clauses are true meets it
  pub met_somewhere : (n : ℕ) → list_all (λ c. list_all (λ l. nat_lt l.atom.0 n) c) ps ≡ true → (tag : List Lit) → inconsistent ps tag ≡ false → (s : State) × (list_all (list_any (holds s)) ps ≡ true) × (list_all (holds s) tag ≡ true)
  met_somewhere n range tag h =
      let proper : is_tautology tag ≡ false = false_from_ne_true (is_tautology tag) (λ t. false≢true (sym h ∙ or_left (is_tautology tag) (list_any (denied tag) ps) t)) in
      let free : subsumed ps (map negated tag) ≡ false = false_from_ne_true (subsumed ps (map negated tag)) (λ t.
      let c = any_member (λ e. is_within e (map negated tag)) ps t in
      false≢true (sym h ∙ or_right (is_tautology tag) (list_any (denied tag) ps) (any_from (denied tag) ps c.0 c.1 (denied_within tag c.0 c.2)))) in
      let f = state_makes_them_false n ps range both_join (map negated tag) (record { free = free; proper = negations_proper tag proper }) in (
        f.0,
        f.1.clauses_true,
        met_from f.0 tag (false_from_ne_true (list_any (holds f.0) (map negated tag)) (λ on.
            let x = any_member (holds f.0) (map negated tag) on in
            false≢true (sym (f.1.all_false x.0 x.1) ∙ x.2))),
      )

  -- where it is found to be inconsistent, none does
  pub met_nowhere : (tag : List Lit) → inconsistent ps tag ≡ true → (s : State) → m s ≡ true → list_all (holds s) tag ≡ true → ⊥
  met_nowhere tag h s hm met = elim (or_cases (is_tautology tag) (list_any (denied tag) ps) h) [
    | inl t ↦ opposed_none s tag t met
    | inr a ↦
        let c = any_member (denied tag) ps a in
        let x = any_member (holds s) c.0 ((cover.each c.0 c.1).sound s hm) in
        not_denied s tag x.0 met x.2 (all_member (λ x. has tag (negated x)) c.0 x.0 x.1 c.2)
  ]

  pub entailed_exact : (tag : List Lit) (l : Lit) → (entailed_by ps tag l ≡ true) ↔ ((s : State) → m s ≡ true → list_all (holds s) tag ≡ true → holds s l ≡ true)
  entailed_exact tag l = (there, back (is_tautology tag) (has tag l) refl refl)
    where
      there : entailed_by ps tag l ≡ true → ((s : State) → m s ≡ true → list_all (holds s) tag ≡ true → holds s l ≡ true)
      there h s hm met = elim (or_cases (is_tautology tag || has tag l) (list_any (denied_but tag l) ps) h) [
        | inl t ↦ elim (or_cases (is_tautology tag) (has tag l) t) [
          | inl u ↦ absurd (opposed_none s tag u met)
          | inr u ↦ all_member (holds s) tag l (member-has tag l u) met
        ]
        | inr a ↦
            let c = any_member (denied_but tag l) ps a in
            let x = any_member (holds s) c.0 ((cover.each c.0 c.1).sound s hm) in
            elim (or_cases (has tag (negated x.0)) (has (l ∷ []) x.0) (all_member (λ x. has tag (negated x) || has (l ∷ []) x) c.0 x.0 x.1 c.2)) [
              | inl d ↦ absurd (not_denied s tag x.0 met x.2 d)
              | inr e ↦ elim (member-has (l ∷ []) x.0 e) [ inl same ↦ subst (λ (y : Lit). holds s y ≡ true) (sym same) x.2 | inr bad ↦ absurd bad ]
            ]
      ]

      back : (a b : Bool) → is_tautology tag ≡ a → has tag l ≡ b → ((s : State) → m s ≡ true → list_all (holds s) tag ≡ true → holds s l ≡ true) → entailed_by ps tag l ≡ true
      back true b is _ ent = or_left (is_tautology tag || has tag l) (list_any (denied_but tag l) ps) (or_left (is_tautology tag) (has tag l) is)
      back false true _ is ent = or_left (is_tautology tag || has tag l) (list_any (denied_but tag l) ps) (or_right (is_tautology tag) (has tag l) is)
      back false false proper out ent =
          let none : has (map negated tag) (negated l) ≡ false = false_from_ne_true (has (map negated tag) (negated l)) (λ h.
          let y = map_member negated tag (negated l) (member-has (map negated tag) (negated l) h) in
          false≢true (sym out ∙ has-member tag l (subst (Member tag) (sym (negated-negated y.0) ∙ (ap negated y.2 ∙ negated-negated l)) y.1))) in
          let got = cover.covers (l ∷ map negated tag) (one_more_is_no_tautology (map negated tag) l (negations_proper tag proper) none) (λ s sat.
          true_from_ne_false (list_any (holds s) (l ∷ map negated tag)) (λ off. elim (cases_Bool (list_any (holds s) (map negated tag))) [
            | inl on ↦ false≢true (sym off ∙ or_right (holds s l) (list_any (holds s) (map negated tag)) on)
            | inr no-tag ↦ false≢true (sym off ∙ or_left (holds s l) (list_any (holds s) (map negated tag)) (ent s sat (met_from s tag no-tag)))
          ])) in
          let c = any_member (λ c. is_within c (l ∷ map negated tag)) ps got in
          or_right (is_tautology tag || has tag l) (list_any (denied_but tag l) ps) (any_from (denied_but tag l) ps c.0 c.1 (denied_but_within tag c.0 l c.2))
