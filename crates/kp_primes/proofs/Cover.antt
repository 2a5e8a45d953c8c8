-- One clause more: from a cover of the implicates to a cover of the new ones.
use Rattle.std.proofs.Common.{◌≡◌, Bool, true, false, not, ◌||◌, ◌&&◌, ◌⊎◌, cond, List, [], ◌∷◌, ◌++◌, refl, sym, ◌∙◌, ap, subst, inl, inr, append-nil}
use Rattle.std.proofs.lemmas.Bool.{and_parts, and_from, or_cases, or_left, or_right, false≢true, cases_Bool}
use Rattle.std.specs.List.{list_any}
use Rattle.kp_base.specs.declared.lit.Lit.{Lit}
use Rattle.kp_base.specs.Planning.{Member, negated, IsAscending, State, holds, is_tautology}
use Rattle.kp_base.specs.Steps.{has}
use Rattle.kp_base.specs.Implicates.{is_within}
use Rattle.kp_base.proofs.Lists.{any_member, any_from}
use Rattle.kp_base.proofs.Lits.{member-has, negated-negated, holds-negated}
use Rattle.kp_clauses.specs.Resolved.{resolved}
use Rattle.kp_clauses.specs.Stored.{subsumed, with_all, are_apart}
use Rattle.kp_clauses.proofs.Public.{within_member, within_from, one_more_is_no_tautology, has_the_one_more, tautology_true, true_where_within, resolved_true, resolved_within, resolved_ascending, with_all_member, with_all_old, with_all_new, with_all_apart}
use Rattle.kp_primes.specs.Included.{stepped, walked, idle, included}
use Rattle.kp_primes.proofs.Spreading.{least_parts, stepped_old, stepped_reaches, stepped_keeps}

-- a clause that is no tautology, is in order, and holds where the test does
pub record Fits (m : State → Bool) (c : List Lit) : Type 0 where
  pub proper : is_tautology c ≡ false
  pub set : IsAscending c
  pub sound : (s : State) → m s ≡ true → list_any (holds s) c ≡ true

-- such clauses, with one within each clause that holds where the test does
pub record IsCover (m : State → Bool) (ps : List (List Lit)) : Type 0 where
  pub each : (c : List Lit) → Member ps c → Fits m c
  pub covers : (d : List Lit) → is_tautology d ≡ false → ((s : State) → m s ≡ true → list_any (holds s) d ≡ true) → subsumed ps d ≡ true

abbrev pub both : (State → Bool) → List Lit → State → Bool
both m c s = m s && list_any (holds s) c

-- after the literals `seen`, with `rest` to come: the new clauses reach each clause that has the rest
pub record IsPart (m : State → Bool) (ps : List (List Lit)) (c seen rest : List Lit) (es : List (List Lit)) : Type 0 where
  pub each : (e : List Lit) → Member es e → Fits (both m c) e
  pub covers : (d : List Lit) → is_tautology d ≡ false → is_within rest d ≡ true → ((s : State) → m s ≡ true → list_any (holds s) seen ≡ true → list_any (holds s) d ≡ true) → (subsumed es d || subsumed ps d) ≡ true

part_start : (m : State → Bool) (ps : List (List Lit)) (c : List Lit) → is_tautology c ≡ false → IsAscending c → IsPart m ps c [] c (c ∷ [])
part_start m ps c proper asc = record {
  each = λ e in-e. elim in-e [
    | inl same ↦ subst (Fits (both m c)) same (record { proper = proper; set = asc; sound = λ s h. (and_parts (m s) (list_any (holds s) c) h).1 })
    | inr bad ↦ absurd bad
  ];
  covers = λ d _ in-d _. or_left (subsumed (c ∷ []) d) (subsumed ps d) (or_left (is_within c d) false in-d);
}

any_append_left : (p : Lit → Bool) (xs : List Lit) (l : Lit) → list_any p xs ≡ true → list_any p (xs ++ l ∷ []) ≡ true
any_append_left p [] l h = absurd (false≢true h)
any_append_left p (x ∷ xs) l h = elim (or_cases (p x) (list_any p xs) h) [
  | inl e ↦ or_left (p x) (list_any p (xs ++ l ∷ [])) e
  | inr e ↦ or_right (p x) (list_any p (xs ++ l ∷ [])) (any_append_left p xs l e)
]

any_append_last : (p : Lit → Bool) (xs : List Lit) (l : Lit) → p l ≡ true → list_any p (xs ++ l ∷ []) ≡ true
any_append_last p [] l h = or_left (p l) false h
any_append_last p (x ∷ xs) l h = or_right (p x) (list_any p (xs ++ l ∷ [])) (any_append_last p xs l h)

-- the cover's clause within one literal more has that literal, or is within
pick : (ps : List (List Lit)) (d : List Lit) (l : Lit) → subsumed ps (l ∷ d) ≡ true → (subsumed ps d ≡ true) ⊎ ((p : List Lit) × Member ps p × (has p l ≡ true) × (is_within p (l ∷ d) ≡ true))
pick ps d l h =
    let p = any_member (λ p. is_within p (l ∷ d)) ps h in
    elim (cases_Bool (is_within p.0 d)) [
      | inl in' ↦ inl (any_from (λ p. is_within p d) ps p.0 p.1 in')
      | inr out ↦ inr (p.0, p.1, has_the_one_more p.0 d l p.2 out, p.2)
    ]

module _ (m : State → Bool) (ps : List (List Lit)) (cover : IsCover m ps) (c : List Lit) where
  part_step_each : (seen rest : List Lit) (l : Lit) (es : List (List Lit)) → IsPart m ps c seen (l ∷ rest) es → (x : List Lit) → Member (stepped ps l es) x → Fits (both m c) x
  part_step_each seen rest l es part = stepped_keeps ps l (Fits (both m c)) es (λ e p in-e in-p least. record {
    proper = (least_parts ps es l (resolved e p l) least).proper;
    set = resolved_ascending e p l;
    sound = λ s h. resolved_true s e p l ((part.each e in-e).sound s h) ((cover.each p in-p).sound s (and_parts (m s) (list_any (holds s) c) h).0);
  }) part.each

  part_step_covers : (seen rest : List Lit) (l : Lit) (es : List (List Lit)) → IsPart m ps c seen (l ∷ rest) es → (d : List Lit) → is_tautology d ≡ false → is_within rest d ≡ true → ((s : State) → m s ≡ true → list_any (holds s) (seen ++ l ∷ []) ≡ true → list_any (holds s) d ≡ true) → (subsumed (stepped ps l es) d || subsumed ps d) ≡ true
  part_step_covers seen rest l es part d proper rest-in follows = go (has d l) (has d (negated l)) refl refl
    where
      Goal : Type 0
      Goal = (subsumed (stepped ps l es) d || subsumed ps d) ≡ true

      old : (subsumed es d || subsumed ps d) ≡ true → (subsumed (stepped ps l es) d || subsumed ps d) ≡ true
      old h = elim (or_cases (subsumed es d) (subsumed ps d) h) [
        | inl a ↦ or_left (subsumed (stepped ps l es) d) (subsumed ps d) (stepped_old ps l es d a)
        | inr a ↦ or_right (subsumed (stepped ps l es) d) (subsumed ps d) a
      ]

      prime : subsumed ps d ≡ true → (subsumed (stepped ps l es) d || subsumed ps d) ≡ true
      prime h = or_right (subsumed (stepped ps l es) d) (subsumed ps d) h

      -- where the literal is true the clause is
      on : (s : State) → m s ≡ true → holds s l ≡ true → list_any (holds s) d ≡ true
      on s hm hl = follows s hm (any_append_last (holds s) seen l hl)

      before : (s : State) → m s ≡ true → list_any (holds s) seen ≡ true → list_any (holds s) d ≡ true
      before s hm h = follows s hm (any_append_left (holds s) seen l h)

      -- a clause of the cover without the negated literal settles it
      with_prime : (e : List Lit) → Member es e → has e l ≡ true → is_within e (l ∷ d) ≡ true → has d l ≡ false → (subsumed (stepped ps l es) d || subsumed ps d) ≡ true
      with_prime e in-e has-l in-ld no-l =
          let proper' : is_tautology (negated l ∷ d) ≡ false = one_more_is_no_tautology d (negated l) proper (rw negated-negated no-l) in
          let got = cover.covers (negated l ∷ d) proper' (λ s hm. elim (cases_Bool (holds s l)) [
            | inl t ↦ or_right (holds s (negated l)) (list_any (holds s) d) (on s hm t)
            | inr off ↦ or_left (holds s (negated l)) (list_any (holds s) d) (holds-negated s l ∙ ap not off)
          ]) in
          elim (pick ps d (negated l) got) [
            | inl a ↦ prime a
            | inr p ↦ stepped_reaches ps l es e p.0 in-e p.1 d proper (resolved_within e p.0 d l in-ld p.3)
          ]

      go : (a b : Bool) → has d l ≡ a → has d (negated l) ≡ b → (subsumed (stepped ps l es) d || subsumed ps d) ≡ true
      go true b is _ = old (part.covers d proper (and_from (has d l) (is_within rest d) is rest-in) before)
      go false true no-l is = prime (cover.covers d proper (λ s hm. elim (cases_Bool (holds s l)) [
        | inl t ↦ on s hm t
        | inr off ↦ any_from (holds s) d (negated l) (member-has d (negated l) is) (holds-negated s l ∙ ap not off)
      ]))
      go false false no-l no-n =
          let proper' : is_tautology (l ∷ d) ≡ false = one_more_is_no_tautology d l proper no-n in
          let rest' : is_within (l ∷ rest) (l ∷ d) ≡ true = within_from (l ∷ rest) (l ∷ d) (λ x n. elim n [ inl e ↦ inl e | inr r ↦ inr (within_member rest d rest-in x r) ]) in
          elim (or_cases (subsumed es (l ∷ d)) (subsumed ps (l ∷ d)) (part.covers (l ∷ d) proper' rest' (λ s hm h. or_right (holds s l) (list_any (holds s) d) (before s hm h)))) [
            | inl a ↦ elim (pick es d l a) [
              | inl h ↦ or_left (subsumed (stepped ps l es) d) (subsumed ps d) (stepped_old ps l es d h)
              | inr e ↦ with_prime e.0 e.1 e.2 e.3 no-l
            ]
            | inr a ↦ elim (pick ps d l a) [
              | inl h ↦ prime h
              | inr q ↦ prime (cover.covers d proper (λ s hm.
                  let t = any_member (holds s) q.0 ((cover.each q.0 q.1).sound s hm) in
                  elim (within_member q.0 (l ∷ d) q.3 t.0 t.1) [
                    | inl same ↦ on s hm (subst (λ (y : Lit). holds s y ≡ true) (sym same) t.2)
                    | inr in' ↦ any_from (holds s) d t.0 in' t.2
                  ]))
            ]
          ]

  part_step : (seen rest : List Lit) (l : Lit) (es : List (List Lit)) → IsPart m ps c seen (l ∷ rest) es → IsPart m ps c (seen ++ l ∷ []) rest (stepped ps l es)
  part_step seen rest l es part = record { each = part_step_each seen rest l es part; covers = part_step_covers seen rest l es part }

  append_rest : (xs ys : List Lit) (l : Lit) → (xs ++ l ∷ []) ++ ys ≡ xs ++ l ∷ ys
  append_rest [] ys l = refl
  append_rest (x ∷ xs) ys l = ap (λ z. x ∷ z) (append_rest xs ys l)

  part_walk : (seen rest : List Lit) (es : List (List Lit)) → IsPart m ps c seen rest es → IsPart m ps c (seen ++ rest) [] (walked ps rest es)
  part_walk seen [] es part = record { each = part.each; covers = λ d proper h follows. part.covers d proper h (λ s hm h. follows s hm (subst (λ z. list_any (holds s) z ≡ true) (sym (append-nil seen)) h)) }
  part_walk seen (l ∷ rest) es part = subst (λ z. IsPart m ps c z [] (walked ps rest (stepped ps l es))) (append_rest seen rest l) (part_walk (seen ++ l ∷ []) rest (stepped ps l es) (part_step seen rest l es part))

  -- one clause more
  pub included_cover : IsAscending c → IsCover (both m c) (included ps c)
  included_cover asc = go (is_tautology c) (subsumed ps c) refl refl
    where
      same : ((s : State) → m s ≡ true → list_any (holds s) c ≡ true) → IsCover (both m c) ps
      same always = record {
        each = λ x n. let f = cover.each x n in record { proper = f.proper; set = f.set; sound = λ s h. f.sound s (and_parts (m s) (list_any (holds s) c) h).0 };
        covers = λ d proper follows. cover.covers d proper (λ s hm. follows s (and_from (m s) (list_any (holds s) c) hm (always s hm)));
      }

      go : (a b : Bool) → is_tautology c ≡ a → subsumed ps c ≡ b → IsCover (both m c) (cond (a || b) ps (with_all ps (walked ps c (c ∷ []))))
      go true b is _ = same (λ s _. tautology_true s c is)
      go false true _ is = same (λ s hm. let e = any_member (λ e. is_within e c) ps is in true_where_within s e.0 c e.2 ((cover.each e.0 e.1).sound s hm))
      go false false proper _ =
          let part = part_walk [] c (c ∷ []) (part_start m ps c proper asc) in
          record {
            each = λ x n. elim (with_all_member ps (walked ps c (c ∷ [])) x n) [
              | inl r ↦ let f = cover.each x r in record { proper = f.proper; set = f.set; sound = λ s h. f.sound s (and_parts (m s) (list_any (holds s) c) h).0 }
              | inr r ↦ part.each x r
            ];
            covers = λ d proper follows. elim (or_cases (subsumed (walked ps c (c ∷ [])) d) (subsumed ps d) (part.covers d proper refl (λ s hm h. follows s (and_from (m s) (list_any (holds s) c) hm h)))) [
              | inl a ↦ with_all_new ps (walked ps c (c ∷ [])) d a
              | inr a ↦ with_all_old ps (walked ps c (c ∷ [])) d a
            ];
          }

pub included_apart : (ps : List (List Lit)) (c : List Lit) → are_apart ps ≡ true → are_apart (included ps c) ≡ true
included_apart ps c h = go (idle ps c)
  where
    go : (b : Bool) → are_apart (cond b ps (with_all ps (walked ps c (c ∷ [])))) ≡ true
    go true = h
    go false = with_all_apart ps (walked ps c (c ∷ [])) h
