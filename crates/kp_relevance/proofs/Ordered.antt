-- A list of clauses in order, each once, is told by its members.
use Rattle.std.proofs.Common.{◌≡◌, ◌+◌, suc, false, List, [], ◌∷◌, get_or, arith, is_lt, Ordering, Less, Equal, Greater, IsSorted, refl, sym, ap, ap₂, subst, ◌∙◌, inl, inr}
use Rattle.std.proofs.lemmas.Bool.{false≢true}
use Rattle.std.specs.Cmp.{IsTotalOrder, on_total, nat_cmp_total}
use Rattle.std.specs.Cmp.Lexicographic.{lists_total}
use Rattle.std.specs.Ordering.{ordering_reverse, is_eq}
use Rattle.kp_base.specs.declared.lit.Lit.{Lit}
use Rattle.kp_base.specs.Planning.{Member, code_of, lits_cmp, IsOnce}
use Rattle.kp_base.proofs.Ascending.{equal_iff}
use Rattle.kp_relevance.specs.Laws.{AreClausesForOnce}

total : IsTotalOrder lits_cmp
total = lists_total (on_total code_of nat_cmp_total)

-- of two lists that differ the one that isn't after the other comes first
comes_first : (x y : List Lit) → is_lt (lits_cmp y x) ≡ false → (x ≡ y → ⊥) → lits_cmp x y ≡ Less
comes_first x y late apart = pick (lits_cmp x y) refl
  where
    pick : (o : Ordering) → lits_cmp x y ≡ o → o ≡ Less
    pick Less is = refl
    pick Equal is = absurd (apart ((equal_iff x y).0 (ap is_eq is)))
    pick Greater is = absurd (false≢true (sym late ∙ (ap is_lt (total.antisymm y x) ∙ ap (λ o. is_lt (ordering_reverse o)) is)))

rest_sorted : (x : List Lit) (xs : List (List Lit)) → IsSorted lits_cmp (x ∷ xs) → IsSorted lits_cmp xs
rest_sorted x xs s i d low high =
    let next : suc i + 1 ≡ suc (i + 1) = omega arith in
    subst (λ n. is_lt (lits_cmp (get_or (x ∷ xs) n d) (get_or xs i d)) ≡ false) next (s (suc i) d (omega arith) (omega arith))

-- the first comes before each other
rises : (x : List Lit) (xs : List (List Lit)) → IsSorted lits_cmp (x ∷ xs) → IsOnce (x ∷ xs) → (m : List Lit) → Member xs m → lits_cmp x m ≡ Less
rises x [] s o m at = absurd at
rises x (y ∷ ys) s o m at =
    let first : lits_cmp x y ≡ Less = comes_first x y (s 0 x (omega arith) (omega arith)) (λ e. o.0 (inl (sym e))) in
    elim at [
      | inl e ↦ subst (λ (z : List Lit). lits_cmp x z ≡ Less) e first
      | inr r ↦ total.trans x y m first (rises y ys (rest_sorted x (y ∷ ys) s) o.1 m r)
    ]

never_both : (x y : List Lit) → lits_cmp x y ≡ Less → lits_cmp y x ≡ Less → ⊥
never_both x y p q = apart (sym p ∙ (total.antisymm x y ∙ ap ordering_reverse q))
  where
    apart : Less ≡ Greater → ⊥
    apart e = false≢true (sym (ap is_lt e))

pub one_order : (xs ys : List (List Lit)) → IsSorted lits_cmp xs → IsSorted lits_cmp ys → IsOnce xs → IsOnce ys
    → ((m : List Lit) → Member xs m → Member ys m) → ((m : List Lit) → Member ys m → Member xs m) → xs ≡ ys
one_order [] [] s t o p to fro = refl
one_order [] (y ∷ ys) s t o p to fro = absurd (fro y (inl refl))
one_order (x ∷ xs) [] s t o p to fro = absurd (to x (inl refl))
one_order (x ∷ xs) (y ∷ ys) s t o p to fro =
    ap₂ (λ (z : List Lit) (zs : List (List Lit)). z ∷ zs) first
    (one_order xs ys (rest_sorted x xs s) (rest_sorted y ys t) o.1 p.1
    (λ m k. elim (to m (inr k)) [ inl e ↦ absurd (o.0 (subst (Member xs) (sym (first ∙ e)) k)) | inr r ↦ r ])
    (λ m k. elim (fro m (inr k)) [ inl e ↦ absurd (p.0 (subst (Member ys) (sym (sym first ∙ e)) k)) | inr r ↦ r ]))
  where
    first : x ≡ y
    first = elim (to x (inl refl)) [
      | inl e ↦ sym e
      | inr late ↦ elim (fro y (inl refl)) [
        | inl e ↦ e
        | inr later ↦ absurd (never_both x y (rises x xs s o y later) (rises y ys t p x late))
      ]
    ]

pub one_clauses_for : AreClausesForOnce
one_clauses_for acts atoms i target cs ds is also =
    one_order cs ds is.in_order also.in_order is.once also.once
    (λ c m. (also.exact c).1 ((is.exact c).0 m))
    (λ c m. (is.exact c).1 ((also.exact c).0 m))
