-- A search among the sets of clauses ends in one way.
use Rattle.std.proofs.Common.{◌≡◌, ◌<◌, ◌≤◌, ◌+◌, ◌++◌, ℕ, List, [], ◌∷◌, length, sym, subst, ◌∙◌, inl, inr, arith}
use Rattle.std.proofs.lemmas.Bool.{cases_lt}
use Rattle.std.proofs.Math.Nat.{eq-or-lt_of_le}
use Rattle.kp_base.specs.declared.lit.Lit.{Lit}
use Rattle.kp_base.specs.declared.ground.Initial.{Initial}
use Rattle.kp_cover_subsets.specs.Subsets.{subsets, choose}
use Rattle.kp_cover.specs.Covering.{IsCover}
use Rattle.kp_width.specs.Rows.{NoneCovers, IsFirstCover, AreSizesPassed, HasLeastCover, HasNoCover, HasTooManySets}
use Rattle.kp_width.proofs.Right.{it_is_there}

module _ (i : Initial) (cs : List (List Lit)) where
  one_split : (e f l m : List (List (List Lit))) (a b s t : List (List Lit)) → e ++ a ∷ l ≡ f ++ b ∷ m → IsCover i cs a s → IsCover i cs b t → NoneCovers i cs e → NoneCovers i cs f → a ≡ b
  one_split [] [] l m a b s t is p q before sooner = cc is
  one_split [] (x ∷ f) l m a b s t is p q before sooner = let same : x ≡ a = cc is in absurd (sooner a s (inl same) p)
  one_split (x ∷ e) [] l m a b s t is p q before sooner = let same : x ≡ b = cc is in absurd (before b t (inl same) q)
  one_split (x ∷ e) (y ∷ f) l m a b s t is p q before sooner =
      let rest : e ++ a ∷ l ≡ f ++ b ∷ m = cc is in
      one_split e f l m a b s t rest p q (λ z ts k. before z ts (inr k)) (λ z ts k. sooner z ts (inr k))

  one_first : (sets : List (List (List Lit))) (a b s t : List (List Lit)) → IsFirstCover i cs sets a s → IsFirstCover i cs sets b t → a ≡ b
  one_first sets a b s t p q = one_split p.earlier q.earlier p.later q.later a b s t (sym p.among ∙ q.among) p.covers q.covers p.none_earlier q.none_earlier

  module _ (limit bound : ℕ) where
    -- the size of a least set isn't passed
    found : (set tags : List (List Lit)) (size : ℕ) → HasLeastCover limit bound i cs set tags → length set < size → AreSizesPassed limit i cs size → ⊥
    found set tags size l lt h = h.none_covers (length set) lt set tags (it_is_there i cs (subsets (length set) cs) set tags l.first) l.first.covers

    -- nor is one that is refused
    refused : (a size : ℕ) → HasTooManySets limit bound i cs a → a < size → AreSizesPassed limit i cs size → ⊥
    refused a size r lt h = absurd (omega (arith, r.many, h.few a lt))

    pub one_set : (a b s t : List (List Lit)) → HasLeastCover limit bound i cs a s → HasLeastCover limit bound i cs b t → a ≡ b
    one_set a b s t l m = elim (cases_lt (length a) (length b)) [
      | inl lt ↦ absurd (found a s (length b) l lt m.passed)
      | inr le ↦ elim (eq-or-lt_of_le le) [
        | inl e ↦ one_first (subsets (length a) cs) a b s t l.first (subst (λ (k : ℕ). IsFirstCover i cs (subsets k cs) b t) e m.first)
        | inr gt ↦ absurd (found b t (length a) m gt l.passed)
      ]
    ]

    pub one_size : (a b : ℕ) → HasTooManySets limit bound i cs a → HasTooManySets limit bound i cs b → a ≡ b
    one_size a b l m = elim (cases_lt a b) [
      | inl lt ↦ absurd (refused a b l lt m.passed)
      | inr le ↦ elim (eq-or-lt_of_le le) [ inl e ↦ sym e | inr gt ↦ absurd (refused b a m gt l.passed) ]
    ]

    pub not_many : (set tags : List (List Lit)) (size : ℕ) → HasLeastCover limit bound i cs set tags → HasTooManySets limit bound i cs size → ⊥
    not_many set tags size l m = elim (cases_lt (length set) size) [
      | inl lt ↦ found set tags size l lt m.passed
      | inr le ↦ elim (eq-or-lt_of_le le) [
        | inl e ↦ absurd (omega (arith, m.many, subst (λ (k : ℕ). choose (length cs) k ≤ limit) (sym e) l.few))
        | inr gt ↦ refused size (length set) m gt l.passed
      ]
    ]

    pub not_none : (set tags : List (List Lit)) → HasLeastCover limit bound i cs set tags → HasNoCover limit bound i cs → ⊥
    not_none set tags l none = found set tags (bound + 1) l (omega (arith, l.in_bound)) none

    pub never_refused : (size : ℕ) → HasNoCover limit bound i cs → HasTooManySets limit bound i cs size → ⊥
    never_refused size none m = refused size (bound + 1) m (omega (arith, m.in_bound)) none
