-- Questions that are decided, and others that are made of them.
use Rattle.std.proofs.Common.{◌≡◌, ◌↔◌, ◌⊎◌, Bool, true, false, List, [], ◌∷◌, refl, sym, subst, inl, inr}
use Rattle.std.proofs.lemmas.Bool.{false≢true}
use Rattle.kp_base.specs.Lists.{Member}

-- it is so, or it isn't
abbrev pub IsEither : Type 0 → Type 0
IsEither P = P ⊎ (P → ⊥)

-- whether it is
abbrev pub said : {P : Type 0} → IsEither P → Bool
said (inl p) = true
said (inr never) = false

pub told : {P : Type 0} (d : IsEither P) → (said d ≡ true) ↔ P
told (inl p) = (λ _. p, λ _. refl)
told (inr never) = (λ e. absurd (false≢true e), λ p. absurd (never p))

pub both : {P Q : Type 0} → IsEither P → IsEither Q → IsEither (P × Q)
both (inr never) q = inr (λ r. never r.0)
both (inl p) (inr never) = inr (λ r. never r.1)
both (inl p) (inl q) = inl (p, q)

pub denied : {P : Type 0} → IsEither P → IsEither (P → ⊥)
denied (inl p) = inr (λ never. never p)
denied (inr never) = inl never

-- what is so where and only where a decided one is
pub as_well : {P Q : Type 0} → (P → Q) → (Q → P) → IsEither P → IsEither Q
as_well to fro (inl p) = inl (to p)
as_well to fro (inr never) = inr (λ q. never (fro q))

module _ {X : Type 0} (P : X → Type 0) where
  -- some element, or none
  pub some_or_none : (xs : List X) → ((x : X) → Member xs x → IsEither (P x)) → ((x : X) × Member xs x × P x) ⊎ ((x : X) → Member xs x → P x → ⊥)
  some_or_none [] each = inr (λ x m. absurd m)
  some_or_none (y ∷ ys) each = go (each y (inl refl)) (some_or_none ys (λ x m. each x (inr m)))
    where
      go : IsEither (P y) → ((x : X) × Member ys x × P x) ⊎ ((x : X) → Member ys x → P x → ⊥) → ((x : X) × Member (y ∷ ys) x × P x) ⊎ ((x : X) → Member (y ∷ ys) x → P x → ⊥)
      go (inl p) rest = inl (y, inl refl, p)
      go (inr never) (inl (x, m, p)) = inl (x, inr m, p)
      go (inr never) (inr none) = inr (λ x m p. elim m [ inl e ↦ never (subst P (sym e) p) | inr r ↦ none x r p ])

  -- each element, or not each
  pub each_or_not : (xs : List X) → ((x : X) → Member xs x → IsEither (P x)) → IsEither ((x : X) → Member xs x → P x)
  each_or_not [] each = inl (λ x m. absurd m)
  each_or_not (y ∷ ys) each = go (each y (inl refl)) (each_or_not ys (λ x m. each x (inr m)))
    where
      go : IsEither (P y) → IsEither ((x : X) → Member ys x → P x) → IsEither ((x : X) → Member (y ∷ ys) x → P x)
      go (inr never) rest = inr (λ all. never (all y (inl refl)))
      go (inl p) (inr never) = inr (λ all. never (λ x m. all x (inr m)))
      go (inl p) (inl all) = inl (λ x m. elim m [ inl e ↦ subst P e p | inr r ↦ all x r ])

  -- the elements of which it is so
  pub kept : (xs : List X) → ((x : X) → Member xs x → IsEither (P x)) → (ys : List X) × ((x : X) → Member ys x ↔ (Member xs x × P x))
  kept [] each = ([], λ x. (λ m. absurd m, λ r. absurd r.0))
  kept (y ∷ ys) each = go (each y (inl refl)) (kept ys (λ x m. each x (inr m)))
    where
      go : IsEither (P y) → ((zs : List X) × ((x : X) → Member zs x ↔ (Member ys x × P x))) → (zs : List X) × ((x : X) → Member zs x ↔ (Member (y ∷ ys) x × P x))
      go (inl p) (zs, are) = (
        y ∷ zs,
        λ x. (
          λ m. elim m [ inl e ↦ (inl e, subst P e p) | inr r ↦ let h = (are x).0 r in (inr h.0, h.1) ],
          λ r. elim r.0 [ inl e ↦ inl e | inr m ↦ inr ((are x).1 (m, r.1)) ],
        ),
      )
      go (inr never) (zs, are) = (
        zs,
        λ x. (
          λ m. let h = (are x).0 m in (inr h.0, h.1),
          λ r. elim r.0 [ inl e ↦ absurd (never (subst P (sym e) r.1)) | inr m ↦ (are x).1 (m, r.1) ],
        ),
      )
