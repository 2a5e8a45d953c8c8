-- What the first place at which a test passes says.
use Rattle.std.proofs.Common.{◌≡◌, ◌<◌, ◌+◌, ℕ, zero, suc, Bool, true, false, if◌then◌else◌, List, [], ◌∷◌, Some, None, slice_get, refl, subst, arith}
use Rattle.std.specs.List.{position_from}

-- the element there passes, and those before it don't
pub record IsPlace {X : Type 0} (t : X → Bool) (n : ℕ) (xs : List X) (k : ℕ) : Type 0 where
  pub place : ℕ
  pub is : k ≡ n + place
  pub item : X
  pub item_at : slice_get xs place ≡ Some item
  pub passes : t item ≡ true
  pub before : (m : ℕ) (y : X) → m < place → slice_get xs m ≡ Some y → t y ≡ false

pub place_found : {X : Type 0} (t : X → Bool) (n : ℕ) (xs : List X) (k : ℕ) → position_from t n xs ≡ Some k → IsPlace t n xs k
place_found t n [] k h = absurd cc
place_found {X} t n (x ∷ xs) k h = by (t x) refl h (λ e. place_found t (n + 1) xs k e)
  where
    later : t x ≡ false → IsPlace t (n + 1) xs k → IsPlace t n (x ∷ xs) k
    later is r = record { place = suc r.place; is = omega (arith, r.is); item = r.item; item_at = r.item_at; passes = r.passes; before = earlier }
      where
        earlier : (m : ℕ) (y : X) → m < suc r.place → slice_get (x ∷ xs) m ≡ Some y → t y ≡ false
        earlier zero y lt g = let e : x ≡ y = cc in subst (λ z. t z ≡ false) e is
        earlier (suc m) y lt g = r.before m y (omega (arith, lt)) g

    by : (b : Bool) → t x ≡ b → (if b then Some n else position_from t (n + 1) xs) ≡ Some k → (position_from t (n + 1) xs ≡ Some k → IsPlace t (n + 1) xs k) → IsPlace t n (x ∷ xs) k
    by true is e rest = let f : n ≡ k = cc in record { place = zero; is = omega (arith, f); item = x; item_at = refl; passes = is; before = λ m y lt g. absurd (omega (arith, lt)) }
    by false is e rest = later is (rest e)

-- where there is none, no element passes
pub place_none : {X : Type 0} (t : X → Bool) (n : ℕ) (xs : List X) → position_from t n xs ≡ None → (m : ℕ) (y : X) → slice_get xs m ≡ Some y → t y ≡ false
place_none t n [] h m y g = absurd cc
place_none {X} t n (x ∷ xs) h m y g = by (t x) refl h m g (λ e k z. place_none t (n + 1) xs e k z)
  where
    by : (b : Bool) → t x ≡ b → (if b then Some n else position_from t (n + 1) xs) ≡ None → (m : ℕ) → slice_get (x ∷ xs) m ≡ Some y
        → (position_from t (n + 1) xs ≡ None → (k : ℕ) (z : X) → slice_get xs k ≡ Some z → t z ≡ false) → t y ≡ false
    by true is e m g rest = absurd cc
    by false is e zero g rest = let f : x ≡ y = cc in subst (λ z. t z ≡ false) f is
    by false is e (suc m) g rest = rest e m y g
