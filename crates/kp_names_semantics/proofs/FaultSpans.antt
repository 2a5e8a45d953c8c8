-- Sets of faults whose tokens lie in a span of bytes, and of which no two are at one token.
use Rattle.std.proofs.Common.{◌≡◌, ◌≤◌, ◌<◌, ◌⊎◌, inl, inr, ℕ, Bool, true, false, List, [], ◌∷◌, ◌++◌, sym, ap, ◌∙◌, arith}
use Rattle.std.specs.List.{flat_map}
use Rattle.kp_base.specs.Lists.{Member, only_if}
use Rattle.kp_base.proofs.Lists.{append_member}
use Rattle.kp_names_semantics.specs.Faults.{Fault, unknown_name, byte_of}

-- each of these faults is at a token that begins in the span, and two at one token are one
pub record Apart (lo hi : ℕ) (F : Fault → Type 0) : Type 0 where
  pub ordered : lo ≤ hi
  pub within : (f : Fault) → F f → (lo ≤ byte_of f) × (byte_of f < hi)
  pub single : (f g : Fault) → F f → F g → byte_of f ≡ byte_of g → f ≡ g

-- no fault
pub empty : (lo hi : ℕ) (F : Fault → Type 0) → lo ≤ hi → ((f : Fault) → F f → ⊥) → Apart lo hi F
empty lo hi F le h = record { ordered = le; within = λ f m. absurd (h f m); single = λ f g m n e. absurd (h f m) }

-- some of them
pub fewer : {lo hi : ℕ} {F : Fault → Type 0} (G : Fault → Type 0) → Apart lo hi F → ((f : Fault) → G f → F f) → Apart lo hi G
fewer G a h = record { ordered = a.ordered; within = λ f m. a.within f (h f m); single = λ f g m n e. a.single f g (h f m) (h g n) e }

-- those of two spans, one behind the other
pub joined : {lo mid hi : ℕ} {F G : Fault → Type 0} → Apart lo mid F → Apart mid hi G → Apart lo hi (λ f. F f ⊎ G f)
joined {lo} {mid} {hi} {F} {G} a b = record {
  ordered = omega (arith, a.ordered, b.ordered);
  within = λ f m. elim m [
    | inl x ↦ ((a.within f x).0, omega (arith, (a.within f x).1, b.ordered))
    | inr y ↦ (omega (arith, (b.within f y).0, a.ordered), (b.within f y).1)
  ];
  single = one;
}
  where
    one : (f g : Fault) → F f ⊎ G f → F g ⊎ G g → byte_of f ≡ byte_of g → f ≡ g
    one f g (inl x) (inl y) e = a.single f g x y e
    one f g (inl x) (inr y) e = absurd (omega (arith, (a.within f x).1, (b.within g y).0, e))
    one f g (inr x) (inl y) e = absurd (omega (arith, (b.within f x).0, (a.within g y).1, e))
    one f g (inr x) (inr y) e = b.single f g x y e

-- faults of one kind, each at the token of a name of which nothing but being unknown was known
pub recast : {lo hi : ℕ} {F : Fault → Type 0} (kind : ℕ → Fault) (G : Fault → Type 0) → Apart lo hi F → ((f : Fault) → G f → F (unknown_name (byte_of f)) × (f ≡ kind (byte_of f))) → Apart lo hi G
recast kind G a h = record {
  ordered = a.ordered;
  within = λ f m. a.within (unknown_name (byte_of f)) (h f m).0;
  single = λ f g m n e. (h f m).1 ∙ (ap kind e ∙ sym (h g n).1);
}

-- ---- faults of the parts of a list

-- a fault of one of them
abbrev pub AnyOf : {X : Type 0} → (X → Fault → Type 0) → List X → Fault → Type 0
AnyOf F [] f = ⊥
AnyOf F (x ∷ xs) f = F x f ⊎ AnyOf F xs f

module _ {X : Type 0} where
  pub any_more : (F G : X → Fault → Type 0) (f : Fault) → ((x : X) → F x f → G x f) → (xs : List X) → AnyOf F xs f → AnyOf G xs f
  any_more F G f h [] m = absurd m
  any_more F G f h (x ∷ xs) m = elim m [ inl a ↦ inl (h x a) | inr b ↦ inr (any_more F G f h xs b) ]

  pub any_append : (F : X → Fault → Type 0) (f : Fault) (xs ys : List X) → AnyOf F (xs ++ ys) f → AnyOf F xs f ⊎ AnyOf F ys f
  any_append F f [] ys m = inr m
  any_append F f (x ∷ xs) ys m = elim m [ inl a ↦ inl (inl a) | inr b ↦ elim (any_append F f xs ys b) [ inl c ↦ inl (inr c) | inr c ↦ inr c ] ]

  -- a fault of a list that is put together
  pub any_spread : {Y : Type 0} (F : X → Fault → Type 0) (G : Y → Fault → Type 0) (g : Y → List X) (f : Fault) → ((y : Y) → AnyOf F (g y) f → G y f) → (ys : List Y) → AnyOf F (flat_map g ys) f → AnyOf G ys f
  any_spread F G g f h [] m = absurd m
  any_spread F G g f h (y ∷ ys) m = elim (any_append F f (g y) (flat_map g ys) m) [ inl a ↦ inl (h y a) | inr b ↦ inr (any_spread F G g f h ys b) ]

  -- a member of a list of faults that is put together
  pub any_member : (F : X → Fault → Type 0) (g : X → List Fault) (f : Fault) → ((x : X) → Member (g x) f → F x f) → (xs : List X) → Member (flat_map g xs) f → AnyOf F xs f
  any_member F g f h [] m = absurd m
  any_member F g f h (x ∷ xs) m = elim (append_member (g x) (flat_map g xs) f m) [ inl a ↦ inl (h x a) | inr b ↦ inr (any_member F g f h xs b) ]

-- the only fault that there may be
pub only_member : {x : Fault} (t : Bool) (f : Fault) → Member (only_if t (x ∷ [])) f → x ≡ f
only_member true f m = elim m [ inl e ↦ e | inr b ↦ absurd b ]
only_member false f m = absurd m
