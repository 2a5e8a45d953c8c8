-- What holds of each element of a list.
use Rattle.std.proofs.Common.{List, [], ◌∷◌, map, refl, subst, inl, inr}
use Rattle.std.specs.List.{AllByRecursion}
use Rattle.kp_base.specs.Lists.{Member}

pub each_from : {X : Type 0} (P : X → Type 0) (xs : List X) → ((x : X) → Member xs x → P x) → AllByRecursion P xs
each_from P [] f = tt
each_from P (x ∷ xs) f = (f x (inl refl), each_from P xs (λ y m. f y (inr m)))

pub each_member : {X : Type 0} (P : X → Type 0) (xs : List X) (x : X) → AllByRecursion P xs → Member xs x → P x
each_member P [] x all m = absurd m
each_member P (y ∷ ys) x all (inl e) = subst P e all.0
each_member P (y ∷ ys) x all (inr m) = each_member P ys x all.1 m

pub each_weaker : {X : Type 0} (P Q : X → Type 0) → ((x : X) → P x → Q x) → (xs : List X) → AllByRecursion P xs → AllByRecursion Q xs
each_weaker P Q step [] h = tt
each_weaker P Q step (x ∷ xs) h = (step x h.0, each_weaker P Q step xs h.1)

-- what holds of each element holds of what it is mapped to
pub each_map : {X Y : Type 0} (P : X → Type 0) (Q : Y → Type 0) (f : X → Y) → ((x : X) → P x → Q (f x)) → (xs : List X) → AllByRecursion P xs → AllByRecursion Q (map f xs)
each_map P Q f step [] h = tt
each_map P Q f step (x ∷ xs) h = (step x h.0, each_map P Q f step xs h.1)
