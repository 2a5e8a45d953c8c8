-- Lists by their parts: what is found, taken, pushed and gathered.
use Rattle.std.proofs.Common.{◌≡◌, Bool, true, false, cond, List, [], ◌∷◌, ◌++◌, Option, Some, option_map, map, find, refl, sym, ap, ◌∙◌, append_assoc, append-nil}
use Rattle.std.proofs.lemmas.List.Sums.{take_while-cons}
use Rattle.std.specs.List.{list_all, flat_map, take_while}
use Rattle.kp_base.specs.Lists.{Member}
use Rattle.kp_base.proofs.Lists.{all_from, all_member, flat_member}

pub find_map : {X Y : Type 0} (m : X → Y) (g : Y → Bool) (h : X → Bool) (xs : List X) → ((x : X) → g (m x) ≡ h x) → find g (map m xs) ≡ option_map m (find h xs)
find_map m g h [] e = refl
find_map {X} {Y} m g h (x ∷ xs) e = rw (e x, find_map m g h xs e) (pick (h x) (find h xs))
  where
    pick : (t : Bool) (o : Option X) → cond t (Some (m x)) (option_map m o) ≡ option_map m (cond t (Some x) o)
    pick true o = refl
    pick false o = refl

pub take_while_next : {X : Type 0} (p : X → Bool) (x : X) (xs : List X) → p x ≡ true → take_while p (x ∷ xs) ≡ x ∷ take_while p xs
take_while_next p x xs e = take_while-cons p x xs ∙ rw e refl

pub flat_map-push : {X Y : Type 0} (f : X → List Y) (xs : List X) (x : X) → flat_map f (xs ++ x ∷ []) ≡ flat_map f xs ++ f x
flat_map-push f [] x = append-nil (f x)
flat_map-push f (y ∷ ys) x = ap (λ zs. f y ++ zs) (flat_map-push f ys x) ∙ sym (simp append_assoc)

-- a test on all that is gathered
pub all_flat_map : {X Y : Type 0} (p : Y → Bool) (f : X → List Y) (xs : List X) → ((x : X) → Member xs x → list_all p (f x) ≡ true) → list_all p (flat_map f xs) ≡ true
all_flat_map p f xs h = all_from p (flat_map f xs) (λ y m. let r = flat_member f xs y m in all_member p (f r.0) y r.2 (h r.0 r.1))

-- what stands before a last one is one, and so is the last
pub last_once : {X : Type 0} (xs ys : List X) (x y : X) → xs ++ x ∷ [] ≡ ys ++ y ∷ [] → (xs ≡ ys) × (x ≡ y)
last_once [] [] x y e = (refl, cc)
last_once [] (v ∷ []) x y e = absurd cc
last_once [] (v ∷ w ∷ ys) x y e = absurd cc
last_once (v ∷ []) [] x y e = absurd cc
last_once (v ∷ w ∷ xs) [] x y e = absurd cc
last_once (v ∷ xs) (w ∷ ys) x y e = let first : v ≡ w = cc in let rest : xs ++ x ∷ [] ≡ ys ++ y ∷ [] = cc in let r = last_once xs ys x y rest in (cc (first, r.0), r.1)
