-- What a table keeps of types that were asked for, and one more part of a row.
use Rattle.std.proofs.Common.{◌≡◌, ◌<◌, ◌+◌, ℕ, Bool, true, false, if◌then◌else◌, cond, List, [], ◌∷◌, ◌++◌, length, map, drop, get_or, Some, Result, Ok, Err, OnOk, OnErr, refl, sym, ap, ap₂, ◌∙◌, arith}
use Rattle.std.specs.Map.{lookup}
use Rattle.std.proofs.lemmas.Grind.{common_steps}
use Rattle.indexmap.specs.IndexMap.{insert_entry}
use Rattle.kp_names_semantics.specs.Names.{Name, same}
use Rattle.kp_base.proofs.Lists.{same-true}

module _ {K : Type 0} (now : K → Name) (f : Name → List ℕ) where
  -- each entry has what belongs to its name
  abbrev pub AreRight : List (K × List ℕ) → Type 0
  AreRight es = map (λ e. e.1) es ≡ map (λ e. f (now e.0)) es

  pub found_right : (es : List (K × List ℕ)) (n : Name) (v : List ℕ) → lookup (λ k. same n (now k)) es ≡ Some v → AreRight es → v ≡ f n
  found_right [] n v h right = cc
  found_right (e ∷ es) n v h right = by (same n (now e.0)) refl h (λ g. found_right es n v g cc)
    where
      first : e.1 ≡ f (now e.0)
      first = cc

      by : (b : Bool) → same n (now e.0) ≡ b → cond b (Some e.1) (lookup (λ k. same n (now k)) es) ≡ Some v → (lookup (λ k. same n (now k)) es ≡ Some v → v ≡ f n) → v ≡ f n
      by true is g rest = let same_value : v ≡ e.1 = cc in same_value ∙ (first ∙ ap f (sym (same-true n (now e.0) is)))
      by false is g rest = rest g

  pub insert_right : (es : List (K × List ℕ)) (k : K) (v : List ℕ) → v ≡ f (now k) → AreRight es → AreRight (insert_entry (λ i j. same (now i) (now j)) es k v)
  insert_right [] k v h right = ap (λ z. z ∷ []) h
  insert_right (e ∷ es) k v h right = by (same (now k) (now e.0)) refl (insert_right es k v h others)
    where
      first : e.1 ≡ f (now e.0)
      first = cc

      others : AreRight es
      others = cc

      by : (b : Bool) → same (now k) (now e.0) ≡ b → AreRight (insert_entry (λ i j. same (now i) (now j)) es k v) → AreRight (if b then (e.0, v) ∷ es else e ∷ insert_entry (λ i j. same (now i) (now j)) es k v)
      by true is rest = ap₂ (λ a b. a ∷ b) (h ∙ ap f (same-true (now k) (now e.0) is)) others
      by false is rest = ap₂ (λ a b. a ∷ b) first rest

  -- whether there was room for one more or not
  pub both_right : {T E : Type 0} (r : Result T E) (old new more : List (K × List ℕ)) → OnOk r (new ≡ more) → OnErr r (new ≡ old) → AreRight old → AreRight more → AreRight new
  both_right (Ok x) old new more h k right rights = ap (map (λ e. e.1)) h ∙ (rights ∙ sym (ap (map (λ e. f (now e.0))) h))
  both_right (Err x) old new more h k right rights = ap (map (λ e. e.1)) k ∙ (right ∙ sym (ap (map (λ e. f (now e.0))) k))

-- one more part by number
pub map_more : {X Y Z : Type 0} (f : Y → Z) (g : X → Y) (xs : List X) (i : ℕ) (x : X) (row : List Z) (z : Z) (all : List Z) → i < length xs → x ≡ get_or xs i x → z ≡ f (g x)
    → row ++ map f (map g (drop i xs)) ≡ all → (row ++ z ∷ []) ++ map f (map g (drop (i + 1) xs)) ≡ all
map_more f g xs i x row z all lt at is h = grind (arith, common_steps)
