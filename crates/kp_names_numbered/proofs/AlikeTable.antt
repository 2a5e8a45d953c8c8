-- A table of names with the objects of another: what is found in it, and what comes of one more entry.
use Rattle.std.proofs.Common.{◌≡◌, Bool, true, false, if◌then◌else◌, cond, List, [], ◌∷◌, map, Option, Some, None, unwrap_or, refl, sym, ap, ◌∙◌, true≢false}
use Rattle.std.specs.Map.{lookup}
use Rattle.std.specs.Option.{option_map}
use Rattle.indexmap.specs.IndexMap.{insert_entry}
use Rattle.kp_base.proofs.Lists.{same-true}
use Rattle.kp_names_semantics.specs.Names.{Name, same}
use Rattle.kp_names_numbered.specs.Alike.{AreAlike}

-- ---- references

module _ {K V : Type 0} (now : K → Name) (also : V → Name) where
  -- what is found under a reference is found under its name
  pub found : (n : Name) (es : List (K × V)) → option_map also (lookup (λ k. same n (now k)) es) ≡ lookup (same n) (map (λ e. (now e.0, also e.1)) es)
  found n [] = refl
  found n (e ∷ es) = by (same n (now e.0)) (found n es)
    where
      by : (b : Bool) → option_map also (lookup (λ k. same n (now k)) es) ≡ lookup (same n) (map (λ e. (now e.0, also e.1)) es)
          → option_map also (cond b (Some e.1) (lookup (λ k. same n (now k)) es)) ≡ cond b (Some (also e.1)) (lookup (same n) (map (λ e. (now e.0, also e.1)) es))
      by true rest = refl
      by false rest = rest

  -- what is inserted by references is inserted by names
  pub inserted : (es : List (K × V)) (k : K) (v : V)
      → map (λ e. (now e.0, also e.1)) (insert_entry (λ i j. same (now i) (now j)) es k v) ≡ insert_entry same (map (λ e. (now e.0, also e.1)) es) (now k) (also v)
  inserted [] k v = refl
  inserted (e ∷ es) k v = by (same (now k) (now e.0)) (inserted es k v)
    where
      by : (b : Bool) → map (λ e. (now e.0, also e.1)) (insert_entry (λ i j. same (now i) (now j)) es k v) ≡ insert_entry same (map (λ e. (now e.0, also e.1)) es) (now k) (also v)
          → map (λ e. (now e.0, also e.1)) (if b then (e.0, v) ∷ es else e ∷ insert_entry (λ i j. same (now i) (now j)) es k v)
          ≡ (if b then (now e.0, also v) ∷ map (λ e. (now e.0, also e.1)) es else (now e.0, also e.1) ∷ insert_entry same (map (λ e. (now e.0, also e.1)) es) (now k) (also v))
      by true rest = refl
      by false rest = ap (λ l. (now e.0, also e.1) ∷ l) rest

-- ---- names

-- what is found once an entry is inserted
pub found_then : (n : Name) (es : List (Name × Name)) (k v : Name) → lookup (same n) (insert_entry same es k v) ≡ cond (same n k) (Some v) (lookup (same n) es)
found_then n [] k v = refl
found_then n (e ∷ es) k v = by (same k e.0) refl (found_then n es k v)
  where
    rest : Option Name
    rest = lookup (same n) es

    one : (b : Bool) → cond b (Some v) rest ≡ cond b (Some v) (cond b (Some e.1) rest)
    one true = refl
    one false = refl

    two : (a b : Bool) → (a ≡ true → b ≡ true → same k e.0 ≡ true) → same k e.0 ≡ false → cond a (Some e.1) (cond b (Some v) rest) ≡ cond b (Some v) (cond a (Some e.1) rest)
    two true true both none = absurd (true≢false (sym (both refl refl) ∙ none))
    two true false both none = refl
    two false b both none = refl

    both : same n e.0 ≡ true → same n k ≡ true → same k e.0 ≡ true
    both h g = ap (λ x. same x e.0) (sym (same-true n k g)) ∙ h

    by : (b : Bool) → same k e.0 ≡ b → lookup (same n) (insert_entry same es k v) ≡ cond (same n k) (Some v) rest
        → lookup (same n) (if b then (e.0, v) ∷ es else e ∷ insert_entry same es k v) ≡ cond (same n k) (Some v) (cond (same n e.0) (Some e.1) rest)
    by true is h =
        ap (λ x. cond (same n x) (Some v) rest) (sym (same-true k e.0 is))
        ∙ one (same n k)
        ∙ ap (λ x. cond (same n k) (Some v) (cond (same n x) (Some e.1) rest)) (same-true k e.0 is)
    by false is h = ap (cond (same n e.0) (Some e.1)) h ∙ two (same n e.0) (same n k) both is

-- ---- what is the same for both names of an entry

module _ (f : Name → Bool) (es : List (Name × Name)) where
  -- one more entry for whose names it is the same
  pub alike_more : AreAlike f es → (k v : Name) → f k ≡ f v → AreAlike f (insert_entry same es k v)
  alike_more h k v e = record { each = λ n c is. by n c (same n k) refl (sym (found_then n es k v) ∙ is) }
    where
      by : (n c : Name) (b : Bool) → same n k ≡ b → cond b (Some v) (lookup (same n) es) ≡ Some c → f n ≡ f c
      by n c true s is = let value : v ≡ c = cc in ap f (same-true n k s) ∙ (e ∙ ap f value)
      by n c false s is = h.each n c is

  -- it is the same for a name and where that leads, if it leads on
  pub alike_after : {V : Type 0} (now : V → Name) → AreAlike f es → (n : V) (o : Option V) → option_map now o ≡ lookup (same (now n)) es → f (now n) ≡ f (now (unwrap_or o n))
  alike_after now h n None is = refl
  alike_after now h n (Some c) is = h.each (now n) (now c) (sym is)
