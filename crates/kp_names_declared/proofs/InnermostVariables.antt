-- What the entries of a scope tell once one more variable stands inside, and once one goes.
use Rattle.std.proofs.Common.{Bor, ◌≡◌, ◌<◌, ◌+◌, ◌-◌, ◌++◌, ℕ, Bool, true, false, if◌then◌else◌, cond, List, [], ◌∷◌, length, map, reverse, take, get_or, Option, Some, true≢false, refl, sym, ap, subst, ◌∙◌, arith}
use Rattle.std.proofs.lemmas.Grind.{common_steps}
use Rattle.std.proofs.lemmas.List.{take_more, take_all, reverse-append}
use Rattle.std.specs.Prelude.{unwrap_or}
use Rattle.std.specs.Map.{lookup}
use Rattle.indexmap.specs.IndexMap.{insert_entry}
use Rattle.kp_names_semantics.specs.Names.{Name, same}
use Rattle.kp_names_semantics.specs.Numbering.{variable_number}
use Rattle.kp_base.proofs.Lists.{same-true}
use Rattle.kp_names_semantics.proofs.Public.{same_name-sym}
use Rattle.kp_names_declared.specs.Steps.{AreInnermost}
use Rattle.kp_names_declared.specs.Scopes.{names_of, inward, KnowOuter, outside, within, IsScope}
use Rattle.kp_names_declared.specs.declared.scope.Variable.{Variable}
use Rattle.kp_names_declared.proofs.Entries.{found}

module _ {K : Type 0} (now : K → Name) where
  -- what is found once an entry is inserted
  pub inserted : (n : Name) (es : List (K × ℕ)) (k : K) (v : ℕ)
      → lookup (λ j. same n (now j)) (insert_entry (λ i j. same (now i) (now j)) es k v) ≡ cond (same n (now k)) (Some v) (lookup (λ j. same n (now j)) es)
  inserted n [] k v = refl
  inserted n (e ∷ es) k v = by (same (now k) (now e.0)) refl (inserted n es k v)
    where
      rest : Option ℕ
      rest = lookup (λ j. same n (now j)) es

      one : (b : Bool) → cond b (Some v) rest ≡ cond b (Some v) (cond b (Some e.1) rest)
      one true = refl
      one false = refl

      two : (a b : Bool) → (a ≡ true → b ≡ true → same (now k) (now e.0) ≡ true) → same (now k) (now e.0) ≡ false → cond a (Some e.1) (cond b (Some v) rest) ≡ cond b (Some v) (cond a (Some e.1) rest)
      two true true both none = absurd (true≢false (sym (both refl refl) ∙ none))
      two true false both none = refl
      two false b both none = refl

      both : same n (now e.0) ≡ true → same n (now k) ≡ true → same (now k) (now e.0) ≡ true
      both h g = ap (λ x. same x (now e.0)) (sym (same-true n (now k) g)) ∙ h

      by : (b : Bool) → same (now k) (now e.0) ≡ b
          → lookup (λ j. same n (now j)) (insert_entry (λ i j. same (now i) (now j)) es k v) ≡ cond (same n (now k)) (Some v) rest
          → lookup (λ j. same n (now j)) (if b then (e.0, v) ∷ es else e ∷ insert_entry (λ i j. same (now i) (now j)) es k v) ≡ cond (same n (now k)) (Some v) (cond (same n (now e.0)) (Some e.1) rest)
      by true is h =
          ap (λ x. cond (same n x) (Some v) rest) (sym (same-true (now k) (now e.0) is))
          ∙ one (same n (now k))
          ∙ ap (λ x. cond (same n (now k)) (Some v) (cond (same n x) (Some e.1) rest)) (same-true (now k) (now e.0) is)
      by false is h = ap (cond (same n (now e.0)) (Some e.1)) h ∙ two (same n (now e.0)) (same n (now k)) both is

  -- one more variable stands inside
  pub one_inside : (scope : List Name) (es : List (K × ℕ)) (k : K) (v : ℕ) → v ≡ length scope
      → AreInnermost scope (map (λ e. (now e.0, e.1)) es) → AreInnermost (now k ∷ scope) (map (λ e. (now e.0, e.1)) (insert_entry (λ i j. same (now i) (now j)) es k v))
  one_inside scope es k v is h = record {
    each = λ n.
        ap (λ o. unwrap_or o 0) (sym (found now n (insert_entry (λ i j. same (now i) (now j)) es k v)) ∙ inserted n es k v)
        ∙ (by n (same n (now k)) (ap (λ o. unwrap_or o 0) (found now n es) ∙ h.each n)
        ∙ ap (λ b. if b then length scope else variable_number scope n) (same_name-sym n (now k)));
  }
    where
      by : (n : Name) (a : Bool) → unwrap_or (lookup (λ j. same n (now j)) es) 0 ≡ variable_number scope n
          → unwrap_or (cond a (Some v) (lookup (λ j. same n (now j)) es)) 0 ≡ (if a then length scope else variable_number scope n)
      by n true g = is
      by n false g = g

  -- the innermost variable goes, and its name has the number again that it had outside
  pub one_outside : (scope : List Name) (es : List (K × ℕ)) (k : K) (v : ℕ) → v ≡ variable_number scope (now k)
      → AreInnermost (now k ∷ scope) (map (λ e. (now e.0, e.1)) es) → AreInnermost scope (map (λ e. (now e.0, e.1)) (insert_entry (λ i j. same (now i) (now j)) es k v))
  one_outside scope es k v is h = record {
    each = λ n.
        ap (λ o. unwrap_or o 0) (sym (found now n (insert_entry (λ i j. same (now i) (now j)) es k v)) ∙ inserted n es k v)
        ∙ by n (same n (now k)) refl (ap (λ o. unwrap_or o 0) (found now n es) ∙ h.each n);
  }
    where
      by : (n : Name) (a : Bool) → same n (now k) ≡ a → unwrap_or (lookup (λ j. same n (now j)) es) 0 ≡ (if same (now k) n then length scope else variable_number scope n)
          → unwrap_or (cond a (Some v) (lookup (λ j. same n (now j)) es)) 0 ≡ variable_number scope n
      by n true s g = is ∙ ap (variable_number scope) (sym (same-true n (now k) s))
      by n false s g = g ∙ ap (λ b. if b then length scope else variable_number scope n) (same_name-sym (now k) n ∙ s)

-- ---- variables that are kept

-- no variables
pub none_kept : (vs : List Variable) (es : List (Bor Name × ℕ)) → vs ≡ [] → es ≡ [] → IsScope vs (map (λ e. (e.0.now, e.1)) es)
none_kept vs es v e = rw (v, e) (record { innermost = record { each = λ n. refl }; outer = outside })

-- one more variable, which knows what its name had before
pub pushed : (vs : List Variable) (es : List (Bor Name × ℕ)) (v : Variable) (number : ℕ) → number ≡ length vs → v.before ≡ variable_number (inward vs) v.name.now → IsScope vs (map (λ e. (e.0.now, e.1)) es)
    → IsScope (vs ++ v ∷ []) (map (λ e. (e.0.now, e.1)) (insert_entry (λ i j. same i.now j.now) es v.name number))
pushed vs es v number is before h = record {
  innermost = rw (reverse-append vs (v ∷ [])) (one_inside (λ k. k.now) (inward vs) es v.name number (is ∙ count) h.innermost);
  outer = rw (reverse-append vs (v ∷ [])) (within v (reverse vs) before h.outer);
}
  where
    count : length vs ≡ length (inward vs)
    count = grind (arith, common_steps)

-- the last of some variables stands behind the others
last_behind : (vs : List Variable) (n : ℕ) (d : Variable) → n ≡ length vs → 0 < n → vs ≡ take (n - 1) vs ++ get_or vs (n - 1) d ∷ []
last_behind vs n d is some =
    let below : (n - 1) < length vs = omega (arith, is, some) in
    let up : (n - 1) + 1 ≡ length vs = omega (arith, is, some) in
    sym (take_all (length vs) vs (omega arith)) ∙ (ap (λ k. take k vs) (sym up) ∙ take_more vs (n - 1) d below)

-- the innermost variable goes
pub popped : (vs : List Variable) (es : List (Bor Name × ℕ)) (v : Variable) → IsScope (vs ++ v ∷ []) (map (λ e. (e.0.now, e.1)) es) → IsScope vs (map (λ e. (e.0.now, e.1)) (insert_entry (λ i j. same i.now j.now) es v.name v.before))
popped vs es v h = by (reverse (vs ++ v ∷ [])) (reverse-append vs (v ∷ [])) h.innermost h.outer
  where
    by : (us : List Variable) → us ≡ v ∷ reverse vs → AreInnermost (names_of us) (map (λ e. (e.0.now, e.1)) es) → KnowOuter us → IsScope vs (map (λ e. (e.0.now, e.1)) (insert_entry (λ i j. same i.now j.now) es v.name v.before))
    by us is a b = go (subst KnowOuter is b)
      where
        go : KnowOuter (v ∷ reverse vs) → IsScope vs (map (λ e. (e.0.now, e.1)) (insert_entry (λ i j. same i.now j.now) es v.name v.before))
        go (within v' us' before rest) = record {
          innermost = one_outside (λ k. k.now) (inward vs) es v.name v.before before (subst (λ z. AreInnermost (names_of z) (map (λ e. (e.0.now, e.1)) es)) is a);
          outer = rest;
        }

-- the innermost of some variables goes
pub last_popped : (vs us : List Variable) (es : List (Bor Name × ℕ)) (n : ℕ) (d : Variable) → us ≡ vs → n ≡ length vs → 0 < n → IsScope vs (map (λ e. (e.0.now, e.1)) es)
    → IsScope (take (n - 1) vs) (map (λ e. (e.0.now, e.1)) (insert_entry (λ i j. same i.now j.now) es (get_or us (n - 1) d).name (get_or us (n - 1) d).before))
last_popped vs us es n d same_list is some h =
    subst (λ z. IsScope (take (n - 1) vs) (map (λ e. (e.0.now, e.1)) (insert_entry (λ i j. same i.now j.now) es (get_or z (n - 1) d).name (get_or z (n - 1) d).before))) (sym same_list)
    (popped (take (n - 1) vs) es (get_or vs (n - 1) d) (subst (λ z. IsScope z (map (λ e. (e.0.now, e.1)) es)) (last_behind vs n d is some) h))
