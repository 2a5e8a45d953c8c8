-- A table that notes the number of each name tells the first of each.
use Rattle.std.proofs.Common.{◌≡◌, ℕ, ◌+◌, Bool, true, false, cond, if◌then◌else◌, List, [], ◌∷◌, map, Option, Some, None, is_some, refl, sym, ap, ◌∙◌, true≢false}
use Rattle.std.specs.List.{position_from}
use Rattle.std.specs.Map.{lookup}
use Rattle.std.specs.Option.{option_or}
use Rattle.std.proofs.lemmas.Bool.{and_parts, and_from}
use Rattle.indexmap.specs.IndexMap.{insert_entry}
use Rattle.kp_base.specs.declared.ground.GroundName.{GroundName}
use Rattle.kp_names_semantics.specs.Names.{same, all_same}
use Rattle.kp_names_semantics.specs.Encoding.{encoded}
use Rattle.kp_names_semantics.specs.GroundNames.{same_name}
use Rattle.kp_base.proofs.Lists.{same-true, same-refl}
use Rattle.kp_names_semantics.proofs.Public.{all_same_names-true, all_same_names-refl, names_are_encoded_once}
use Rattle.kp_plans.specs.WordTables.{number_under, IsTableOf}

-- ---- a name that is noted

-- the number of a word, where it is this one
abbrev only : List ℕ → List ℕ → ℕ → Option ℕ
only x w n = if same x w then Some n else None

module _ {K : Type 0} (now : K → List ℕ) where
  -- entries under words
  abbrev placed : List (K × ℕ) → List (List ℕ × ℕ)
  placed es = map (λ e. (now e.0, e.1)) es

  -- what stands under a word
  abbrev told : List (K × ℕ) → List ℕ → Option ℕ
  told es x = lookup (λ k. same x (now k)) es

  pub told_is : (es : List (K × ℕ)) (x : List ℕ) → told es x ≡ number_under (placed es) x
  told_is [] x = refl
  told_is (e ∷ es) x = ap (cond (same x (now e.0)) (Some e.1)) (told_is es x)

  entered : (es : List (K × ℕ)) (k : K) (n : ℕ) → is_some (told es (now k)) ≡ false → (x : List ℕ) → told (insert_entry (λ i j. same (now i) (now j)) es k n) x ≡ option_or (told es x) (only x (now k) n)
  entered [] k n new x = refl
  entered (e ∷ es) k n new x = by (same (now k) (now e.0)) new (λ h. entered es k n h x)
    where
      under : (t : Bool) (o p : Option ℕ) → o ≡ option_or p (only x (now k) n) → cond t (Some e.1) o ≡ option_or (cond t (Some e.1) p) (only x (now k) n)
      under true o p h = refl
      under false o p h = h

      by : (b : Bool) → is_some (cond b (Some e.1) (told es (now k))) ≡ false
          → (is_some (told es (now k)) ≡ false → told (insert_entry (λ i j. same (now i) (now j)) es k n) x ≡ option_or (told es x) (only x (now k) n))
          → told (if b then (e.0, n) ∷ es else e ∷ insert_entry (λ i j. same (now i) (now j)) es k n) x ≡ option_or (told (e ∷ es) x) (only x (now k) n)
      by true h rest = absurd (true≢false h)
      by false h rest = under (same x (now e.0)) (told (insert_entry (λ i j. same (now i) (now j)) es k n) x) (told es x) (rest h)

  -- a new word
  pub noted : (es fs : List (K × ℕ)) (k : K) (n : ℕ) (w : List ℕ) → now k ≡ w → is_some (told es (now k)) ≡ false → fs ≡ insert_entry (λ i j. same (now i) (now j)) es k n → (x : List ℕ) → number_under (placed fs) x ≡ option_or (number_under (placed es) x) (only x w n)
  noted es fs k n w e new is x =
      sym (told_is fs x) ∙ ap (λ (gs : List (K × ℕ)). told gs x) is ∙ entered es k n new x
      ∙ ap (λ (v : List ℕ). option_or (told es x) (only x v n)) e ∙ ap (λ (o : Option ℕ). option_or o (only x w n)) (told_is es x)

  -- a word that was noted before
  pub kept : (es : List (K × ℕ)) (v w : List ℕ) (n : ℕ) → v ≡ w → is_some (told es v) ≡ true → (x : List ℕ) → number_under (placed es) x ≡ option_or (number_under (placed es) x) (only x w n)
  kept es v w n e there x = by (same x w) refl
    where
      some_first : (o p : Option ℕ) → is_some o ≡ true → o ≡ option_or o p
      some_first None p h = absurd (true≢false (sym h))
      some_first (Some m) p h = refl

      or_none : (o : Option ℕ) → o ≡ option_or o None
      or_none None = refl
      or_none (Some m) = refl

      by : (b : Bool) → same x w ≡ b → number_under (placed es) x ≡ option_or (number_under (placed es) x) (if b then Some n else None)
      by true h =
          let is : v ≡ x = e ∙ sym (same-true x w h) in
          some_first (number_under (placed es) x) (Some n) (ap is_some (sym (told_is es x)) ∙ ap (λ (u : List ℕ). is_some (told es u)) (sym is) ∙ there)
      by false h = or_none (number_under (placed es) x)

-- ---- words and names

same_encoded : (n m : GroundName) → same (encoded n) (encoded m) ≡ same_name n m
same_encoded n m = by (same_name n m) refl (same (encoded n) (encoded m)) refl
  where
    one : same_name n m ≡ true → n ≡ m
    one e =
        let p = and_parts (same n.head m.head) (all_same n.objects m.objects) e in
        ap (λ (x : List ℕ). record { head = x; objects = n.objects }) (same-true n.head m.head p.0) ∙ ap (λ (xs : List (List ℕ)). record { head = m.head; objects = xs }) (all_same_names-true n.objects m.objects p.1)

    itself : (k : GroundName) → same_name k k ≡ true
    itself k = and_from (same k.head k.head) (all_same k.objects k.objects) (same-refl k.head) (all_same_names-refl k.objects)

    by : (s : Bool) → same_name n m ≡ s → (t : Bool) → same (encoded n) (encoded m) ≡ t → t ≡ s
    by true e true h = refl
    by true e false h = sym h ∙ ap (λ (k : GroundName). same (encoded n) (encoded k)) (sym (one e)) ∙ same-refl (encoded n)
    by false e true h = sym (itself n) ∙ ap (same_name n) (names_are_encoded_once n m (same-true (encoded n) (encoded m) h)) ∙ e
    by false e false h = refl

numbers_same : (n : GroundName) (ms : List GroundName) (i : ℕ) → position_from (same (encoded n)) i (map encoded ms) ≡ position_from (same_name n) i ms
numbers_same n [] i = refl
numbers_same n (m ∷ ms) i = ap (λ (b : Bool). cond b (Some i) (position_from (same (encoded n)) (i + 1) (map encoded ms))) (same_encoded n m) ∙ ap (cond (same_name n m) (Some i)) (numbers_same n ms (i + 1))

or_none : (o p : Option ℕ) → p ≡ None → option_or o p ≡ o
or_none None p e = e
or_none (Some m) p e = refl

pub is_table : (table : List (List ℕ × ℕ)) (names : List GroundName) (left : List ℕ → Option ℕ) → ((x : List ℕ) → left x ≡ None) → ((x : List ℕ) → option_or (number_under table x) (left x) ≡ position_from (same x) 0 (map encoded names)) → IsTableOf table names
is_table table names left none h = record { finds = λ n. sym (or_none (number_under table (encoded n)) (left (encoded n)) (none (encoded n))) ∙ h (encoded n) ∙ numbers_same n names 0 }
