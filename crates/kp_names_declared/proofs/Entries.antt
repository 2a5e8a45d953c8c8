-- Declarations that are gathered one by one: which counts.
use Rattle.std.proofs.Common.{◌≡◌, ℕ, suc, ◌+◌, Bool, true, false, if◌then◌else◌, cond, List, [], ◌∷◌, ◌++◌, map, fold, find, is_some, Option, Some, None, refl, sym, ap, ◌∙◌, arith, true≢false}
use Rattle.std.specs.Map.{lookup}
use Rattle.std.specs.Option.{option_map, option_or}
use Rattle.std.proofs.lemmas.List.{map-append}
use Rattle.indexmap.specs.IndexMap.{insert_entry}
use Rattle.kp_tree_grammar.specs.declared.tree.Word.{Word}
use Rattle.kp_tree_grammar.specs.Trees.{Pred, Domain}
use Rattle.kp_names_semantics.specs.Names.{Name, same}
use Rattle.kp_names_semantics.specs.Types.{names}
use Rattle.kp_names_semantics.specs.Numbering.{index_of}
use Rattle.kp_base.proofs.Lists.{same-true}
use Rattle.kp_names_semantics.proofs.Public.{same_name-sym}
use Rattle.kp_names_declared.specs.declared.predicates.Declared.{Declared}
use Rattle.kp_names_declared.specs.NameTables.{Entries, entries_from, with_entry, entry_of, declared_as, declaration_of}

-- what is found under a reference is found under its name
pub found : {K X : Type 0} (now : K → Name) (x : Name) (es : List (K × X)) → lookup (λ k. same x (now k)) es ≡ lookup (same x) (map (λ e. (now e.0, e.1)) es)
found now x [] = refl
found now x (e ∷ es) = ap (cond (same x (now e.0)) (Some e.1)) (found now x es)

-- entries under names
abbrev placed : {K X : Type 0} → (K → Name) → List (K × X) → List (Name × X)
placed now es = map (λ e. (now e.0, e.1)) es

pub entered : {K X : Type 0} (now : K → Name) (es : List (K × X)) (k : K) (v : X) → is_some (lookup (λ j. same (now k) (now j)) es) ≡ false
    → placed now (insert_entry (λ i j. same (now i) (now j)) es k v) ≡ (if is_some (lookup (same (now k)) (placed now es)) then placed now es else placed now es ++ (now k, v) ∷ [])
entered now es k v h =
    ap (placed now) (new now es k v h) ∙ map-append (λ e. (now e.0, e.1)) es ((k, v) ∷ [])
    ∙ sym (ap (λ b. if b then placed now es else placed now es ++ (now k, v) ∷ []) (sym (ap is_some (found now (now k) es)) ∙ h))
  where
    new : {K X : Type 0} (now : K → Name) (es : List (K × X)) (k : K) (v : X) → is_some (lookup (λ j. same (now k) (now j)) es) ≡ false → insert_entry (λ i j. same (now i) (now j)) es k v ≡ es ++ (k, v) ∷ []
    new now [] k v h = refl
    new now (e ∷ es) k v h = by (same (now k) (now e.0)) h (new now es k v)
      where
        by : (b : Bool) → is_some (cond b (Some e.1) (lookup (λ j. same (now k) (now j)) es)) ≡ false
            → (is_some (lookup (λ j. same (now k) (now j)) es) ≡ false → insert_entry (λ i j. same (now i) (now j)) es k v ≡ es ++ (k, v) ∷ [])
            → (if b then (e.0, v) ∷ es else e ∷ insert_entry (λ i j. same (now i) (now j)) es k v) ≡ e ∷ (es ++ (k, v) ∷ [])
        by true h rest = absurd (true≢false h)
        by false h rest = ap (λ l. e ∷ l) (rest h)

pub kept : {K X : Type 0} (now : K → Name) (es : List (K × X)) (k : K) (v : X) → is_some (lookup (λ j. same (now k) (now j)) es) ≡ true
    → placed now es ≡ (if is_some (lookup (same (now k)) (placed now es)) then placed now es else placed now es ++ (now k, v) ∷ [])
kept now es k v h = sym (ap (λ b. if b then placed now es else placed now es ++ (now k, v) ∷ []) (sym (ap is_some (found now (now k) es)) ∙ h))

or_some : (a : Option Declared) (b c : Option Declared) → is_some a ≡ true → option_or a b ≡ option_or a c
or_some None b c h = absurd (true≢false (sym h))
or_some (Some v) b c h = refl

or_assoc : (a b c : Option Declared) → option_or (option_or a b) c ≡ option_or a (option_or b c)
or_assoc None b c = refl
or_assoc (Some v) b c = refl

entry_append : (es fs : Entries) (x : Name) → entry_of (es ++ fs) x ≡ option_or (entry_of es x) (entry_of fs x)
entry_append [] fs x = refl
entry_append (e ∷ es) fs x = by (same x e.0) (entry_append es fs x)
  where
    by : (b : Bool) → entry_of (es ++ fs) x ≡ option_or (entry_of es x) (entry_of fs x) → cond b (Some e.1) (entry_of (es ++ fs) x) ≡ option_or (cond b (Some e.1) (entry_of es x)) (entry_of fs x)
    by true rest = refl
    by false rest = rest

one_more : (es : Entries) (e : Name × Declared) (fs : Entries) (x : Name) → option_or (entry_of (with_entry es e) x) (entry_of fs x) ≡ option_or (entry_of es x) (entry_of (e ∷ fs) x)
one_more es e fs x = by (is_some (entry_of es e.0)) refl
  where
    known : is_some (entry_of es e.0) ≡ true → (b : Bool) → same x e.0 ≡ b → option_or (entry_of es x) (entry_of fs x) ≡ option_or (entry_of es x) (cond b (Some e.1) (entry_of fs x))
    known h false is = refl
    known h true is = or_some (entry_of es x) (entry_of fs x) (Some e.1) (ap (λ n. is_some (entry_of es n)) (same-true x e.0 is) ∙ h)

    last : (b : Bool) → option_or (cond b (Some e.1) None) (entry_of fs x) ≡ cond b (Some e.1) (entry_of fs x)
    last true = refl
    last false = refl

    by : (b : Bool) → is_some (entry_of es e.0) ≡ b → option_or (entry_of (if b then es else es ++ e ∷ []) x) (entry_of fs x) ≡ option_or (entry_of es x) (entry_of (e ∷ fs) x)
    by true h = known h (same x e.0) refl
    by false h =
        ap (λ o. option_or o (entry_of fs x)) (entry_append es (e ∷ []) x)
        ∙ or_assoc (entry_of es x) (entry_of (e ∷ []) x) (entry_of fs x)
        ∙ ap (option_or (entry_of es x)) (last (same x e.0))

gathered_entries : (es fs : Entries) (x : Name) → entry_of (fold with_entry es fs) x ≡ option_or (entry_of es x) (entry_of fs x)
gathered_entries es [] x = by (entry_of es x)
  where
    by : (o : Option Declared) → o ≡ option_or o None
    by None = refl
    by (Some v) = refl
gathered_entries es (e ∷ fs) x = gathered_entries (with_entry es e) fs x ∙ one_more es e fs x

first_declared : (n : ℕ) (qs : List (Pred Word)) (x : Name)
    → entry_of (entries_from n qs) x ≡ option_map (declared_as (n + index_of (names (map (λ q. q.head) qs)) x)) (find (λ q. same q.head.text x) qs)
first_declared n [] x = refl
first_declared n (q ∷ qs) x = by (same q.head.text x) (same_name-sym x q.head.text) (first_declared (suc n) qs x)
  where
    rest : ℕ
    rest = index_of (names (map (λ q. q.head) qs)) x

    by : (b : Bool) → same x q.head.text ≡ b
        → entry_of (entries_from (suc n) qs) x ≡ option_map (declared_as (suc n + rest)) (find (λ q. same q.head.text x) qs)
        → cond (same x q.head.text) (Some (declared_as n q)) (entry_of (entries_from (suc n) qs) x) ≡ option_map (declared_as (n + (if b then 0 else suc rest))) (cond b (Some q) (find (λ q. same q.head.text x) qs))
    by true e h =
        let zero' : n ≡ n + 0 = omega arith in
        ap (λ c. cond c (Some (declared_as n q)) (entry_of (entries_from (suc n) qs) x)) e ∙ ap (λ m. Some (declared_as m q)) zero'
    by false e h =
        let more : suc n + rest ≡ n + suc rest = omega arith in
        ap (λ c. cond c (Some (declared_as n q)) (entry_of (entries_from (suc n) qs) x)) e ∙ h ∙ ap (λ m. option_map (declared_as m) (find (λ q. same q.head.text x) qs)) more

-- the entries of all declarations have the first of each name
pub first_counts : (d : Domain Word) (x : Name) → entry_of (fold with_entry [] (entries_from 0 d.predicates)) x ≡ declaration_of d x
first_counts d x =
    let at : 0 + index_of (names (map (λ q. q.head) d.predicates)) x ≡ index_of (names (map (λ q. q.head) d.predicates)) x = omega arith in
    gathered_entries [] (entries_from 0 d.predicates) x ∙ first_declared 0 d.predicates x ∙ ap (λ m. option_map (declared_as m) (find (λ q. same q.head.text x) d.predicates)) at
