-- A tree's entries, as the finite map that callers see.
use Rattle.std.proofs.Common.{◌≡◌, ℕ, Bool, true, false, cond, List, [], ◌∷◌, map, Option, Some, None, Vec, sym, ap, ◌∙◌, refl}
use mathlib.Core.Bool.{true≢false}
use Rattle.std.specs.Cmp.{Equal-is}
use Rattle.std.specs.BTreeMap.{BTreeMap, insert_entry, is_at}
use Rattle.std.specs.Map.{lookup}
use Rattle.std.specs.declared.cmp.Ordering.{Ordering}
use Rattle.std.specs.declared.cmp.Ordering.TheVariants.{Less, Equal, Greater}
use Rattle.std.specs.declared.alloc.Global.{Global}
use Rattle.std.specs.Ordering.{nat_cmp, eq_by_cmp, match_ordering, is_eq}
use Rattle.std.specs.Cmp.Lexicographic.{slice_cmp, nat_list_cmp_total}
use Rattle.std.specs.FinMap.{get, get-empty, get-insert, get-remove, insert, remove, same_map, from_entries, slice_cmp-IsAntisymmetric, nat_cmp-IsAntisymmetric}
use Rattle.kp_outside.specs.Outside.{FileMap}
use Rattle.kp_outside.specs.Files.{files}

abbrev Name : Type 0
Name = Vec ℕ Global

abbrev Entry : Type 0
Entry = Name × List ℕ

abbrev of_bytes : List ℕ → List ℕ → Ordering
of_bytes = slice_cmp nat_cmp

abbrev of_names : Name → Name → Ordering
of_names k l = of_bytes k.items l.items

abbrev entries_map : List Entry → FileMap
entries_map es = from_entries (map (λ e. (e.0.items, e.1)) es)

-- maps that answer alike are equal
alike : (m n : FileMap) → ((q : List ℕ) → get m q ≡ get n q) → m ≡ n
alike = same_map nat_list_cmp_total (slice_cmp-IsAntisymmetric nat_cmp-IsAntisymmetric)

same_name : (k l : List ℕ) → of_bytes k l ≡ Equal → k ≡ l
same_name = slice_cmp-IsAntisymmetric nat_cmp-IsAntisymmetric

twice : {X : Type 0} (b : Bool) (x y : X) (o : Option X) → cond b (Some x) (cond b (Some y) o) ≡ cond b (Some x) o
twice true x y o = refl
twice false x y o = refl

gone : {X : Type 0} (b : Bool) (x : X) (o : Option X) → cond b None (cond b (Some x) o) ≡ cond b None o
gone true x o = refl
gone false x o = refl

-- the later content of a name counts
pub insert_twice : (m : FileMap) (name new old : List ℕ) → insert (insert m name old) name new ≡ insert m name new
insert_twice m name new old = alike _ _ (λ q.
    get-insert nat_list_cmp_total (insert m name old) name new q
    ∙ ap (cond (eq_by_cmp of_bytes q name) (Some new)) (get-insert nat_list_cmp_total m name old q)
    ∙ twice (eq_by_cmp of_bytes q name) new old (get m q)
    ∙ sym (get-insert nat_list_cmp_total m name new q))

-- what is set goes with its name
pub others_stay : (m : FileMap) (name bytes : List ℕ) → remove (insert m name bytes) name ≡ remove m name
others_stay m name bytes = alike _ _ (λ q.
    get-remove nat_list_cmp_total (insert m name bytes) name q
    ∙ ap (cond (eq_by_cmp of_bytes q name) None) (get-insert nat_list_cmp_total m name bytes q)
    ∙ gone (eq_by_cmp of_bytes q name) bytes (get m q)
    ∙ sym (get-remove nat_list_cmp_total m name q))

-- the names of what is set are in no order
both : {X : Type 0} (b c : Bool) (x y : X) (o : Option X) → (b ≡ true → c ≡ true → ⊥) → cond b (Some x) (cond c (Some y) o) ≡ cond c (Some y) (cond b (Some x) o)
both true true x y o apart = absurd (apart refl refl)
both true false x y o apart = refl
both false c x y o apart = refl

pub insert_apart : (m : FileMap) (k l a b : List ℕ) → eq_by_cmp of_bytes k l ≡ false → insert (insert m k a) l b ≡ insert (insert m l b) k a
insert_apart m k l a b apart = alike _ _ (λ q.
    get-insert nat_list_cmp_total (insert m k a) l b q
    ∙ ap (cond (eq_by_cmp of_bytes q l) (Some b)) (get-insert nat_list_cmp_total m k a q)
    ∙ both (eq_by_cmp of_bytes q l) (eq_by_cmp of_bytes q k) b a (get m q) (λ at_l at_k.
    true≢false (sym at_l ∙ ap is_eq (nat_list_cmp_total.congr q k l ((Equal-is (of_bytes q k)).0 at_k)) ∙ apart))
    ∙ sym (get-insert nat_list_cmp_total (insert m l b) k a q ∙ ap (cond (eq_by_cmp of_bytes q k) (Some a)) (get-insert nat_list_cmp_total m l b q)))

-- a name is found among the entries as in the map
pub get_entries : (es : List Entry) (q : List ℕ) → lookup (is_at (λ k. of_bytes q k.items)) es ≡ get (entries_map es) q
get_entries [] q = sym (get-empty of_bytes q)
get_entries (e ∷ es) q =
    ap (cond (eq_by_cmp of_bytes q e.0.items) (Some e.1)) (get_entries es q)
    ∙ sym (get-insert nat_list_cmp_total (entries_map es) e.0.items e.1 q)

pub get_files : (tree : BTreeMap Name (List ℕ)) (q : List ℕ) → lookup (is_at (λ k. of_bytes q k.items)) tree.entries ≡ get (files tree) q
get_files tree q = get_entries tree.entries q

-- an entry is set among the entries as in the map
pub set_entries : (es : List Entry) (k : Name) (v : List ℕ) → entries_map (insert_entry of_names es k v) ≡ insert (entries_map es) k.items v
set_entries [] k v = refl
set_entries (e ∷ es) k v = by (of_names k e.0) refl (set_entries es k v)
  where
    by : (r : Ordering) → of_names k e.0 ≡ r
        → entries_map (insert_entry of_names es k v) ≡ insert (entries_map es) k.items v
        → entries_map (match_ordering r ((k, v) ∷ e ∷ es) ((e.0, v) ∷ es) (e ∷ insert_entry of_names es k v)) ≡ insert (entries_map (e ∷ es)) k.items v
    by Less is rest = refl
    by Equal is rest = ap (λ name. insert (entries_map es) name v) (sym (same_name k.items e.0.items is))
        ∙ sym (insert_twice (entries_map es) k.items v e.1)
        ∙ ap (λ name. insert (insert (entries_map es) name e.1) k.items v) (same_name k.items e.0.items is)
    by Greater is rest = ap (λ m. insert m e.0.items e.1) rest
        ∙ insert_apart (entries_map es) k.items e.0.items v e.1 (ap is_eq is)

pub files_set : (old new : BTreeMap Name (List ℕ)) (k : Name) (v : List ℕ) → new.entries ≡ insert_entry of_names old.entries k v → files new ≡ insert (files old) k.items v
files_set old new k v is = ap entries_map is ∙ set_entries old.entries k v
