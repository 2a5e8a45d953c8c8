-- Rows of tags with their closures.
use Rattle.std.proofs.Common.{◌≡◌, ◌+◌, ℕ, List, [], ◌∷◌, ◌++◌, Some, map, take, slice_get, sym, ap, ap₂, subst, ◌∙◌, inl, inr}
use Rattle.std.proofs.lemmas.List.{map-append}
use Rattle.kp_base.specs.declared.lit.Lit.{Lit}
use Rattle.kp_base.specs.declared.ground.TagRow.{TagRow}
use Rattle.kp_base.specs.Lists.{Member}
use Rattle.kp_base.specs.LitSet.{IsAscending, set_of}
use Rattle.kp_base.specs.Entailed.{IsClosure}
use Rattle.kp_base.proofs.Lists.{append_member, member_at, member_map}
use Rattle.kp_base.specs.declared.ground.Initial.{Initial}
use Rattle.kp_tags.specs.MergeTables.{HasClosure}
use Rattle.kp_tags.specs.Kept.{AreRows, IsRowOf}
use Rattle.kp_tags.proofs.Gathered.{set_again}
use Rattle.kp_tags.proofs.Places.{take_next}

-- with one tag more
pub one_more : (atoms : ℕ) (i : Initial) (tags : List (List Lit)) (tag : List Lit) (rows : List TagRow) (row : TagRow) → AreRows atoms i tags rows → IsRowOf atoms i tag row → AreRows atoms i (tags ++ tag ∷ []) (rows ++ row ∷ [])
one_more atoms i tags tag rows row are is = record {
  lits = map-append (λ (r : TagRow). r.lits) rows (row ∷ []) ∙ ap₂ (λ (xs : List (List Lit)) (x : List Lit). xs ++ x ∷ []) are.lits is.lits;
  closed = λ r m. elim (append_member rows (row ∷ []) r m) [
    | inl before ↦ are.closed r before
    | inr here ↦ elim here [ inl e ↦ subst (HasClosure atoms i) e is.closed | inr none ↦ absurd none ]
  ];
}

-- the set of a tag with its closure
pub row_is : (atoms : ℕ) (i : Initial) (tag lits closure : List Lit) (row : TagRow) → lits ≡ set_of tag → IsAscending tag → row.lits ≡ lits → row.closure ≡ closure → IsAscending closure → IsClosure atoms i lits closure → IsRowOf atoms i tag row
row_is atoms i tag lits closure row set rises same its ascends is = record {
  lits = same ∙ (set ∙ set_again tag rises);
  closed = record {
    closure = subst (λ c. IsClosure atoms i row.lits c) (sym its) (subst (λ t. IsClosure atoms i t closure) (sym same) is);
    ascending = subst IsAscending (sym its) ascends;
  };
}

-- a key's tag is one of the tags
pub key_is_tag : {K : Type 0} (seen : K → List Lit) (ks : List K) (tags : List (List Lit)) (n : ℕ) (k : K) → map seen ks ≡ tags → slice_get ks n ≡ Some k → Member tags (seen k)
key_is_tag seen ks tags n k are is = subst (λ ts. Member ts (seen k)) are (member_map seen ks k (member_at ks n k is))

-- one key more
pub next_row : {K : Type 0} (seen : K → List Lit) (atoms : ℕ) (i : Initial) (ks : List K) (n : ℕ) (k : K) (rows more : List TagRow) (row : TagRow) → slice_get ks n ≡ Some k → more ≡ rows ++ row ∷ [] → AreRows atoms i (map seen (take n ks)) rows → IsRowOf atoms i (seen k) row → AreRows atoms i (map seen (take (n + 1) ks)) more
next_row seen atoms i ks n k rows more row at grown are is =
    subst (λ ts. AreRows atoms i ts more) (sym (ap (map seen) (take_next ks n k at) ∙ map-append seen (take n ks) (k ∷ [])))
    (subst (AreRows atoms i (map seen (take n ks) ++ seen k ∷ [])) (sym grown) (one_more atoms i (map seen (take n ks)) (seen k) rows row are is))
