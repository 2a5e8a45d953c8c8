-- Merges have one table.
use Rattle.std.proofs.Common.{◌≡◌, ℕ, List, [], ◌∷◌, map, refl, sym, ap₂, subst, ◌∙◌, inl, inr}
use Rattle.kp_base.specs.declared.lit.Lit.{Lit}
use Rattle.kp_base.specs.declared.ground.Initial.{Initial}
use Rattle.kp_base.specs.declared.ground.TagRow.{TagRow}
use Rattle.kp_base.specs.declared.ground.TagTable.{TagTable}
use Rattle.kp_base.specs.Lists.{Member}
use Rattle.kp_base.specs.LitSet.{IsAscending}
use Rattle.kp_base.specs.Entailed.{IsClosure}
use Rattle.kp_base.proofs.Lits.{contains_has, has_contains}
use Rattle.kp_base.proofs.Ascending.{same_members}
use Rattle.kp_tags.specs.MergeTables.{HasClosure}
use Rattle.kp_tags.specs.Laws.{IsTableOnce}

-- a tag has one closure
one_closure : (n : ℕ) (i : Initial) (tag c d : List Lit) → IsClosure n i tag c → IsClosure n i tag d → IsAscending c → IsAscending d → c ≡ d
one_closure n i tag c d is also s t = same_members c d s t
    (λ m h. has_contains d m (also.whole m (is.of_atoms m (contains_has c m h)) (is.entailed m (contains_has c m h))))
    (λ m h. has_contains c m (is.whole m (also.of_atoms m (contains_has d m h)) (also.entailed m (contains_has d m h))))

one_row : (atoms : ℕ) (i : Initial) (r q : TagRow) → r.lits ≡ q.lits → HasClosure atoms i r → HasClosure atoms i q → r ≡ q
one_row atoms i r q same is also =
    ap₂ (λ lits closure. let row : TagRow = record { lits = lits; closure = closure } in row) same
    (one_closure atoms i q.lits r.closure q.closure (subst (λ t. IsClosure atoms i t r.closure) same is.closure) also.closure is.ascending also.ascending)

one_list : (atoms : ℕ) (i : Initial) (rs qs : List TagRow) → map (λ row. row.lits) rs ≡ map (λ row. row.lits) qs → ((r : TagRow) → Member rs r → HasClosure atoms i r) → ((q : TagRow) → Member qs q → HasClosure atoms i q) → rs ≡ qs
one_list atoms i [] [] same is also = refl
one_list atoms i [] (q ∷ qs) same is also = cc
one_list atoms i (r ∷ rs) [] same is also = cc
one_list atoms i (r ∷ rs) (q ∷ qs) same is also =
    let first : r.lits ≡ q.lits = cc in
    let others : map (λ row. row.lits) rs ≡ map (λ row. row.lits) qs = cc in
    ap₂ (λ (x : TagRow) (xs : List TagRow). x ∷ xs) (one_row atoms i r q first (is r (inl refl)) (also q (inl refl)))
    (one_list atoms i rs qs others (λ x m. is x (inr m)) (λ x m. also x (inr m)))

pub one_table : IsTableOnce
one_table atoms i ms t u is also =
    ap₂ (λ tags merges. let table : TagTable = record { tags = tags; merges = merges } in table)
    (one_list atoms i t.tags u.tags (is.tags ∙ sym also.tags) is.closures also.closures)
    (is.merges ∙ sym also.merges)
