-- One merge after another: what the merges that are left make of what is known now, all make of what was known.
use Rattle.std.proofs.Common.{◌≡◌, ◌+◌, ℕ, suc, Bool, true, false, if◌then◌else◌, List, [], ◌∷◌, ◌++◌, append-nil, append_assoc, Some, map, length, drop, sym, ap, subst, ◌∙◌}
use Rattle.kp_base.specs.declared.ground.Ground.{Ground}
use Rattle.kp_base.specs.declared.ground.TagTable.{TagTable}
use Rattle.kp_base.specs.declared.ground.Merge.{Merge}
use Rattle.kp_base.specs.Lists.{only_if}
use Rattle.kp_base.specs.Machine.{MachineStep, Known, after_merge}
use Rattle.kp_lift_knowledge.specs.Known.{Table, Says}
use Rattle.kp_law_tagged_machine.specs.Lifts.{adds, after_merges, merges_taken}
use Rattle.kp_law_ktask.specs.Accepted.{op_number}

-- of what is known now, the merges from number m on make what all make of what was known; and so with the operators
pub record MergesRest (g : Ground) (table : TagTable) (old : Table) (ops : List ℕ) (m : ℕ) (new : Table) (done : List ℕ) : Type 0 where
  pub rest : (k : Known) → Says old k → (j : Known) × Says new j × (after_merges (drop m table.merges) j ≡ after_merges table.merges k) × (done ++ map (op_number g) (merges_taken m (drop m table.merges) j) ≡ ops ++ map (op_number g) (merges_taken 0 table.merges k))

-- the operators of a merge that is taken or not, and of those behind it
operators_more : (g : Ground) (m : ℕ) (x : Merge) (xs : List Merge) (k : Known) (ops done : List ℕ) → (b : Bool) → done ≡ ops ++ only_if b ((length g.actions + m) ∷ []) → done ++ map (op_number g) (merges_taken (suc m) xs (if b then after_merge (Some x) k else k)) ≡ ops ++ map (op_number g) (if b then MachineStep.merge m ∷ merges_taken (suc m) xs (after_merge (Some x) k) else merges_taken (suc m) xs k)
operators_more g m x xs k ops done true is =
    let later = map (op_number g) (merges_taken (suc m) xs (after_merge (Some x) k)) in
    ap (λ os. os ++ later) is ∙ append_assoc ops ((length g.actions + m) ∷ []) later
operators_more g m x xs k ops done false is =
    ap (λ os. os ++ map (op_number g) (merges_taken (suc m) xs k)) (is ∙ append-nil ops)

-- one is taken or not
pub merges_more : (g : Ground) (table : TagTable) (old : Table) (ops : List ℕ) (m n : ℕ) (x : Merge) (mid new : Table) (so_far done : List ℕ) → n ≡ suc m → drop m table.merges ≡ x ∷ drop n table.merges
    → ((k : Known) → Says mid k → Says new (after_merges (x ∷ []) k))
    → ((k : Known) → Says mid k → done ≡ so_far ++ only_if (adds x k) ((length g.actions + m) ∷ []))
    → MergesRest g table old ops m mid so_far → MergesRest g table old ops n new done
merges_more g table old ops m n x mid new so_far done next left known operators h = record { rest = rest }
  where
    rest : (k : Known) → Says old k → (j : Known) × Says new j × (after_merges (drop n table.merges) j ≡ after_merges table.merges k) × (done ++ map (op_number g) (merges_taken n (drop n table.merges) j) ≡ ops ++ map (op_number g) (merges_taken 0 table.merges k))
    rest k says =
        let r = h.rest k says in
        let knows : after_merges (x ∷ drop n table.merges) r.0 ≡ after_merges table.merges k = subst (λ (ys : List Merge). after_merges ys r.0 ≡ after_merges table.merges k) left r.2 in
        let goes : so_far ++ map (op_number g) (merges_taken m (x ∷ drop n table.merges) r.0) ≡ ops ++ map (op_number g) (merges_taken 0 table.merges k) = subst (λ (ys : List Merge). so_far ++ map (op_number g) (merges_taken m ys r.0) ≡ ops ++ map (op_number g) (merges_taken 0 table.merges k)) left r.3 in
        let one : done ++ map (op_number g) (merges_taken (suc m) (drop n table.merges) (after_merges (x ∷ []) r.0)) ≡ so_far ++ map (op_number g) (merges_taken m (x ∷ drop n table.merges) r.0) = operators_more g m x (drop n table.merges) r.0 so_far done (adds x r.0) (operators r.0 r.1) in
        (after_merges (x ∷ []) r.0, known r.0 r.1, knows, subst (λ i. done ++ map (op_number g) (merges_taken i (drop n table.merges) (after_merges (x ∷ []) r.0)) ≡ ops ++ map (op_number g) (merges_taken 0 table.merges k)) (sym next) (one ∙ goes))
