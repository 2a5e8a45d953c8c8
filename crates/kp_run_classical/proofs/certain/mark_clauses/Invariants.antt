use Rattle.std.proofs.Common.{◌≡◌, ◌||◌, ℕ, drop, true, length}
use Rattle.std.specs.List.{list_any, list_all}
use Rattle.kp_base.specs.Implicates.{are_below}
use Rattle.kp_base.specs.Lit.{positive, has}
use Rattle.kp_run_classical.specs.Certain.{marked}
use Rattle.kp_run_classical.proofs.certain.mark_clauses.Given as goal

-- what is left comes to be marked, too
abbrev pub invariant-loop-clause : goal.invariant-loop-clause
invariant-loop-clause l =
    (length l.marks ≡ length l.initial.marks)
    × (list_all (are_below (length l.initial.marks)) (drop l.clause-index l.clauses) ≡ true)
    × ((p : ℕ) → (list_any (λ c. has c (positive p)) (drop l.clause-index l.clauses) || marked l.marks p) ≡ (list_any (λ c. has c (positive p)) l.clauses || marked l.initial.marks p))
