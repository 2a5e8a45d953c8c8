use Rattle.std.proofs.Common.{◌≡◌, ◌||◌, ℕ, drop, true, length}
use Rattle.kp_base.specs.Implicates.{are_below}
use Rattle.kp_base.specs.Lit.{positive, has}
use Rattle.kp_run_classical.specs.Certain.{marked}
use Rattle.kp_run_classical.proofs.certain.mark_all.Given as goal

-- what is left comes to be marked, too
abbrev pub invariant-loop-lit : goal.invariant-loop-lit
invariant-loop-lit l =
    (length l.marks ≡ length l.initial.marks)
    × (are_below (length l.initial.marks) (drop l.lit-index l.lits) ≡ true)
    × ((p : ℕ) → (has (drop l.lit-index l.lits) (positive p) || marked l.marks p) ≡ (has l.lits (positive p) || marked l.initial.marks p))
