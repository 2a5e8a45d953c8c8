use Rattle.std.proofs.Common.{◌≡◌, ◌<◌, ◌/◌, ℕ, true, false, get_or}
use Rattle.kp_relevance.proofs.lone.is_lone.Given as goal

-- none in the words so far
abbrev pub invariant-loop-w : goal.invariant-loop-w
invariant-loop-w l = (i : ℕ) → i / 64 < l.w → get_or l.row i false ≡ true → l.k ≡ i
