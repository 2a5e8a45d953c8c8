use Rattle.std.proofs.Common.{◌≡◌, ℕ, true, take}
use Rattle.std.specs.List.{list_all}
use Rattle.kp_clash_exclusive.specs.Paired.{is_pair}
use Rattle.kp_clash_exclusive.specs.Settled.{stays_in}
use Rattle.kp_clash.proofs.broken.broken.Given as goal

-- the actions so far keep each pair apart
abbrev pub invariant-loop-action : goal.invariant-loop-action
invariant-loop-action l = (p q : ℕ) → is_pair l.pairs p q ≡ true → list_all (stays_in (is_pair l.pairs) p q) (take l.action-index l.ground.actions) ≡ true
