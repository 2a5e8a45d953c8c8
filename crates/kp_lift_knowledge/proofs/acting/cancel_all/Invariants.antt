use Rattle.std.proofs.Common.{◌≡◌, ◌&&◌, length, take}
use Rattle.kp_base.specs.Machine.{persists}
use Rattle.kp_lift_knowledge.specs.Known.{known}
use Rattle.kp_lift_knowledge.specs.Tabled.{Turns}
use Rattle.kp_lift_knowledge.proofs.acting.cancel_all.Given as goal

abbrev pub invariant-loop-e : goal.invariant-loop-e
invariant-loop-e l = record {
  turns : Turns l.fn.after l.after (λ t x. known l.fn.after t x && persists (take l.e-index l.effects) (known l.before t) x);
  wide : length l.met ≡ l.before.tags;
}
