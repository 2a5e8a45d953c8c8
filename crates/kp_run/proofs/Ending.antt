-- How a run ends before its outcome is known.
use Rattle.std.proofs.Common.{◌≡◌, ℕ, List, Vec, refl}
use Rattle.std.specs.declared.alloc.Global.{Global}
use Rattle.kp_outside.specs.declared.outside.OutsideStop.{OutsideStop}
use Rattle.kp_outside.specs.declared.outside.OutsideStop.TheVariants as stops
use Rattle.kp_run_outcome.specs.declared.status.Status.TheVariants as status
use Rattle.kp_run_outcome.specs.Ends.{Outside, NoGetFailed, NoPutFailed, NoWriteFailed, IsUntouched, stop_of}
use Rattle.kp_run.specs.Ends.{InputFails, Ends, read_failed, no_memory}

pub stopped_end : (words : List (Vec ℕ Global)) (old new : Outside) (stop : OutsideStop)
    → (stop ≡ stops.Failed → InputFails words old.held old.get_faults new.get_faults)
    → (stop ≡ stops.Memory → NoGetFailed old new) → NoPutFailed old new → NoWriteFailed old new → IsUntouched old new → Ends words old new (stop_of stop status.ReadFault)
stopped_end words old new stops.Failed failed gets puts writes same = read_failed (failed refl) refl puts writes same
stopped_end words old new stops.Memory failed gets puts writes same = no_memory refl (record { gets = gets refl; puts = puts; writes = writes }) same
