-- How a command ends at a put that stopped.
use Rattle.std.proofs.Common.{◌≡◌, refl}
use Rattle.kp_outside.specs.declared.outside.OutsideStop.{OutsideStop}
use Rattle.kp_outside.specs.declared.outside.OutsideStop.TheVariants as stops
use Rattle.kp_outside.specs.Outside.{Rises}
use Rattle.kp_run_outcome.specs.declared.outcome.FilePut.{FilePut}
use Rattle.kp_run_outcome.specs.declared.outcome.Outcome.{Outcome}
use Rattle.kp_run_outcome.specs.declared.status.Status.TheVariants as status
use Rattle.kp_run_outcome.specs.Ends.{Outside, NoGetFailed, NoPutFailed, NoWriteFailed, StopsAt, CarriesOut, put_failed, put_no_memory, stop_of}

pub put_stopped : (o : Outcome) (old new : Outside) (stop : OutsideStop) (file : FilePut) → StopsAt o.puts old.held new.held file → (stop ≡ stops.Failed → Rises (old.put_faults file.name) (new.put_faults file.name))
    → (stop ≡ stops.Memory → NoPutFailed old new) → NoGetFailed old new → NoWriteFailed old new → new.told ≡ old.told → CarriesOut o old new (stop_of stop status.WriteFault)
put_stopped o old new stops.Failed file at rises puts gets writes told = put_failed file refl at (rises refl) gets writes told
put_stopped o old new stops.Memory file at rises puts gets writes told = put_no_memory file refl at (record { gets = gets; puts = puts refl; writes = writes }) told
