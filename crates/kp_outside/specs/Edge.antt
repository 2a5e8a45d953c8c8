-- The machine, as callers see it: what its errors are told as, and how often its files failed, but nothing of what they hold.
use Rattle.std.specs.Prelude.{◌≡◌, ◌↔◌, ℕ}
use Rattle.std.specs.IoError.{error_kind}
use Rattle.std.specs.declared.io.Error.{Error}
use Rattle.std.specs.declared.io.ErrorKind.TheVariants.{OutOfMemory}
use Rattle.kp_outside.specs.declared.outside.OutsideStop.{OutsideStop}
use Rattle.kp_outside.specs.declared.outside.OutsideStop.TheVariants.{Memory}

-- want of memory is told as such, and every other error as a failure
abbrev pub IsToldAs : Error → OutsideStop → Type 0
IsToldAs error stop = (stop ≡ Memory) ↔ (error_kind error ≡ OutOfMemory)

-- how many gets and how many puts failed, of all names together
pub record FileFaults : Type 0 where
  pub gets : ℕ
  pub puts : ℕ
