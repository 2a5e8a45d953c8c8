-- Calls that are numbered, some of which fail: what the shelf and the sink in memory share.
use Rattle.std.specs.Prelude.{ℕ, ◌+◌, min, List, Contains, Result, Ok, Err}
use Rattle.kp_outside.specs.declared.outside.OutsideStop.{OutsideStop}
use Rattle.kp_outside.specs.declared.outside.OutsideStop.TheVariants.{Failed, Memory}
use Rattle.kp_outside.specs.Outside.{last_count}

-- the number after n, which stands still where a count stops
abbrev pub next : ℕ → ℕ
next n = min (n + 1) last_count

-- the call that comes after so many calls is among those that fail
abbrev pub IsFailing : List ℕ → ℕ → Type 0
IsFailing failing calls = Contains failing (next calls)

-- the count of faults after a call that returned this
abbrev pub faults_after : {T : Type 0} → Result T OutsideStop → ℕ → ℕ
faults_after (Ok x) faults = faults
faults_after (Err Memory) faults = faults
faults_after (Err Failed) faults = next faults
