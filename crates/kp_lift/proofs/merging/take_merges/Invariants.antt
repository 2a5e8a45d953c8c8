use Rattle.kp_lift.specs.Running.{IsAbout}
use Rattle.kp_lift.proofs.Merges.{MergesRest}
use Rattle.kp_lift.proofs.merging.take_merges.Given as goal

-- the merges from m on do with what is known now what all do with what was known
abbrev pub invariant-loop-m : goal.invariant-loop-m
invariant-loop-m l = record { about : IsAbout l.ground l.table l.knowing; rest : MergesRest l.ground l.table l.fn.knowing l.fn.operators l.m l.knowing l.operators }
