-- Instances of the program as plain data, and how far counts are followed.
use Rattle.std.specs.Prelude.{ℕ, ◌-◌, ◌^◌, min}
use Rattle.kp_names_semantics.specs.Lifted.{Instance}
use Rattle.kp_ground_semantics.specs.Ground.{instance}
use Rattle.kp_ground_instances.specs.declared.kept.Kept.{Kept}

-- an instance of the program
abbrev pub kept_view : Kept → Instance
kept_view k = instance k.schema k.objects

-- a count as far as a machine word goes, beyond every limit
abbrev pub capped : ℕ → ℕ
capped n = min n (2 ^ 128 - 1)
