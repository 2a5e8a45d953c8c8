use Rattle.std.proofs.Common.{◌≡◌, ◌++◌, drop}
use Rattle.kp_cover.specs.Covered.{tags_found}
use Rattle.kp_cover.proofs.merge.tags_found.Given as goal

-- with the numbers that are left come all
abbrev pub invariant-loop-number : goal.invariant-loop-number
invariant-loop-number l = l.tags ++ tags_found l.table (drop l.number-index l.numbers) ≡ tags_found l.table l.numbers
