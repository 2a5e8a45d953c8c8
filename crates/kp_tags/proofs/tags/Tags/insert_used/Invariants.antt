use Rattle.std.proofs.Common.{◌≡◌, drop, fold}
use Rattle.std.specs.List.{flat_map}
use Rattle.kp_tags.specs.Kept.{with_tag}
use Rattle.kp_tags.proofs.tags.Tags.insert_used.Given as goal

-- with the merges that are left come all
abbrev pub invariant-loop-merge : goal.invariant-loop-merge
invariant-loop-merge l = fold with_tag l.self (flat_map (λ m. m.tags) (drop l.merge-index l.merges)) ≡ fold with_tag l.fn.self (flat_map (λ m. m.tags) l.merges)
