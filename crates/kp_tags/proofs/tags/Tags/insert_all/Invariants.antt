use Rattle.std.proofs.Common.{◌≡◌, drop, fold}
use Rattle.kp_tags.specs.Kept.{with_tag}
use Rattle.kp_tags.proofs.tags.Tags.insert_all.Given as goal

-- with the tags that are left come all
abbrev pub invariant-loop-tag : goal.invariant-loop-tag
invariant-loop-tag l = fold with_tag l.self (drop l.tag-index l.tags) ≡ fold with_tag l.fn.self l.tags
