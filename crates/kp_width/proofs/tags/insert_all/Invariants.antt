use Rattle.std.proofs.Common.{◌≡◌, drop, fold}
use Rattle.kp_cover.specs.Grown.{added}
use Rattle.kp_width.proofs.tags.insert_all.Given as goal

-- with the tags that are left come all
abbrev pub invariant-loop-tag : goal.invariant-loop-tag
invariant-loop-tag l = fold added l.tags (drop l.tag-index l.more) ≡ fold added l.fn.tags l.more
