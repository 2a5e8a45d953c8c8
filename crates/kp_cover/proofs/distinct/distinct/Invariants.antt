use Rattle.std.proofs.Common.{◌≡◌, [], drop, fold}
use Rattle.kp_cover.specs.Grown.{added}
use Rattle.kp_cover.proofs.distinct.distinct.Given as goal

-- those that were kept were seen, and with the tags that are left come all
abbrev pub invariant-loop-tag : goal.invariant-loop-tag
invariant-loop-tag l = (l.kept ≡ l.seen) × (fold added l.kept (drop l.tag-index l.tags) ≡ fold added [] l.tags)
