use Rattle.std.proofs.Common.{◌∙◌, refl, sym}
use Rattle.kp_primes.specs.Held.{formula}
use Rattle.kp_tags_modes.specs.Modes.{AreMergesBy}
use Rattle.kp_tags_modes.proofs.Behind.{adds_none}
use Rattle.kp_tags_modes.proofs.Searched.{empty_covers}
use Rattle.kp_tags_modes.proofs.targets.add_by_clauses.Goals as goal

-- the empty tag covers
pub returns-then-branch : goal.returns-then-branch
returns-then-branch c = adds_none c.args.target (AreMergesBy c.args.way c.args.limit (formula c.args.primes.now) c.args.clauses.now) c.args.merges.now c.args.merges.now
    (AreMergesBy.empty_tag (empty_covers c.covers_are_told.ensures c.args.primes.now c.clauses-whole.ensures.whole c.args.clauses.now (sym c.in_ok-is_cover.ensures ∙ c.if-branch.true))) refl
