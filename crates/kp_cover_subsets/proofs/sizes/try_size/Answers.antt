use Rattle.std.proofs.Common.{◌∙◌, option_map, sym, ap, inl, inr, arith}
use Rattle.kp_cover_subsets.proofs.sizes.try_size.Goals as goal

pub returns-then-skips : goal.returns-then-skips
returns-then-skips g c = inr (omega (arith, c.if-branch-from.true, c.in_ok-count_sets.ensures, c.from.ensures), c.if-skips.true)

pub returns-in-None : goal.returns-in-None
returns-in-None g c = inl (omega (arith, c.if-branch-from.false, c.in_ok-count_sets.ensures, c.from.ensures, c.ranges.limit.fits), sym c.in_ok-places.ensures ∙ ap (option_map (λ v. v.items)) c.in-None.is)
