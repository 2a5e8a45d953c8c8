use Rattle.std.proofs.Common.{◌∙◌, ◌+◌, ◌-◌, ◌<◌, sym, arith, length}
use Rattle.kp_base.specs.LitSet.{with_lit}
use Rattle.kp_cover.proofs.Testing.{more_fine}
use Rattle.kp_cover.proofs.tested.+all_meet.Goals as goal

pub all_meet-requires : goal.all_meet-requires
all_meet-requires t c =
    let fine = more_fine c.args.primes.now.clauses (λ x. with_lit x c.args.tag.now) c.lits_at-lits.result.now c.loop-l.l-index _ c.in-Some.more (sym c.in_ok-more.ensures ∙ c.in-Some.is) in
    let less : length c.args.places.now - (c.args.at + 1) < t = omega (arith, c.decreases, c.requires.at, c.if-at-places.false) in
    (less, (c.requires.clauses, (fine, omega (arith, c.requires.at, c.if-at-places.false))))
