use Rattle.std.proofs.Common.{◌∙◌, [], ap}
use Rattle.kp_primes.proofs.Public.{consistent_exact}
use Rattle.kp_cover.specs.Grown.{is_fine}
use Rattle.kp_cover.proofs.tested.is_cover.Goals as goal

pub all_meet-requires-clause-fine : goal.all_meet-requires-clause-fine
all_meet-requires-clause-fine c =
    let whole = c.clauses-whole.ensures.whole in
    ap (is_fine c.args.primes.now.clauses) c.new-tag.ensures ∙ (consistent_exact c.args.primes.now whole []).1 whole.has_model
