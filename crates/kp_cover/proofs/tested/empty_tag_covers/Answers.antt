use Rattle.std.proofs.Common.{◌∙◌, [], ap}
use Rattle.kp_primes.proofs.Public.{consistent_exact}
use Rattle.kp_cover.specs.Grown.{is_fine}
use Rattle.kp_cover.proofs.Answered.{empty_told}
use Rattle.kp_cover.proofs.tested.empty_tag_covers.Goals as goal

pub meets-requires-clause-fine : goal.meets-requires-clause-fine
meets-requires-clause-fine c =
    let whole = c.clauses-whole.ensures.whole in
    ap (is_fine c.args.primes.now.clauses) c.new-tag.ensures ∙ (consistent_exact c.args.primes.now whole []).1 whole.has_model

pub returns : goal.returns
returns c = empty_told c.args.primes.now c.clauses-whole.ensures.whole c.args.clauses.now c.in_ok-covers.covers (rw c.new-tag.ensures at c.in_ok-covers.ensures)
