use Rattle.std.proofs.Common.{◌≡◌, ◌++◌, ◌∙◌, false, append-nil, sym, ap, subst}
use Rattle.std.specs.List.{list_any, range_with_len}
use Rattle.kp_base.specs.Relevance.{either_value}
use Rattle.kp_relevance.specs.Gathered.{are_paired}
use Rattle.kp_relevance.proofs.Closures.{some_closure, none_unsettled}
use Rattle.kp_relevance.proofs.gather.add_differing.Goals as goal

-- nothing is added, whatever is known
pub returns-else-is_some_split : goal.returns-else-is_some_split
returns-else-is_some_split c =
    let known = some_closure c.args.primes.now c.clauses-clauses.ensures.whole in
    let none = subst (λ n. list_any (λ p. are_paired c.args.relevance.now c.args.target (either_value p)) (range_with_len 0 n) ≡ false) c.atoms.ensures (sym c.is_some_split.ensures ∙ c.if-is_some_split.false) in
    (known.0, known.1, sym (ap (c.args.found.now ++◌) (none_unsettled c.args.relevance.now known.0 c.args.target (range_with_len 0 c.args.primes.now.atoms) none) ∙ append-nil c.args.found.now))
