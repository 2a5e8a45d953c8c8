use Rattle.std.proofs.Common.{◌≡◌, ◌*◌, false, replicate, sym, subst, List, Bool, ap, ◌∙◌}
use Rattle.kp_clash_exclusive.specs.Paired.{is_pair, words_of, IsSquare}
use Rattle.kp_clash_exclusive.specs.Starting.{denied, IsMarkedWith}
use Rattle.kp_clash_exclusive.proofs.Public.{pair_turned}
use Rattle.kp_clash.proofs.Initially.{none_empty, square_at_first, never_together}
use Rattle.kp_clash.proofs.find.never_together.Goals as goal

pub mark_clauses-requires-clause-square : goal.mark_clauses-requires-clause-square
mark_clauses-requires-clause-square c =
    let zeros : c.in_ok-table.table ≡ replicate (c.args.atoms * (words_of c.args.atoms * 64)) false = c.in_ok-table.ensures ∙ ap (λ n. replicate n false) c.in-Some.ensures.0 in
    subst (λ (t : List Bool). IsSquare c.args.atoms t) (sym zeros) (square_at_first c.args.atoms c.in-Some.ensures.1)

pub mark_clauses-requires-clause-not_empty : goal.mark_clauses-requires-clause-not_empty
mark_clauses-requires-clause-not_empty c = rw (c.slice.ensures, c.clauses-clauses.ensures.value) (none_empty c.args.primes.now c.clauses-clauses.ensures.whole)

pub returns : goal.returns
returns c =
    let size : c.in-Some.size ≡ c.args.atoms * (words_of c.args.atoms * 64) = c.in-Some.ensures.0 in
    let empty : c.in_ok-table.table ≡ replicate c.in-Some.size false = c.in_ok-table.ensures in
    let marked : IsMarkedWith c.args.atoms (denied c.args.primes.now.clauses) (replicate (c.args.atoms * (words_of c.args.atoms * 64)) false) c.mark_clauses.new.table = rw (← size, ← empty, ← c.clauses-clauses.ensures.value, ← c.slice.ensures) c.mark_clauses.ensures in
    never_together c.args.primes.now c.clauses-clauses.ensures.whole c.args.atoms c.mark_clauses.new.table marked (is_pair c.of_table.result) c.of_table.ensures (pair_turned c.of_table.result)
