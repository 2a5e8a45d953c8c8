use Rattle.std.proofs.Common.{List, subst, sym, true, ◌≡◌}
use Rattle.std.specs.List.{list_all}
use Rattle.kp_base.specs.declared.lit.Lit.{Lit}
use Rattle.kp_base.specs.Implicates.{are_below}
use Rattle.kp_primes.specs.Held.{formula}
use Rattle.kp_tags_modes.specs.Modes.{AreMergesBy}
use Rattle.kp_tags_modes.specs.Added.{AddsOrRefuses, IsRefusedBy, AreByRelevance, IsRefusedByRelevance}
use Rattle.kp_tags_modes.proofs.Behind.{refuses_as}
use Rattle.kp_tags_modes.proofs.Below.{answered_below}
use Rattle.kp_tags_modes.proofs.targets.add_for.Goals as goal

-- the clauses are of the atoms
pub add_by_clauses-requires-clause-below : goal.add_by_clauses-requires-clause-below
add_by_clauses-requires-clause-below c = subst (λ (cs : List (List Lit)). list_all (are_below c.args.primes.now.atoms) cs ≡ true) (sym c.slice.ensures)
    (answered_below c.args.relevance.now c.args.primes.now c.clauses-whole.ensures.whole c.args.target c.in_ok-clauses.clauses c.requires.of_some c.in_ok-clauses.ensures)

pub returns : goal.returns
returns c =
    let way = c.args.way in
    let limit = c.args.limit in
    let pairs = c.args.relevance.now in
    let h = c.args.primes.now in
    let t = c.args.target in
    let cs = c.in_ok-clauses.clauses in
    refuses_as t (AreMergesBy way limit (formula h) cs) (AreByRelevance way limit pairs h t) (IsRefusedBy way limit (formula h) cs) (IsRefusedByRelevance way limit pairs h t) c.args.merges.now c.add_by_clauses.new.merges c.add_by_clauses.result
    (λ lists by. record { clauses = cs; are_clauses = c.in_ok-clauses.ensures; by_clauses = by })
    (λ size by. record { clauses = cs; are_clauses = c.in_ok-clauses.ensures; refused = by })
    (subst (λ (ds : List (List Lit)). AddsOrRefuses t (AreMergesBy way limit (formula h) ds) (IsRefusedBy way limit (formula h) ds) c.args.merges.now c.add_by_clauses.new.merges c.add_by_clauses.result) c.slice.ensures c.add_by_clauses.ensures)
