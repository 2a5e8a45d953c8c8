use Rattle.std.proofs.Common.{◌≡◌, ◌∙◌, ◌++◌, List, filter, ap}
use Rattle.kp_base.specs.declared.lit.Lit.{Lit}
use Rattle.kp_relevance.specs.Gathered.{is_wanted, unsettled_below, gathered}
use Rattle.kp_relevance.proofs.Clauses.{answers_clauses}
use Rattle.kp_relevance.proofs.relevance.gather.Goals as goal

pub returns : goal.returns
returns c =
    let pairs = c.args.relevance.now in
    let h = c.args.primes.now in
    let target = c.args.target in
    let differing = c.in_ok-add_differing.ensures in
    let known = differing.0 in
    let test : List Lit → _ = is_wanted pairs target in
    let none = c.new-found.ensures in
    let wanted = c.in_ok-add_wanted.ensures ∙ (ap (λ xs. xs ++ filter test c.slice.result.now) none ∙ ap (filter test) (c.slice.ensures ∙ c.clauses.ensures.value)) in
    let all : c.add_differing.new.found ≡ gathered pairs h.clauses known target h.atoms = differing.2 ∙ ap (λ xs. xs ++ unsettled_below pairs known target h.atoms) wanted in
    answers_clauses pairs h known target c.add_differing.new.found c.in_ok-clauses.clauses c.clauses.ensures.whole differing.1 c.requires all c.in_ok-clauses.ensures.same c.in_ok-clauses.ensures.order
