use Rattle.std.proofs.Common.{◌∙◌, ℕ, List, ap, subst, sym}
use Rattle.std.specs.List.{list_all}
use Rattle.kp_base.specs.declared.lit.Lit.{Lit}
use Rattle.kp_base.specs.Implicates.{are_below}
use Rattle.kp_base.specs.Relevance.{AreClausesFor}
use Rattle.kp_primes.specs.Held.{formula}
use Rattle.kp_width.specs.Found.{AnswersClauses}
use Rattle.kp_width.proofs.Ended.{by_clauses}
use Rattle.kp_width.proofs.target.row_of.Goals as goal

-- the clauses are of the atoms
pub row_over-requires : goal.row_over-requires
row_over-requires c =
    let g = c.args.problem.now.ground.now in
    let h = c.args.problem.now.primes.now in
    ap (list_all (are_below h.atoms)) c.slice.ensures
    ∙ c.relevant_clauses_are_of_atoms.ensures h c.clauses-whole.ensures.whole g.actions c.args.target c.in_ok-clauses.clauses (c.in_ok-clauses.ensures g c.requires.pairs c.requires.atoms)

pub returns : goal.returns
returns c =
    let g = c.args.problem.now.ground.now in
    let h = c.args.problem.now.primes.now in
    let t = c.args.target in
    let cs = c.in_ok-clauses.clauses in
    by_clauses c.args.limit c.args.bound g (formula h) t cs
    (subst (λ (n : ℕ). AreClausesFor g.actions n (formula h) t cs) (sym c.requires.atoms) (c.in_ok-clauses.ensures g c.requires.pairs c.requires.atoms))
    c.row_over.result
    (subst (λ (ds : List (List Lit)). AnswersClauses c.args.limit c.args.bound (formula h) ds t c.row_over.result) c.slice.ensures c.row_over.ensures)
