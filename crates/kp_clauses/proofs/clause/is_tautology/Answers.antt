use Rattle.std.proofs.Common.{◌≡◌, ◌∷◌, sym, ◌∙◌, ap, subst}
use Rattle.kp_base.specs.LitSet.{IsAscending}
use Rattle.kp_base.specs.Implicates.{is_tautology}
use Rattle.kp_clauses.proofs.Walking.{pair_is}
use Rattle.kp_clauses.proofs.clause.is_tautology.Goals as goal

-- the two stand side by side
pub returns-in-Some : goal.returns-in-Some
returns-in-Some c =
    let whole : c.args.c.now ≡ c.in-Some.x.now ∷ c.in-Some.others.now = sym c.slice.ensures.value ∙ c.in-Some.ensures.cases.0 in
    c.has_pair.ensures ∙ (pair_is c.in-Some.x.now c.in-Some.others.now (subst IsAscending whole c.slice.ensures.ascending) ∙ ap is_tautology (sym whole))
