use Rattle.std.proofs.Common.{[], sym, subst}
use Rattle.std.proofs.lemmas.Option.{none-some}
use Rattle.kp_tree_grammar.specs.View.{domain_view, problem_view}
use Rattle.kp_names_semantics.specs.Types.{is_of_type}
use Rattle.kp_names_numbered.specs.Alike.{AreAlike}
use Rattle.kp_names_numbered.proofs.alike.Alike.of.Goals as goal

-- an empty table has no entry
pub returns : goal.returns
returns c o =
    let f = is_of_type (domain_view c.args.names.now.domain) (problem_view c.args.names.now.problem) o in
    let nothing : AreAlike f [] = record { each = λ k n is. absurd (none-some n is) } in
    c.in_ok-settle_on.ensures o (subst (AreAlike f) (sym c.new-alike.ensures) nothing)
