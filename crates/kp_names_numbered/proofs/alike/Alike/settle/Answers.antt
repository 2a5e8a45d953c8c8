use Rattle.std.proofs.Common.{◌≡◌, ◌∙◌, IfSome, sym, ap, subst}
use Rattle.std.specs.List.{list_any}
use Rattle.kp_tree_grammar.specs.View.{domain_view, problem_view}
use Rattle.kp_names_semantics.specs.Names.{is_among}
use Rattle.kp_names_semantics.specs.Types.{is_of_type}
use Rattle.kp_names_numbered.specs.Alike.{AreAlike}
use Rattle.kp_names_numbered.proofs.AlikeTable.{alike_more}
use Rattle.kp_names_numbered.proofs.SameObjects.{settled}
use Rattle.kp_names_numbered.proofs.SameRanges.{none_of_it}
use Rattle.kp_names_numbered.proofs.alike.Alike.settle.Goals as goal

-- the objects of the type are those of the types under it, and so of the one to which these lead
pub returns : goal.returns
returns c o h =
    let d = domain_view c.args.names.now.domain in
    let p = problem_view c.args.names.now.problem in
    let f = is_of_type d p o in
    let out = sym c.has.ensures ∙ c.if-has.false in
    let under = c.in_ok-under.under in
    let all = c.in_ok-other.ensures.alike f h (λ n none. none_of_it d p c.args.inhabited.now c.requires.held n none o) in
    let lead : list_any f under ≡ f c.in-Some.other.now = subst (λ z. IfSome z (λ t. list_any f under ≡ f t.now)) c.in-Some.is all in
    let same = settled d p c.args.name.now (ap (λ ns. is_among ns c.args.name.now) (sym c.requires.own) ∙ out) o ∙ (ap (list_any f) (sym c.in_ok-under.ensures) ∙ lead) in
    subst (AreAlike f) (sym c.in_ok-insert.ensures.inserted) (alike_more f c.common.new.self (c.common.ensures.kept f h) c.args.name.now c.in-Some.other.now same)
