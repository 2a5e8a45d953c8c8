use Rattle.std.proofs.Common.{◌∙◌, sym, ap}
use Rattle.std.proofs.lemmas.List.{length-map}
use Rattle.kp_tree_grammar.specs.View.{domain_view, pred_view}
use Rattle.kp_names_declared.specs.NameTables.{entry_of}
use Rattle.kp_names_declared.proofs.NumbersOfNames.{found_predicate, missing_predicate}
use Rattle.kp_names_declared.proofs.tables.Names.predicate_number.Goals as goal

pub returns-in-Some : goal.returns-in-Some
returns-in-Some c =
    let self = c.self.inside in
    rw (← c.self.view_is) (found_predicate (domain_view self.domain.now) c.args.name.now c.in-Some.declared (c.in-Some.ensures ∙ (ap (entry_of self.predicate_names) c.slice.ensures ∙ c.self.invariant.predicates_known c.args.name.now)))

pub returns-in-None : goal.returns-in-None
returns-in-None c =
    let self = c.self.inside in
    rw (← c.self.view_is)
    (c.len.ensures
    ∙ (sym (length-map self.domain.now.predicates pred_view)
    ∙ missing_predicate (domain_view self.domain.now) c.args.name.now (c.in-None.ensures ∙ (ap (entry_of self.predicate_names) c.slice.ensures ∙ c.self.invariant.predicates_known c.args.name.now))))
