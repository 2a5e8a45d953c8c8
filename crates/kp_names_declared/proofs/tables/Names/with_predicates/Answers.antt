use Rattle.std.proofs.Common.{◌∙◌, ap}
use Rattle.kp_tree_grammar.specs.View.{domain_view}
use Rattle.kp_names_semantics.specs.Names.{is_among}
use Rattle.kp_names_semantics.specs.Types.{types}
use Rattle.kp_names_declared.specs.NameTables.{entry_of}
use Rattle.kp_names_declared.proofs.Gathering.{among_all}
use Rattle.kp_names_declared.proofs.Entries.{first_counts}
use Rattle.kp_names_declared.proofs.tables.Names.with_predicates.Goals as goal

pub invariant_of-result : goal.invariant_of-result
invariant_of-result c = record {
  predicates_few = c.requires.few;
  types_known = λ name. ap (λ ns. is_among ns name) c.requires.types ∙ among_all (types (domain_view c.args.domain.now)) name;
  objects_known = c.requires.objects;
  predicates_known = λ name. ap (λ es. entry_of es name) c.requires.predicates ∙ first_counts (domain_view c.args.domain.now) name;
  types_declared = c.in_ok-declarations.ensures.types;
  objects_declared = c.in_ok-declarations.ensures.objects;
}
