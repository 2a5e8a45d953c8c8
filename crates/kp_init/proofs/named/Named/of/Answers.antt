use Rattle.std.proofs.Common.{ap, ◌∙◌}
use Rattle.std.specs.List.{list_any}
use Rattle.kp_names.specs.View.{lifted_view}
use Rattle.kp_init.specs.NamedAtoms.{is_named_by}
use Rattle.kp_init.proofs.NamedAtoms.{all_named}
use Rattle.kp_init.proofs.named.Named.of.Goals as goal

pub invariant_of-result : goal.invariant_of-result
invariant_of-result c a = c.in_ok-named_by.ensures a ∙ (ap (list_any (is_named_by a)) c.slice.ensures ∙ all_named (lifted_view c.args.lifted.now) a)
