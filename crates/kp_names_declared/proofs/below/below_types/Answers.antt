use Rattle.std.proofs.Common.{length, subst}
use Rattle.kp_tree_grammar.specs.View.{domain_view}
use Rattle.kp_names_declared.specs.Steps.{IsClosing}
use Rattle.kp_names_declared.proofs.TypesBelow.{closed_below}
use Rattle.kp_names_declared.proofs.below.below_types.Goals as goal

pub returns : goal.returns
returns c =
    let all = c.close.new.names in
    closed_below (domain_view c.args.known.now.domain).kinds c.args.tops all (subst (λ ps. IsClosing ps c.args.tops (length all) all) c.types_under.ensures c.in_ok-close.ensures)
