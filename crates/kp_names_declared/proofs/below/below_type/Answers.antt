use Rattle.std.proofs.Common.{◌∙◌, [], ◌∷◌, length, subst, ap}
use Rattle.kp_tree_grammar.specs.View.{domain_view}
use Rattle.kp_names_declared.specs.Steps.{with_name, IsClosing}
use Rattle.kp_names_declared.proofs.TypesBelow.{closed_below}
use Rattle.kp_names_declared.proofs.below.below_type.Goals as goal

pub returns : goal.returns
returns c =
    let kinds = (domain_view c.args.known.now.domain).kinds in
    let top = c.args.top.now in
    let all = c.close.new.names in
    closed_below kinds (top ∷ []) all
    (subst (λ ps. IsClosing ps (top ∷ []) (length all) all) c.types_under.ensures
    (subst (λ old. IsClosing c.types_under.result.now old (length all) all) (c.in_ok-insert.ensures.names ∙ ap (λ z. with_name z top) c.new-below.ensures) c.in_ok-close.ensures))
