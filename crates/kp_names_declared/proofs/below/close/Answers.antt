use Rattle.std.proofs.Common.{◌≡◌, subst, sym, Some, None, slice_get, fold}
use Rattle.kp_names_declared.specs.Steps.{with_name, under, IsClosing}
use Rattle.kp_names_declared.proofs.TypesBelow.{closing_goes_on, closing_ends, past_all}
use Rattle.kp_names_declared.proofs.below.close.Goals as goal

-- what stands under the next name is added
pub names-preserved : goal.names-preserved
names-preserved c =
    let lines = c.args.lines.now in
    let old = c.args.names.now in
    let here : Some c.in-Some.name.now ≡ slice_get c.names.names c.names.at = c.in-Some.ensures in
    let name = c.in-Some.name.now in
    subst (λ ns. IsClosing lines old c.in_ok-at.at ns) (sym c.in_ok-add_to.ensures)
    (subst (λ n. IsClosing lines old n (fold with_name c.names.names (under lines name))) (sym c.in_ok-at.ensures) (closing_goes_on lines old c.names.at c.names.names name (sym here) c.names.invariant))

pub returns : goal.returns
returns c =
    let none : None ≡ slice_get c.names.names c.names.at = c.in_default.ensures in
    closing_ends c.args.lines.now c.args.names.now c.names.at c.names.names (past_all c.names.names c.names.at (sym none)) c.names.invariant
