use Rattle.std.proofs.Common.{◌≡◌, ◌&&◌, ◌||◌, ◌==◌, ℕ, List, sym, ap, ◌∙◌}
use Rattle.std.proofs.lemmas.Result.{on_ok_weaker}
use Rattle.kp_names_semantics.specs.Names.{same}
use Rattle.kp_ground_semantics.specs.Static.{says}
use Rattle.kp_ground_instances.specs.StaticTables.{has_atom}
use Rattle.kp_ground_instances.proofs.Tables.{atom_added, says_positive}
use Rattle.kp_ground_instances.proofs.stated.add_item.Goals as goal

pub returns-then-literal : goal.returns-then-literal
returns-then-literal c =
    let one = c.in-One.literal in
    let old = c.args.atoms.now in
    let says-it : (q : ℕ) (os : List ℕ) → (one.pred == q && same c.slice.result.now os) ≡ says q os c.args.item.now =
    λ q os. ap (λ us. one.pred == q && same us os) c.slice.ensures ∙ (says_positive one q os c.if-literal.true ∙ ap (says q os) (sym c.in-One.is)) in
    on_ok_weaker c.insert.result (λ e. record { each = λ q os. ap (λ atoms. has_atom atoms q os) e ∙ (atom_added old one.pred c.slice.result.now q os ∙ ap (λ b. has_atom old q os || b) (says-it q os)) }) c.insert.ensures
