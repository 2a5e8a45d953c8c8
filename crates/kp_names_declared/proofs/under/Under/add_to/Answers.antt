use Rattle.std.proofs.Common.{◌≡◌, ◌∙◌, refl, ap, map}
use Rattle.std.specs.Prelude.{unwrap_or}
use Rattle.std.specs.Map.{lookup}
use Rattle.kp_names_semantics.specs.Names.{same}
use Rattle.kp_names_declared.specs.Steps.{under}
use Rattle.kp_names_declared.specs.Chains.{pairs_of}
use Rattle.kp_names_declared.proofs.Entries.{found}
use Rattle.kp_names_declared.proofs.under.Under.add_to.Goals as goal

-- first all names under the type are left
pub names-init : goal.names-init
names-init c =
    let kind = c.args.kind.now in
    let place : c.unwrap_or-at.result ≡ unwrap_or (lookup (same kind) (map (λ e. (e.0.now, e.1)) c.self.inside.last.entries)) 0 =
    c.unwrap_or-at.ensures ∙ ap (λ o. unwrap_or o 0) (c.copied.ensures ∙ (c.get.ensures.value ∙ found (λ k. k.now) kind c.self.inside.last.entries)) in
    rw (← c.self.view_is) (rw c.as_slice-links.ensures.value (rw place (record { left = under (pairs_of c.self.inside.links.items) kind; chain = c.self.invariant.each kind; so_far = refl })))
