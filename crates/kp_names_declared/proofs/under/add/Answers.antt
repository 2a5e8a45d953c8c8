use Rattle.std.proofs.Common.{◌≡◌, ◌∙◌, length, refl, ap}
use Rattle.std.specs.Prelude.{unwrap_or}
use Rattle.kp_names_declared.specs.declared.under.Link.{Link}
use Rattle.kp_names_declared.proofs.ChainsOfNames.{chained_more}
use Rattle.kp_names_declared.proofs.under.add.Goals as goal

-- the place of the type is behind the new link, which leads to where it was
pub returns-clause-chained : goal.returns-clause-chained
returns-clause-chained c =
    let link : Link = record { kind = c.args.kind; name = c.args.name; before = c.unwrap_or-before.result } in
    let count : c.len-place.result ≡ length c.args.links.now.items = c.len-place.ensures ∙ c.args.links.now.ok.0 in
    let before = c.unwrap_or-before.ensures ∙ ap (λ o. unwrap_or o 0) c.in_ok-insert.ensures.old in
    rw c.in_ok-push.ensures.items (rw c.in_ok-insert.ensures.entries (rw count (chained_more (λ k. k.now) c.args.links.now.items c.args.last.now.entries c.args.kind link refl before c.requires)))
