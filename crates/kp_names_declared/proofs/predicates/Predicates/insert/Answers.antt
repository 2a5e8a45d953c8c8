use Rattle.std.proofs.Common.{◌∙◌, sym, ap, map}
use Rattle.kp_names_declared.proofs.Entries.{entered, kept}
use Rattle.kp_names_declared.proofs.predicates.Predicates.insert.Goals as goal

pub returns-in_ok-insert : goal.returns-in_ok-insert
returns-in_ok-insert c =
    rw (← c.self.view_is)
    (ap (map (λ e. (e.0.now, e.1))) c.in_ok-insert.ensures.entries
    ∙ entered (λ k. k.now) c.self.inside.first.entries c.args.name c.args.declared (sym c.contains_key.ensures ∙ c.if-not-contains_key.true))

pub returns-else-not-contains_key : goal.returns-else-not-contains_key
returns-else-not-contains_key c =
    rw (← c.self.view_is) (kept (λ k. k.now) c.self.inside.first.entries c.args.name c.args.declared (sym c.contains_key.ensures ∙ c.if-not-contains_key.false))
