use Rattle.std.proofs.Common.{◌≡◌, ◌∙◌, length, sym, ap}
use Rattle.kp_names_semantics.specs.Numbering.{variable_number}
use Rattle.kp_names_declared.specs.declared.scope.Variable.{Variable}
use Rattle.kp_names_declared.proofs.InnermostVariables.{pushed}
use Rattle.kp_names_declared.proofs.scope.Scope.push.Goals as goal

-- the variable knows the number that its name had
pub invariant_of-self-in-Ok-insert : goal.invariant_of-self-in-Ok-insert
invariant_of-self-in-Ok-insert c =
    let variable : Variable = record { name = c.args.name; before = c.number-before.result } in
    let count : c.len-place.result ≡ length c.self.inside.variables.items = c.len-place.ensures ∙ c.self.inside.variables.ok.0 in
    rw (c.in_ok-push.ensures.items, c.in-Ok-insert.ensures.entries) (pushed c.self.inside.variables.items c.self.inside.innermost.entries variable c.in-Ok.number (c.in-Ok.ensures.1 ∙ count) (c.number-before.ensures ∙ ap (λ s. variable_number s c.args.name.now) (sym c.self.view_is)) c.self.invariant)
