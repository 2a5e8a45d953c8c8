use Rattle.std.proofs.Common.{◌≡◌, ◌∙◌, length}
use Rattle.kp_names_declared.proofs.InnermostVariables.{last_popped}
use Rattle.kp_names_declared.proofs.scope.Scope.pop.Goals as goal

-- the number of its name is again what it knows
pub invariant_of-self-then-len-gt0 : goal.invariant_of-self-then-len-gt0
invariant_of-self-then-len-gt0 c =
    let count : c.len-len.result ≡ length c.self.inside.variables.items = c.len-len.ensures ∙ c.self.inside.variables.ok.0 in
    rw (c.truncate.ensures.items, c.in_ok-insert.ensures.entries)
    (last_popped c.self.inside.variables.items c.as_slice.result.now c.self.inside.innermost.entries c.len-len.result _ c.as_slice.ensures.value count c.if-len-gt0.true c.self.invariant)
