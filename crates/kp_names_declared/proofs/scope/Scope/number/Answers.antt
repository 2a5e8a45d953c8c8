use Rattle.std.proofs.Common.{◌≡◌, ◌∙◌, Some, None, unwrap_or, ap}
use Rattle.std.specs.Map.{lookup}
use Rattle.kp_names_semantics.specs.Names.{same}
use Rattle.kp_names_declared.proofs.Entries.{found}
use Rattle.kp_names_declared.proofs.scope.Scope.number.Goals as goal

pub returns-in-Some : goal.returns-in-Some
returns-in-Some c =
    let number : Some c.in-Some.number.now ≡ lookup (λ k. same c.args.name.now k.now) c.self.inside.innermost.entries = c.in-Some.ensures.value in
    rw (← c.self.view_is) (ap (λ o. unwrap_or o 0) (number ∙ found (λ k. k.now) c.args.name.now c.self.inside.innermost.entries) ∙ c.self.invariant.innermost.each c.args.name.now)

pub returns-in-None : goal.returns-in-None
returns-in-None c =
    let none : None ≡ lookup (λ k. same c.args.name.now k.now) c.self.inside.innermost.entries = c.in-None.ensures.value in
    rw (← c.self.view_is) (ap (λ o. unwrap_or o 0) (none ∙ found (λ k. k.now) c.args.name.now c.self.inside.innermost.entries) ∙ c.self.invariant.innermost.each c.args.name.now)
