use Rattle.std.proofs.Common.{◌||◌, ◌∙◌, ap}
use Rattle.std.specs.List.{list_any}
use Rattle.kp_primes.specs.Asked.{denied}
use Rattle.kp_primes.proofs.Denied.{denied_near}
use Rattle.kp_primes.proofs.near.is_inconsistent.Goals as goal

-- the tag doesn't oppose itself
pub returns-else-is_tautology : goal.returns-else-is_tautology
returns-else-is_tautology c =
    let ps = c.args.clauses.now in
    let tag = c.args.tag.now in
    c.some_denied_near.ensures ∙ (denied_near ps c.args.holders.now tag c.requires.holders c.requires.model ∙ ap (λ b. b || list_any (denied tag) ps) c.if-is_tautology.ensures)
