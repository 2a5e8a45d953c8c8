use Rattle.std.proofs.Common.{◌≡◌, ◌∙◌, Some, sym, ap, subst}
use Rattle.std.specs.Map.{lookup}
use Rattle.kp_names_semantics.specs.Names.{same}
use Rattle.kp_names_numbered.specs.Alike.{AreAlike}
use Rattle.kp_names_numbered.proofs.AlikeTable.{alike_more, alike_after}
use Rattle.kp_names_numbered.proofs.alike.Alike.step.Goals as goal

-- what is the same for the type and the next one is the same for the one behind that
pub returns-in_ok-insert-in-Some-clause-alike : goal.returns-in_ok-insert-in-Some-clause-alike
returns-in_ok-insert-in-Some-clause-alike c f h =
    let next : Some c.in-Some.next.now ≡ lookup (same c.args.name.now) c.args.self.now = c.in-Some.ensures in
    h.each c.args.name.now c.in-Some.next.now (sym next)
    ∙ (alike_after f c.args.self.now (λ n. n.now) h c.in-Some.next c.get-in-Some.result c.get-in-Some.ensures
    ∙ ap (λ n. f n.now) (sym c.unwrap_or-after.ensures))

pub returns-in_ok-insert-in-Some-clause-kept : goal.returns-in_ok-insert-in-Some-clause-kept
returns-in_ok-insert-in-Some-clause-kept c f h =
    subst (AreAlike f) (sym c.in_ok-insert-in-Some.ensures.inserted) (alike_more f c.args.self.now h c.args.name.now c.unwrap_or-after.result.now (returns-in_ok-insert-in-Some-clause-alike c f h))
