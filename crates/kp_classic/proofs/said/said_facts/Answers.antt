use Rattle.std.proofs.Common.{◌∙◌, ◌||◌, ◌<◌, Bool, true, false, refl, ◌≡◌, ap, sym, subst}
use Rattle.std.specs.List.{list_any}
use Rattle.kp_base.specs.Lit.{positive, has as has_literal}
use Rattle.kp_classic.specs.Grounded.{is_said}
use Rattle.kp_classic.specs.States.{has}
use Rattle.kp_classic.proofs.States.{those_alike}
use Rattle.kp_classic.proofs.said.said_facts.Goals as goal

or_none : (b : Bool) → (b || false) ≡ b
or_none true = refl
or_none false = refl

-- nothing held before
pub returns : goal.returns
returns c =
    c.in_ok-facts.ensures
    ∙ those_alike c.args.count (has c.say_clauses.new.state.hold) (is_said c.args.initial.now) (λ f lt.
    let lf = subst (λ n. f < n) (sym c.in_ok-state.ensures.facts) lt in
    c.say_clauses.ensures.hold f lf
    ∙ (ap (λ cs. list_any (λ d. has_literal d (positive f)) cs || has c.in_ok-state.state.hold f) c.slice.ensures
    ∙ (ap (λ b. is_said c.args.initial.now f || b) (c.in_ok-state.ensures.none f)
    ∙ or_none _)))
