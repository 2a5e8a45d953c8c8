use Rattle.std.proofs.Common.{refl, ap, sym, subst, ◌∙◌}
use Rattle.kp_classic.specs.States.{FactSet, IsBefore}
use Rattle.kp_classic.specs.Packed.{set_of}
use Rattle.kp_classic.proofs.Ordered.{differ_of_rows, ordered, never_before_itself}
use Rattle.kp_classic.proofs.state.State.order.Goals as goal

pub returns-in-Some : goal.returns-in-Some
returns-in-Some c =
    let len = ap (λ (s : FactSet). s.facts) c.self.view_is ∙ (c.requires ∙ sym (ap (λ (s : FactSet). s.facts) c.other.view_is)) in
    let d = rw (c.self.view_is, c.other.view_is) at (differ_of_rows c.self.inside.bits c.other.inside.bits c.in-Some.fact len c.in-Some.ensures.some) in
    let o = ordered c.args.self.now c.args.other.now c.in-Some.fact d c.holds.result c.holds-in-Some.result c.holds.ensures c.holds-in-Some.ensures c.cmp.result c.cmp.ensures in
    record { less = o.less; equal = o.equal; greater = o.greater }

-- rows that are one are one state
pub returns-in-None : goal.returns-in-None
returns-in-None c =
    let same = sym c.self.view_is ∙ (ap set_of c.in-None.ensures.none ∙ c.other.view_is) in
    record {
      less = (λ h. absurd (cc), λ h. absurd (never_before_itself c.args.other.now (subst (λ (s : FactSet). IsBefore s c.args.other.now) same h)));
      equal = (λ _. same, λ _. refl);
      greater = (λ h. absurd (cc), λ h. absurd (never_before_itself c.args.other.now (subst (λ (s : FactSet). IsBefore c.args.other.now s) same h)));
    }
