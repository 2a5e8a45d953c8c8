-- A search has one end where each state has one estimate.
use Rattle.std.proofs.Common.{◌≡◌, ◌<◌, ◌⊎◌, ℕ, true, false, List, [], ◌∷◌, ◌++◌, Option, Some, None, length, slice_get, arith, refl, sym, ap, ap₂, subst, ◌∙◌, inl, inr}
use Rattle.std.proofs.lemmas.Bool.{false≢true, cases_order}
use Rattle.std.proofs.lemmas.Option.{same_Some}
use Rattle.kp_classic.specs.declared.task.Task.{Task}
use Rattle.kp_classic.specs.States.{FactSet}
use Rattle.kp_search.specs.declared.found.Found.{Found}
use Rattle.kp_search.specs.declared.found.Found.TheVariants.{Plan, NoPlan, Spent}
use Rattle.kp_search.specs.Trace.{Entry, Course, first, step, is_goal, one_entry, entry_after, Waits, IsNext, WasTaken, with_taken, with_expanded, Enters, IsCourse}
use Rattle.kp_search.specs.Trace.Enters.{none, off, dead, enter}
use Rattle.kp_search.specs.Trace.IsCourse.{lost, begun, passed, spread}
use Rattle.kp_search.specs.Ends.{HasEnd}
use Rattle.kp_search.specs.Laws.{gives, HasOneEnd}
use Rattle.kp_search.specs.Estimates.{HasOneEstimate}

-- there is one next entry
pub one_next : (c : Course) (n m : ℕ) (e d : Entry) → IsNext c n e → IsNext c m d → (n ≡ m) × (e ≡ d)
one_next c n m e d a b = (number, same_Some e d (sym a.waits.there ∙ (ap (slice_get c.entries) number ∙ b.waits.there)))
  where
    number : n ≡ m
    number = elim (a.least m d b.waits) [
      | inl lt ↦ elim (b.least n e a.waits) [
        | inl gt ↦ absurd (omega (arith, lt, gt))
        | inr ge ↦ let same = ge.0 in absurd (omega (arith, lt, same))
      ]
      | inr le ↦ elim (b.least n e a.waits) [
        | inl gt ↦ let same = le.0 in absurd (omega (arith, gt, same))
        | inr ge ↦ let p = le.1 in let q = ge.1 in omega (arith, p, q)
      ]
    ]

module _ (t : Task) (may : FactSet → Option ℕ → Type 0) (one : HasOneEstimate t may) where
  one_enters : (e : Entry) (k : ℕ) (xs ys : List Entry) → Enters t may e k xs → Enters t may e k ys → xs ≡ ys
  one_enters e k xs ys none none = refl
  one_enters e k xs ys (off j vs a cannot) (off i ws b cannot') = one_enters e j vs ws a b
  one_enters e k xs ys (off j vs a cannot) (dead i ws b can_it m) = absurd (false≢true (sym cannot ∙ can_it))
  one_enters e k xs ys (off j vs a cannot) (enter i ws h b can_it m) = absurd (false≢true (sym cannot ∙ can_it))
  one_enters e k xs ys (dead j vs a can_it m) (off i ws b cannot) = absurd (false≢true (sym cannot ∙ can_it))
  one_enters e k xs ys (dead j vs a can_it m) (dead i ws b can_it' m') = one_enters e j vs ws a b
  one_enters e k xs ys (dead j vs a can_it m) (enter i ws h b can_it' m') = let x = one.one (step t j e.state) None (Some h) refl m m' in cc
  one_enters e k xs ys (enter j vs h a can_it m) (off i ws b cannot) = absurd (false≢true (sym cannot ∙ can_it))
  one_enters e k xs ys (enter j vs h a can_it m) (dead i ws b can_it' m') = let x = one.one (step t j e.state) None (Some h) refl m' m in cc
  one_enters e k xs ys (enter j vs h a can_it m) (enter i ws g b can_it' m') =
      let x = same_Some h g (one.one (step t j e.state) (Some h) (Some g) refl m m') in
      ap₂ (λ us v. us ++ entry_after t e j v ∷ []) (one_enters e j vs ws a b) x

  module _ (budget : ℕ) where
    -- courses in which as many entries were taken are one
    one_course : (c d : Course) → IsCourse t may budget c → IsCourse t may budget d → length c.taken ≡ length d.taken → c ≡ d
    one_course c d (lost m) (lost m') len = refl
    one_course c d (lost m) (begun h m') len = let x = one.one (first t) None (Some h) refl m m' in cc
    one_course c d (begun h m) (lost m') len = let x = one.one (first t) None (Some h) refl m' m in cc
    one_course c d (begun h m) (begun g m') len = ap (one_entry (first t)) (same_Some h g (one.one (first t) (Some h) (Some g) refl m m'))
    one_course c d (lost m) (passed b n e is next was) len = absurd (omega (arith, len))
    one_course c d (lost m) (spread b n e new is next fresh plain less enters) len = absurd (omega (arith, len))
    one_course c d (begun h m) (passed b n e is next was) len = absurd (omega (arith, len))
    one_course c d (begun h m) (spread b n e new is next fresh plain less enters) len = absurd (omega (arith, len))
    one_course c d (passed b n e is next was) (lost m) len = absurd (omega (arith, len))
    one_course c d (passed b n e is next was) (begun h m) len = absurd (omega (arith, len))
    one_course c d (spread b n e new is next fresh plain less enters) (lost m) len = absurd (omega (arith, len))
    one_course c d (spread b n e new is next fresh plain less enters) (begun h m) len = absurd (omega (arith, len))
    one_course c d (passed b n e is next was) (passed b' n' e' is' next' was') len =
        let same = one_course b b' is is' (omega (arith, len)) in
        let r = one_next b n n' e e' next (subst (λ x. IsNext x n' e') (sym same) next') in
        ap₂ with_taken same r.0
    one_course c d (passed b n e is next was) (spread b' n' e' new is' next' fresh plain less enters) len =
        let same = one_course b b' is is' (omega (arith, len)) in
        let r = one_next b n n' e e' next (subst (λ x. IsNext x n' e') (sym same) next') in
        absurd (fresh (subst (λ (z : Entry). WasTaken b' z.state) r.1 (subst (λ x. WasTaken x e.state) same was)))
    one_course c d (spread b n e new is next fresh plain less enters) (passed b' n' e' is' next' was) len =
        let same = one_course b b' is is' (omega (arith, len)) in
        let r = one_next b n n' e e' next (subst (λ x. IsNext x n' e') (sym same) next') in
        absurd (fresh (subst (λ (z : Entry). WasTaken b z.state) (sym r.1) (subst (λ x. WasTaken x e'.state) (sym same) was)))
    one_course c d (spread b n e new is next fresh plain less enters) (spread b' n' e' new' is' next' fresh' plain' less' enters') len =
        let same = one_course b b' is is' (omega (arith, len)) in
        let r = one_next b n n' e e' next (subst (λ x. IsNext x n' e') (sym same) next') in
        let x = one_enters e (length t.ops) new new' enters (subst (λ z. Enters t may z (length t.ops) new') (sym r.1) enters') in
        ap₂ (λ y m. with_expanded y m new) same r.0 ∙ ap (with_expanded b' n') x

    -- ---- where a course goes on, and where it ends

    record GoesOn (c : Course) : Type 0 where
      number : ℕ
      entry : Entry
      next : IsNext c number entry
      more : WasTaken c entry.state ⊎ ((WasTaken c entry.state → ⊥) × (is_goal t entry.state ≡ false) × (length c.expanded < budget))

    before : (d : Course) → IsCourse t may budget d → (m : ℕ) → m < length d.taken → (c : Course) × IsCourse t may budget c × (length c.taken ≡ m) × GoesOn c
    before d (lost x) m lt = absurd (omega (arith, lt))
    before d (begun h x) m lt = absurd (omega (arith, lt))
    before d (passed b n e is next was) m lt = elim (cases_order m (length b.taken)) [
      | inr (inl less) ↦ before b is m less
      | inl same ↦ (b, is, sym same, record { number = n; entry = e; next = next; more = inl was })
      | inr (inr more) ↦ absurd (omega (arith, lt, more))
    ]
    before d (spread b n e new is next fresh plain room enters) m lt = elim (cases_order m (length b.taken)) [
      | inr (inl less) ↦ before b is m less
      | inl same ↦ (b, is, sym same, record { number = n; entry = e; next = next; more = inr (fresh, plain, room) })
      | inr (inr more) ↦ absurd (omega (arith, lt, more))
    ]

    -- the next entry of a course is new
    record IsNew (c : Course) (e : Entry) : Type 0 where
      number : ℕ
      next : IsNext c number e
      fresh : WasTaken c e.state → ⊥

    -- what a course ends with
    data EndOf (c : Course) : Found → Type 0 where
      at_goal : (e : Entry) → IsNew c e → is_goal t e.state ≡ true → EndOf c (Plan e.ops (length c.expanded))
      at_last : ((n : ℕ) (e : Entry) → Waits c n e → ⊥) → EndOf c NoPlan
      at_budget : (e : Entry) → IsNew c e → is_goal t e.state ≡ false → length c.expanded ≡ budget → EndOf c (Spent budget)

    end_of : (f : Found) → HasEnd t may budget f → (c : Course) × IsCourse t may budget c × EndOf c f
    end_of (Plan ops n) h = (
      h.course,
      h.is,
      subst (λ k. EndOf h.course (Plan ops k)) (sym h.expanded_are) (subst (λ ks. EndOf h.course (Plan ks (length h.course.expanded))) (sym h.ops_are)
          (at_goal h.entry (record { number = h.number; next = h.next; fresh = h.new }) h.goal)),
    )
    end_of NoPlan h = (h.course, h.is, at_last h.empty)
    end_of (Spent n) h = (h.course, h.is, subst (λ k. EndOf h.course (Spent k)) (sym h.expanded_are) (at_budget h.entry (record { number = h.number; next = h.next; fresh = h.new }) h.goal h.full))

    -- it doesn't go on
    stops : (c : Course) (f : Found) → EndOf c f → GoesOn c → ⊥
    stops c f (at_last h) g = h g.number g.entry g.next.waits
    stops c f (at_goal e new goal) g =
        let r = (one_next c new.number g.number e g.entry new.next g.next).1 in
        elim g.more [
          | inl was ↦ new.fresh (subst (λ (z : Entry). WasTaken c z.state) (sym r) was)
          | inr (fresh, plain, room) ↦ false≢true (sym plain ∙ (ap (λ (z : Entry). is_goal t z.state) (sym r) ∙ goal))
        ]
    stops c f (at_budget e new plain full) g =
        let r = (one_next c new.number g.number e g.entry new.next g.next).1 in
        elim g.more [
          | inl was ↦ new.fresh (subst (λ (z : Entry). WasTaken c z.state) (sym r) was)
          | inr (fresh, plain', room) ↦ absurd (omega (arith, full, room))
        ]

    -- a course ends with one answer
    same_new : (c : Course) (e d : Entry) → IsNew c e → IsNew c d → e ≡ d
    same_new c e d a b = (one_next c a.number b.number e d a.next b.next).1

    apart : (c : Course) (e d : Entry) → IsNew c e → IsNew c d → is_goal t e.state ≡ true → is_goal t d.state ≡ false → ⊥
    apart c e d a b goal plain = false≢true (sym plain ∙ (ap (λ (z : Entry). is_goal t z.state) (sym (same_new c e d a b)) ∙ goal))

    one_answer : (c : Course) (f g : Found) → EndOf c f → EndOf c g → f ≡ g
    one_answer c f g (at_goal e new goal) (at_goal d new' goal') = ap (λ (z : Entry). Plan z.ops (length c.expanded)) (same_new c e d new new')
    one_answer c f g (at_goal e new goal) (at_last h) = absurd (h new.number e new.next.waits)
    one_answer c f g (at_goal e new goal) (at_budget d new' plain full) = absurd (apart c e d new new' goal plain)
    one_answer c f g (at_last h) (at_goal e new goal) = absurd (h new.number e new.next.waits)
    one_answer c f g (at_last h) (at_last h') = refl
    one_answer c f g (at_last h) (at_budget d new plain full) = absurd (h new.number d new.next.waits)
    one_answer c f g (at_budget d new plain full) (at_goal e new' goal) = absurd (apart c e d new' new goal plain)
    one_answer c f g (at_budget d new plain full) (at_last h) = absurd (h new.number d new.next.waits)
    one_answer c f g (at_budget d new plain full) (at_budget d' new' plain' full') = refl

    -- the one course doesn't go on to the other
    not_before : (c d : Course) (f : Found) → IsCourse t may budget c → IsCourse t may budget d → EndOf c f → length c.taken < length d.taken → ⊥
    not_before c d f is is' end lt =
        let r = before d is' (length c.taken) lt in
        stops c f end (subst GoesOn (one_course r.0 c r.1 is r.2) r.3)

    pub same_end : (f g : Found) → HasEnd t may budget f → HasEnd t may budget g → f ≡ g
    same_end f g a b =
        let x = end_of f a in
        let y = end_of g b in
        elim (cases_order (length x.0.taken) (length y.0.taken)) [
          | inr (inl lt) ↦ absurd (not_before x.0 y.0 f x.1 y.1 x.2 lt)
          | inl same ↦ one_answer y.0 f g (subst (λ c. EndOf c f) (one_course x.0 y.0 x.1 y.1 same) x.2) y.2
          | inr (inr gt) ↦ absurd (not_before y.0 x.0 g y.1 x.1 y.2 gt)
        ]

pub has_one_end : HasOneEnd
has_one_end t h budget a b x y = same_end t (gives h) (record { one = λ s p q same m m'. m ∙ sym m' }) budget a b x y
