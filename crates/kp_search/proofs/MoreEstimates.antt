-- A search by more estimates has the same ends.
use Rattle.std.proofs.Common.{ℕ, List, Option, Some, None, length, refl}
use Rattle.kp_classic.specs.declared.task.Task.{Task}
use Rattle.kp_classic.specs.States.{FactSet}
use Rattle.kp_search.specs.declared.found.Found.{Found}
use Rattle.kp_search.specs.declared.found.Found.TheVariants.{Plan, NoPlan, Spent}
use Rattle.kp_search.specs.Trace.{Entry, Course, first, step, Enters, IsCourse}
use Rattle.kp_search.specs.Trace.Enters.{none, off, dead, enter}
use Rattle.kp_search.specs.Trace.IsCourse.{lost, begun, passed, spread}
use Rattle.kp_search.specs.Ends.{HasEnd}
use Rattle.kp_search.specs.Estimates.{AreAmong}

module _ (t : Task) (may others : FactSet → Option ℕ → Type 0) (among : AreAmong t may others) where
  enters_stay : (e : Entry) (k : ℕ) (new : List Entry) → Enters t may e k new → Enters t others e k new
  enters_stay e k new none = none
  enters_stay e k new (off j old h cannot) = off j old (enters_stay e j old h) cannot
  enters_stay e k new (dead j old h can_it m) = dead j old (enters_stay e j old h) can_it (among.each (step t j e.state) None refl m)
  enters_stay e k new (enter j old v h can_it m) = enter j old v (enters_stay e j old h) can_it (among.each (step t j e.state) (Some v) refl m)

  course_stays : (budget : ℕ) (c : Course) → IsCourse t may budget c → IsCourse t others budget c
  course_stays budget c (lost m) = lost (among.each (first t) None refl m)
  course_stays budget c (begun h m) = begun h (among.each (first t) (Some h) refl m)
  course_stays budget c (passed b n e is next was) = passed b n e (course_stays budget b is) next was
  course_stays budget c (spread b n e new is next fresh plain less enters) = spread b n e new (course_stays budget b is) next fresh plain less (enters_stay e (length t.ops) new enters)

  pub stays : (budget : ℕ) (f : Found) → HasEnd t may budget f → HasEnd t others budget f
  stays budget (Plan ops n) h = record { course = h.course; is = course_stays budget h.course h.is; number = h.number; entry = h.entry; next = h.next; new = h.new; goal = h.goal; ops_are = h.ops_are; expanded_are = h.expanded_are }
  stays budget NoPlan h = record { course = h.course; is = course_stays budget h.course h.is; empty = h.empty }
  stays budget (Spent n) h = record { course = h.course; is = course_stays budget h.course h.is; number = h.number; entry = h.entry; next = h.next; new = h.new; goal = h.goal; full = h.full; expanded_are = h.expanded_are }
