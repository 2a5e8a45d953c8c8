-- What the operators enter, one after another.
use Rattle.std.proofs.Common.{◌≡◌, ◌<◌, ◌+◌, ℕ, suc, true, false, List, [], ◌∷◌, ◌++◌, Option, Some, None, length, slice_get, arith, refl, sym, subst}
use Rattle.std.proofs.lemmas.List.{length-append, append_assoc}
use Rattle.std.proofs.lemmas.Option.{slice_get_within}
use Rattle.kp_base.proofs.Places.{get_left}
use Rattle.kp_classic.specs.declared.task.Task.{Task}
use Rattle.kp_search.specs.declared.course.Origin.TheVariants.{Step}
use Rattle.kp_search.specs.declared.course.Search.{Search}
use Rattle.kp_classic.specs.States.{FactSet}
use Rattle.kp_search.specs.Trace.{Entry, Course, can, step, entry_after, with_expanded, Enters}
use Rattle.kp_search.specs.Trace.Enters.{none, off, dead, enter}
use Rattle.kp_search.specs.Kept.{ComesFrom, Keeps}
use Rattle.kp_search.specs.Turns.{Expanding, Spreads, Tries}
use Rattle.kp_search.specs.Turns.Tries.{off as try_off, dead as try_dead, enters as try_enters}
use Rattle.kp_search.proofs.Slices.{slice_last}
use Rattle.kp_search.proofs.Kept.{keeps_added}

module _ (t : Task) (may : FactSet → Option ℕ → Type 0) (k : ℕ) (state : FactSet) (old : Search) where
  pub spreads_none : Spreads t may k state old 0 old
  spreads_none c n e x = ([], none, x.kept)

  one_more : (op : ℕ) (mid new : Search) → op < length t.ops → Tries t may k op state mid new → (c : Course) (n : ℕ) (e : Entry) → Expanding t c k n e old state
      → (entries : List Entry) → Enters t may e op entries → Keeps t (with_expanded c n entries) mid → (more : List Entry) × Enters t may e (suc op) more × Keeps t (with_expanded c n more) new
  one_more op mid new lt (try_off cannot same) c n e x entries en kept =
      (entries, off op entries en (subst (λ s. can t op s ≡ false) (sym x.same) cannot), subst (Keeps t (with_expanded c n entries)) (sym same) kept)
  one_more op mid new lt (try_dead can_it m same) c n e x entries en kept =
      (entries, dead op entries en (subst (λ s. can t op s ≡ true) (sym x.same) can_it) (subst (λ s. may (step t op s) None) (sym x.same) m), subst (Keeps t (with_expanded c n entries)) (sym same) kept)
  one_more op mid new lt (try_enters h can_it m adds) c n e x entries en kept =
      let d : Entry = entry_after t e op h in
      let long = length-append c.entries entries in
      let within = slice_get_within c.entries n e x.there in
      let from : ComesFrom t (with_expanded c n entries) (length (c.entries ++ entries)) d (Step k op) =
      (n, e, subst (λ i. slice_get (c.expanded ++ n ∷ []) i ≡ Some n) (sym x.place) (slice_last c.expanded n), get_left c.entries entries n e x.there, omega (arith, long, within), lt, refl, refl) in (
        entries ++ d ∷ [],
        enter op entries h en (subst (λ s. can t op s ≡ true) (sym x.same) can_it) (subst (λ s. may (step t op s) (Some h)) (sym x.same) m),
        subst (λ es. Keeps t (record { entries = es; taken = n ∷ c.taken; expanded = c.expanded ++ n ∷ [] }) new) (append_assoc c.entries entries (d ∷ [])) (keeps_added t (with_expanded c n entries) mid new d (Step k op) kept adds from),
      )

  pub spreads_more : (op : ℕ) (mid new : Search) → op < length t.ops → Spreads t may k state old op mid → Tries t may k op state mid new → Spreads t may k state old (op + 1) new
  spreads_more op mid new lt h tried c n e x =
      let r = h c n e x in
      let one : suc op ≡ op + 1 = omega arith in
      subst (λ i. (more : List Entry) × Enters t may e i more × Keeps t (with_expanded c n more) new) one (one_more op mid new lt tried c n e x r.0 r.1 r.2)
