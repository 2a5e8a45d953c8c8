-- The turns of a search, on what is kept of its course.
use Rattle.std.proofs.Common.{◌≡◌, ◌<◌, ◌≤◌, ◌+◌, ◌-◌, ◌*◌, ℕ, Bool, true, false, cond, IsTrue, List, [], ◌∷◌, ◌++◌, Option, Some, None, length, slice_get, get_or, arith, refl, sym, ap, subst, ◌∙◌}
use Rattle.std.proofs.lemmas.Bool.{false≢true}
use Rattle.std.proofs.lemmas.Option.{slice_get_within, slice_get-get_or, same_Some}
use Rattle.kp_base.specs.Lists.{Member}
use Rattle.kp_base.proofs.Lists.{number_at, member_at}
use Rattle.kp_classic.specs.declared.task.Task.{Task}
use Rattle.kp_classic.specs.Fits.{IsFit}
use Rattle.kp_classic.specs.States.{FactSet}
use Rattle.kp_search.specs.declared.course.Origin.TheVariants.{Start}
use Rattle.kp_search.specs.declared.course.Search.{Search}
use Rattle.kp_search.specs.declared.key.Key.{Key}
use Rattle.kp_search.specs.Queue.{times}
use Rattle.kp_search.specs.Trace.{Entry, Course, first, is_goal, nothing, one_entry, IsNext, WasTaken, with_taken, with_expanded, IsCourse, EndsWithPlan, EndsSpent, EndsWithoutPlan}
use Rattle.kp_search.specs.Trace.IsCourse.{lost, begun, passed, spread}
use Rattle.kp_search.specs.Kept.{Adds, Keeps, Pops, Expands, ExpandsIfNew, IsEmpty}
use Rattle.kp_search.specs.Sound.{Expanded}
use Rattle.kp_search.specs.Estimates.{AreEstimates}
use Rattle.kp_search.specs.Turns.{IsAt, IsKnown, OfEntry, IsTaken, Spreads, work}
use Rattle.kp_search.proofs.Asked.{estimated, none_asked, same_asked, one_more_asked}
use Rattle.kp_search.proofs.Kept.{keeps_added, waits_from}
use Rattle.kp_search.proofs.Taken.{popped_next, keeps_popped, keeps_expanded}
use Rattle.kp_search.proofs.Sound.{sound}

pub is_true : (b : Bool) → b ≡ true → IsTrue b
is_true b h = h

pub is_not : {P : Type 0} (b : Bool) → ((IsTrue b → P) × (P → IsTrue b)) → b ≡ false → P → ⊥
is_not b h e p = false≢true (sym e ∙ h.1 p)

-- nothing is kept of the course without entries
keeps_nothing : (t : Task) (s : Search) → IsEmpty (length t.facts) s → Keeps t nothing s
keeps_nothing t s h = record {
  long = ap length h.origins;
  origins = λ n e h. cc;
  waiting = λ y. ap (λ ks. times ks y) h.waiting;
  expanded = h.expanded;
  facts = h.facts_are;
  tables = ap length h.states;
  states = λ k n e h _. cc;
  taken = λ n h. absurd (false≢true h);
  within = λ k n h. cc;
}

module _ (t : Task) (fit : IsFit t) (may : FactSet → Option ℕ → Type 0) (budget : ℕ) where
  pub at_lost : (s : Search) → IsEmpty (length t.facts) s → budget ≤ s.table.room → may (first t) None → IsAt t may budget s
  at_lost s h room m = record {
    course = nothing;
    is = lost m;
    kept = keeps_nothing t s h;
    has_room = room;
    asked = none_asked may s.table.states s.estimates.items h.states h.estimates;
  }

  pub at_begun : (s s' : Search) (v : ℕ) → IsEmpty (length t.facts) s → budget ≤ s.table.room → may (first t) (Some v) → Adds s Start v s' → IsAt t may budget s'
  at_begun s s' v h room m adds = record {
    course = one_entry (first t) v;
    is = begun v m;
    kept = keeps_added t nothing s s' (record { state = first t; estimate = v; ops = [] }) Start (keeps_nothing t s h) adds (refl, refl);
    has_room = let e = ap (λ x. x.room) adds.table in omega (arith, room, e);
    asked = none_asked may s'.table.states s'.estimates.items (ap (λ x. x.states) adds.table ∙ h.states) (adds.estimates ∙ h.estimates);
  }

  pub ends_without : (s : Search) → IsAt t may budget s → s.waiting ≡ [] → EndsWithoutPlan t may budget
  ends_without s at none = record {
    course = at.course;
    is = at.is;
    empty = λ n e w.
        let y : Key = record { estimate = e.estimate; number = n } in
        let a = at.kept.waiting y in
        let b = ap {B = ℕ} (λ z. cond z 1 0) (waits_from at.course n e w) in
        let d = ap (λ ks. times ks y) none in
        absurd (omega (arith, a, b, d));
  }

  -- the table has the states of the expanded entries
  seen : (c : Course) (n : ℕ) (s : Search) → IsCourse t may budget c → Keeps t (with_taken c n) s → (x : FactSet) → Member s.table.states x → WasTaken c x
  seen c n s is k x m =
      let at = number_at s.table.states x m in
      let lt = slice_get_within s.table.states at.0 x at.1 in
      let long = k.tables in
      let i = get_or c.expanded at.0 0 in
      let there : slice_get c.expanded at.0 ≡ Some i = slice_get-get_or c.expanded at.0 0 (omega (arith, lt, long)) in
      let d : Entry = get_or c.entries i (record { state = first t; estimate = 0; ops = [] }) in
      let entry : slice_get c.entries i ≡ Some d = slice_get-get_or c.entries i (record { state = first t; estimate = 0; ops = [] }) (k.within at.0 i there) in
      record {
        number = i;
        entry = d;
        taken = (sound t fit may budget c is).expanded at.0 i there;
        there = entry;
        same = same_Some d.state x (sym (k.states at.0 i d there entry) ∙ at.1);
      }

  seen_all : (c : Course) (n : ℕ) (s : Search) → IsCourse t may budget c → Keeps t (with_taken c n) s → (x : FactSet) → WasTaken c x → Member s.table.states x
  seen_all c n s is k x w =
      let r = (sound t fit may budget c is).taken w.number w.entry w.taken w.there in
      let e = r.1 in
      subst (Member s.table.states) (e.4 ∙ w.same) (member_at s.table.states r.0 e.1.state (k.states r.0 e.0 e.1 e.2 e.3))

  -- ---- a key came out of the queue

  module _ (old new : Search) (key : Key) (at : IsAt t may budget old) (p : Pops old key new) where
    entry : Entry
    entry = (popped_next t at.course old new key at.kept p).0

    is_next : IsNext at.course key.number entry
    unfolding entry
    is_next = (popped_next t at.course old new key at.kept p).1

    same_estimate : entry.estimate ≡ key.estimate
    unfolding entry
    same_estimate = (popped_next t at.course old new key at.kept p).2

    kept : Keeps t (with_taken at.course key.number) new
    kept = keeps_popped t at.course old new key at.kept p

    -- what holds of the entry
    of_it : (P : Entry → Type 0) → OfEntry t new key.number P → P entry
    of_it P h = h (with_taken at.course key.number) entry kept is_next.waits.there

    pub known : IsKnown t new key.number
    known = record { course = with_taken at.course key.number; entry = entry; kept = kept; there = is_next.waits.there }

    has_room : budget ≤ new.table.room
    has_room = let r = at.has_room in let e = ap (λ x. x.room) p.table in omega (arith, r, e)

    -- less is left to do
    pub less : work t budget new < work t budget old
    less = let e = ap (λ xs. (budget - length xs) * (length t.ops + 1)) p.expanded in let n = p.first.len in omega (arith, e, n)

    pub took : (x : FactSet) → OfEntry t new key.number (λ e. e.state ≡ x) → IsTaken t may budget key x new
    took x of = record {
      course = at.course;
      is = at.is;
      entry = entry;
      next = is_next;
      kept = kept;
      has_room = has_room;
      asked = same_asked may old.table.states new.table.states old.estimates.items new.estimates.items (ap (λ x. x.states) p.table) p.estimates at.asked;
      same = of_it (λ e. e.state ≡ x) of;
      estimate = same_estimate;
    }

  -- ---- an entry that was taken

  module _ (key : Key) (x : FactSet) (s : Search) (k : IsTaken t may budget key x s) where
    pub taken_known : IsKnown t s key.number
    taken_known = record { course = with_taken k.course key.number; entry = k.entry; kept = k.kept; there = k.next.waits.there }

    -- its state was taken before
    pub passes : Member s.table.states x → IsAt t may budget s
    passes m = record {
      course = with_taken k.course key.number;
      is = passed k.course key.number k.entry k.is k.next (subst (WasTaken k.course) (sym k.same) (seen k.course key.number s k.is k.kept x m));
      kept = k.kept;
      has_room = k.has_room;
      asked = k.asked;
    }

    -- it wasn't
    fresh : (Member s.table.states x → ⊥) → WasTaken k.course k.entry.state → ⊥
    fresh not_in w = not_in (subst (Member s.table.states) k.same (seen_all k.course key.number s k.is k.kept k.entry.state w))

    -- no state that was taken before meets the goal
    fresh_goal : is_goal t x ≡ true → WasTaken k.course k.entry.state → ⊥
    fresh_goal goal w =
        let holds = sound t fit may budget k.course k.is in
        let r = holds.taken w.number w.entry w.taken w.there in
        false≢true (sym (holds.no_goal r.0 x (subst (Expanded k.course r.0) (w.same ∙ k.same) r.1)) ∙ goal)

    -- not more are expanded than the budget says
    pub few : length s.expanded.items ≤ budget
    few = let h = (sound t fit may budget k.course k.is).few in let l = ap length k.kept.expanded in omega (arith, h, l)

    pub ends_plan : (ops : List ℕ) → is_goal t x ≡ true → OfEntry t s key.number (λ e. ops ≡ e.ops) → EndsWithPlan t may budget ops (length s.expanded.items)
    ends_plan ops goal of = record {
      course = k.course;
      is = k.is;
      number = key.number;
      entry = k.entry;
      next = k.next;
      new = fresh_goal goal;
      goal = subst (λ z. is_goal t z ≡ true) (sym k.same) goal;
      ops_are = of (with_taken k.course key.number) k.entry k.kept k.next.waits.there;
      expanded_are = ap length k.kept.expanded;
    }

    pub ends_spent : (Member s.table.states x → ⊥) → is_goal t x ≡ false → budget ≤ length s.expanded.items → EndsSpent t may budget budget
    ends_spent not_in plain full = record {
      course = k.course;
      is = k.is;
      number = key.number;
      entry = k.entry;
      next = k.next;
      new = fresh not_in;
      goal = subst (λ z. is_goal t z ≡ false) (sym k.same) plain;
      full = let h = few in let l = ap length k.kept.expanded in omega (arith, h, l, full);
      expanded_are = refl;
    }

  -- what its state was estimated at stands beside it
  pub kept_asked : (key : Key) (x : FactSet) (old mid : Search) → IsTaken t may budget key x old → (kept : Bool) → kept ≡ true → ExpandsIfNew old key x kept mid → AreEstimates may mid.table.states mid.estimates.items
  kept_asked key x old mid k false e h = absurd (false≢true e)
  kept_asked key x old mid k true e h =
      same_asked may (old.table.states ++ x ∷ []) mid.table.states (old.estimates.items ++ key.estimate ∷ []) mid.estimates.items h.1.states h.1.estimates
      (one_more_asked may old.table.states old.estimates.items x key.estimate k.asked
      (subst (λ v. may x (Some v)) k.estimate (subst (λ z. may z (Some k.entry.estimate)) k.same (estimated t may budget k.course k.is key.number k.entry k.next.waits.there))))

  pub kept_facts : (key : Key) (x : FactSet) (old mid : Search) → IsTaken t may budget key x old → (kept : Bool) → kept ≡ true → ExpandsIfNew old key x kept mid → mid.table.facts ≡ length t.facts
  kept_facts key x old mid k false e h = absurd (false≢true e)
  kept_facts key x old mid k true e h = h.1.facts ∙ k.kept.facts

  pub at_expanded : (key : Key) (place : ℕ) (x : FactSet) (old mid new : Search) → IsTaken t may budget key x old → is_goal t x ≡ false → length old.expanded.items < budget → place ≡ length old.expanded.items → (kept : Bool) → kept ≡ true → ExpandsIfNew old key x kept mid
      → Spreads t may place x mid (length t.ops) new → new.table ≡ mid.table → new.estimates.items ≡ mid.estimates.items → IsAt t may budget new
  at_expanded key place x old mid new k plain room is_place false e h spreads stays asked = absurd (false≢true e)
  at_expanded key place x old mid new k plain room is_place true e h spreads stays asked =
      let n = key.number in
      let kept = keeps_expanded t k.course old mid key k.entry k.kept k.next.waits.there (subst (λ z. Expands old key z mid) (sym k.same) h.1) in
      let r = spreads k.course n k.entry (record { kept = kept; place = is_place ∙ ap length k.kept.expanded; there = k.next.waits.there; same = k.same }) in
      let l = ap length k.kept.expanded in
      record {
        course = with_expanded k.course n r.0;
        is = spread k.course n k.entry r.0 k.is k.next (fresh key x old k h.0) (subst (λ z. is_goal t z ≡ false) (sym k.same) plain) (omega (arith, l, room)) r.1;
        kept = r.2;
        has_room = let a = k.has_room in let b = h.1.room in let c = ap (λ z. z.room) stays in omega (arith, a, b, c);
        asked = same_asked may mid.table.states new.table.states mid.estimates.items new.estimates.items (ap (λ z. z.states) stays) asked (kept_asked key x old mid k true e h);
      }

  -- its state was there
  pub stays_at : (key : Key) (x : FactSet) (old new : Search) → IsTaken t may budget key x old → (kept : Bool) → kept ≡ false → ExpandsIfNew old key x kept new → IsAt t may budget new
  stays_at key x old new k true e h = absurd (false≢true (sym e))
  stays_at key x old new k false e h = subst (IsAt t may budget) (sym h.1) (passes key x old k h.0)
