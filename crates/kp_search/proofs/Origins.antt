-- Where an entry comes from.
use Rattle.std.proofs.Common.{◌≡◌, ◌<◌, ℕ, List, [], ◌∷◌, ◌++◌, Some, length, reverse, slice_get, arith, sym, ap, subst, ◌∙◌}
use Rattle.std.proofs.lemmas.Option.{slice_get_within, same_Some}
use Rattle.std.proofs.lemmas.List.{append_assoc, append-nil, reverse-append}
use Rattle.kp_classic.specs.declared.task.Task.{Task}
use Rattle.kp_search.specs.declared.course.Origin.{Origin}
use Rattle.kp_search.specs.declared.course.Origin.TheVariants.{Start, Step}
use Rattle.kp_search.specs.declared.course.Search.{Search}
use Rattle.kp_classic.specs.States.{FactSet}
use Rattle.kp_search.specs.Trace.{Entry, Course, first, step}
use Rattle.kp_search.specs.Kept.{ComesFrom, Keeps}
use Rattle.kp_search.specs.Turns.{IsKnown, OfEntry, IsBehind}

module _ (t : Task) (s : Search) where
  pub known_within : (n : ℕ) → IsKnown t s n → n < length s.origins.items
  known_within n k = let w = slice_get_within k.course.entries n k.entry k.there in let l = k.kept.long in omega (arith, w, l)

  pub comes_from : (c : Course) (n : ℕ) (e : Entry) (o : Origin) → Keeps t c s → slice_get c.entries n ≡ Some e → slice_get s.origins.items n ≡ Some o → ComesFrom t c n e o
  comes_from c n e o k there h = let r = k.origins n e there in subst (ComesFrom t c n e) (same_Some r.0 o (sym r.1 ∙ h)) r.2

  pub step_known : (n k op : ℕ) → IsKnown t s n → slice_get s.origins.items n ≡ Some (Step k op) → (k < length s.table.states) × (op < length t.ops) × (k < length s.expanded.items)
  step_known n k op known h =
      let f = comes_from known.course n known.entry (Step k op) known.kept known.there h in
      let lt = slice_get_within known.course.expanded k f.0 f.2 in
      let l = known.kept.tables in
      let x = ap length known.kept.expanded in
      let q = f.5 in
      (omega (arith, lt, l), q, omega (arith, lt, x))

  pub start_state : (n : ℕ) → slice_get s.origins.items n ≡ Some Start → OfEntry t s n (λ e. e.state ≡ first t)
  start_state n h c e k there = (comes_from c n e Start k there h).0

  pub step_state : (n k op : ℕ) (x : FactSet) → slice_get s.origins.items n ≡ Some (Step k op) → slice_get s.table.states k ≡ Some x → OfEntry t s n (λ e. e.state ≡ step t op x)
  step_state n k op x h at c e kept there =
      let f = comes_from c n e (Step k op) kept there h in
      f.6 ∙ ap (step t op) (same_Some f.1.state x (sym (kept.states k f.0 f.1 f.2 f.3) ∙ at))

  -- ---- the operators, from the last to the first

  pub behind_none : (n : ℕ) → IsBehind t s n n []
  behind_none n c e k there = (e, there, sym (append-nil e.ops))

  pub behind_more : (n at k op : ℕ) (back : List ℕ) (m : ℕ) → IsBehind t s n at back → slice_get s.origins.items at ≡ Some (Step k op) → slice_get s.expanded.items k ≡ Some m → IsBehind t s n m (back ++ op ∷ [])
  behind_more n at k op back m h o x c e kept there =
      let r = h c e kept there in
      let f = comes_from c at r.0 (Step k op) kept r.1 o in
      let same : f.0 ≡ m = same_Some f.0 m (sym f.2 ∙ (ap (λ xs. slice_get xs k) (sym kept.expanded) ∙ x)) in (
        f.1,
        subst (λ i. slice_get c.entries i ≡ Some f.1) same f.3,
        r.2 ∙ (ap (λ os. os ++ reverse back) f.7 ∙ (append_assoc f.1.ops (op ∷ []) (reverse back) ∙ ap (λ os. f.1.ops ++ os) (sym (reverse_more back op)))),
      )
    where
      reverse_more : (xs : List ℕ) (x : ℕ) → reverse (xs ++ x ∷ []) ≡ x ∷ reverse xs
      reverse_more xs x = reverse-append xs (x ∷ [])

  pub behind_less : (n at k op m : ℕ) (back : List ℕ) → IsKnown t s n → IsBehind t s n at back → slice_get s.origins.items at ≡ Some (Step k op) → slice_get s.expanded.items k ≡ Some m → m < at
  behind_less n at k op m back known h o x =
      let r = h known.course known.entry known.kept known.there in
      let f = comes_from known.course at r.0 (Step k op) known.kept r.1 o in
      let same : f.0 ≡ m = same_Some f.0 m (sym f.2 ∙ (ap (λ xs. slice_get xs k) (sym known.kept.expanded) ∙ x)) in
      let lt = f.4 in
      omega (arith, same, lt)

  -- an entry on the way is known too
  pub behind_known : (n at : ℕ) (back : List ℕ) → IsKnown t s n → IsBehind t s n at back → IsKnown t s at
  behind_known n at back known h = let r = h known.course known.entry known.kept known.there in record { course = known.course; entry = r.0; kept = known.kept; there = r.1 }

  pub behind_all : (n at : ℕ) (back : List ℕ) → IsBehind t s n at back → slice_get s.origins.items at ≡ Some Start → OfEntry t s n (λ e. reverse back ≡ e.ops)
  behind_all n at back h o c e kept there =
      let r = h c e kept there in
      let f = comes_from c at r.0 Start kept r.1 o in
      sym (r.2 ∙ ap (λ os. os ++ reverse back) f.1)
