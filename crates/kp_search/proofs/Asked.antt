-- The estimates of entries, and those that stand beside expanded states.
use Rattle.std.proofs.Common.{◌≡◌, ◌<◌, ◌+◌, ℕ, List, [], ◌∷◌, ◌++◌, Option, Some, length, slice_get, get_or, arith, refl, sym, ap, subst, ◌∙◌, inl, inr}
use Rattle.std.proofs.lemmas.List.{length-append}
use Rattle.std.proofs.lemmas.Option.{slice_get_within}
use Rattle.kp_classic.specs.declared.task.Task.{Task}
use Rattle.kp_classic.specs.States.{FactSet}
use Rattle.kp_search.specs.Estimates.{AreEstimates}
use Rattle.kp_search.specs.Trace.{Entry, Course, entry_after, Enters, IsCourse}
use Rattle.kp_search.specs.Trace.Enters.{none, off, dead, enter}
use Rattle.kp_search.specs.Trace.IsCourse.{lost, begun, passed, spread}
use Rattle.kp_search.proofs.Slices.{read_at, slice_parts, slice_split}

-- ---- an entry has an estimate that its state may have

module _ (t : Task) (may : FactSet → Option ℕ → Type 0) where
  entered : (e : Entry) (k : ℕ) (new : List Entry) → Enters t may e k new → (i : ℕ) (d : Entry) → slice_get new i ≡ Some d → may d.state (Some d.estimate)
  entered e k new none i d h = cc
  entered e k new (off j old en cannot) i d h = entered e j old en i d h
  entered e k new (dead j old en can_it m) i d h = entered e j old en i d h
  entered e k new (enter j old v en can_it m) i d h = elim (slice_parts old (entry_after t e j v) i d h) [
    | inl g ↦ entered e j old en i d g
    | inr g ↦ subst (λ (x : Entry). may x.state (Some x.estimate)) (sym g.1) m
  ]

  pub estimated : (budget : ℕ) (c : Course) → IsCourse t may budget c → (i : ℕ) (d : Entry) → slice_get c.entries i ≡ Some d → may d.state (Some d.estimate)
  estimated budget c (lost m) i d h = cc
  estimated budget c (begun v m) i d h = elim (slice_parts [] _ i d h) [
    | inl g ↦ cc
    | inr g ↦ subst (λ (x : Entry). may x.state (Some x.estimate)) (sym g.1) m
  ]
  estimated budget c (passed b n e is next was) i d h = estimated budget b is i d h
  estimated budget c (spread b n e new is next fresh plain less enters) i d h = elim (slice_split b.entries new i d h) [
    | inl g ↦ estimated budget b is i d g
    | inr g ↦ entered e (length t.ops) new enters g.0 d g.2
  ]

-- ---- estimates beside states

module _ (may : FactSet → Option ℕ → Type 0) where
  pub none_asked : (states : List FactSet) (estimates : List ℕ) → states ≡ [] → estimates ≡ [] → AreEstimates may states estimates
  none_asked states estimates e f = record {
    many = ap length f ∙ sym (ap length e);
    each = λ k s h a b. let x = ap (λ xs. slice_get xs k) e in cc;
  }

  pub same_asked : (states others : List FactSet) (estimates numbers : List ℕ) → others ≡ states → numbers ≡ estimates → AreEstimates may states estimates → AreEstimates may others numbers
  same_asked states others estimates numbers e f a = subst (λ xs. AreEstimates may xs numbers) (sym e) (subst (AreEstimates may states) (sym f) a)

  pub one_more_asked : (states : List FactSet) (estimates : List ℕ) (s : FactSet) (h : ℕ) → AreEstimates may states estimates → may s (Some h) → AreEstimates may (states ++ s ∷ []) (estimates ++ h ∷ [])
  one_more_asked states estimates s h a m = record { many = many; each = each }
    where
      many : length (estimates ++ h ∷ []) ≡ length (states ++ s ∷ [])
      many = length-append estimates (h ∷ []) ∙ (ap (λ n. n + 1) a.many ∙ sym (length-append states (s ∷ [])))

      each : (k : ℕ) (x : FactSet) (v : ℕ) → slice_get (states ++ s ∷ []) k ≡ Some x → slice_get (estimates ++ h ∷ []) k ≡ Some v → may x (Some v)
      each k x v p q = elim (slice_parts states s k x p) [
        | inl old ↦ elim (slice_parts estimates h k v q) [
          | inl same ↦ a.each k x v old same
          | inr last ↦ let lt = slice_get_within states k x old in let n = a.many in let l = last.0 in absurd (omega (arith, lt, n, l))
        ]
        | inr new ↦ elim (slice_parts estimates h k v q) [
          | inl same ↦ let lt = slice_get_within estimates k v same in let n = a.many in let l = new.0 in absurd (omega (arith, lt, n, l))
          | inr last ↦ subst (λ y. may y (Some v)) (sym new.1) (subst (λ w. may s (Some w)) (sym last.1) m)
        ]
      ]

  -- what is read beside a state that is there
  pub asked_within : (states : List FactSet) (estimates : List ℕ) (place : ℕ) (s : FactSet) → AreEstimates may states estimates → slice_get states place ≡ Some s → place < length estimates
  asked_within states estimates place s a there = let lt = slice_get_within states place s there in let n = a.many in omega (arith, lt, n)

  pub asked_there : (states : List FactSet) (estimates : List ℕ) (place h : ℕ) (s : FactSet) → AreEstimates may states estimates → slice_get states place ≡ Some s → h ≡ get_or estimates place h → may s (Some h)
  asked_there states estimates place h s a there read = a.each place s h there (read_at estimates place h h (asked_within states estimates place s a there) read refl)
