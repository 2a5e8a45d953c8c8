-- Actions lift, or fail in one place with one literal.
use Rattle.std.proofs.Common.{◌≡◌, ◌<◌, ◌≤◌, ◌⊎◌, ℕ, zero, suc, Bool, true, false, List, [], ◌∷◌, Option, Some, None, length, take, slice_get, refl, sym, ◌∙◌, subst, inl, inr, arith}
use Rattle.std.proofs.lemmas.Bool.{and_parts, and_from, cases_lt, false≢true, false_from_ne_true}
use Rattle.std.specs.List.{list_all}
use Rattle.kp_base.specs.declared.lit.Lit.{Lit}
use Rattle.kp_base.specs.declared.ground.Action.{Action}
use Rattle.kp_base.specs.declared.ground.Ground.{Ground}
use Rattle.kp_base.specs.declared.ground.TagTable.{TagTable}
use Rattle.kp_base.specs.Lists.{Member}
use Rattle.kp_base.specs.Steps.{asked, pre_of, IsLeastMissing}
use Rattle.kp_base.specs.Machine.{Known, start, may_act, accepts, stripped}
use Rattle.kp_base.proofs.Least.{not_all_facts, least_once, least_missing}
use Rattle.kp_base.proofs.Places.{element}
use Rattle.kp_law_tagged_machine.specs.Lifts.{after_merges, known_lifted_from, UnliftedAt}
use Rattle.kp_law_tagged_machine.specs.Completeness.{ListsLiftOrFail, FailingListsDontLift, ListsFailOnce}
use Rattle.kp_law_tagged_machine.proofs.Merges.{after_merges_more}
use Rattle.kp_law_tagged_machine.proofs.Lifted.{known_after, lifts_from, lifted_accepted, best_from}

-- what is asked before the step of this number, or at the goal, is known, from some knowledge on
abbrev ready_from : Ground → TagTable → Known → List ℕ → ℕ → Bool
ready_from g table k ns j = list_all (known_lifted_from g table k (take j ns) 0) (asked g (slice_get ns j))

-- the actions fail here, from some knowledge on
record Fails_from (g : Ground) (table : TagTable) (k : Known) (ns : List ℕ) (j : ℕ) (l : Lit) : Type 0 where
  in_range : j ≤ length ns
  before : (i : ℕ) → i < j → ready_from g table k ns i ≡ true
  unknown : IsLeastMissing (known_lifted_from g table k (take j ns) 0) (asked g (slice_get ns j)) l

-- ---- they lift or fail

-- at the first step, where its precondition isn't known
at_first : (g : Ground) (table : TagTable) (k : Known) (n : ℕ) (ns : List ℕ) → list_all (after_merges table.merges k 0) (pre_of (slice_get g.actions n)) ≡ false → (j : ℕ) × (l : Lit) × Fails_from g table k (n ∷ ns) j l
at_first g table k n ns h =
    let x = least_missing (after_merges table.merges k 0) (pre_of (slice_get g.actions n)) h in
    (0, x.0, record { in_range = omega arith; before = λ i lt. absurd (omega (arith, lt)); unknown = x.1 })

-- or later, where it is
later : (g : Ground) (table : TagTable) (k : Known) (n : ℕ) (ns : List ℕ) (j : ℕ) (l : Lit) → list_all (after_merges table.merges k 0) (pre_of (slice_get g.actions n)) ≡ true → Fails_from g table (known_after g table k n) ns j l → Fails_from g table k (n ∷ ns) (suc j) l
later g table k n ns j l ready f = record { in_range = let le = f.in_range in omega (arith, le); before = before; unknown = f.unknown }
  where
    before : (i : ℕ) → i < suc j → ready_from g table k (n ∷ ns) i ≡ true
    before zero lt = ready
    before (suc i) lt = f.before i (omega (arith, lt))

-- from some knowledge on
lift_or_fail_from : (g : Ground) (table : TagTable) (ns : List ℕ) (k : Known) → ((n : ℕ) → Member ns n → n < length g.actions) → (lifts_from g table k ns ≡ true) ⊎ ((j : ℕ) × (l : Lit) × Fails_from g table k ns j l)
lift_or_fail_from g table [] k there = by (list_all (after_merges table.merges k 0) g.goal) refl
  where
    by : (b : Bool) → list_all (after_merges table.merges k 0) g.goal ≡ b → (lifts_from g table k [] ≡ true) ⊎ ((j : ℕ) × (l : Lit) × Fails_from g table k [] j l)
    by true h = inl h
    by false h =
        let x = least_missing (after_merges table.merges k 0) g.goal h in
        inr (0, x.0, record { in_range = omega arith; before = λ i lt. absurd (omega (arith, lt)); unknown = x.1 })
lift_or_fail_from g table (n ∷ ns) k there = by (lift_or_fail_from g table ns (known_after g table k n) (λ m i. there m (inr i))) (list_all s (pre_of (slice_get g.actions n))) refl
  where
    s : Lit → Bool
    s = after_merges table.merges k 0

    none_is_some : (a : Action) → (let o : Option Action = None in o) ≡ Some a → ⊥
    none_is_some a e = cc

    allowed : (o : Option Action) → slice_get g.actions n ≡ o → list_all s (pre_of o) ≡ true → may_act o (after_merges table.merges k) ≡ true
    allowed None is h = let a = element g.actions n (there n (inl refl)) in absurd (none_is_some a.0 (sym is ∙ a.1))
    allowed (Some a) is h = h

    by : (lifts_from g table (known_after g table k n) ns ≡ true) ⊎ ((j : ℕ) × (l : Lit) × Fails_from g table (known_after g table k n) ns j l) → (b : Bool) → list_all s (pre_of (slice_get g.actions n)) ≡ b → (lifts_from g table k (n ∷ ns) ≡ true) ⊎ ((j : ℕ) × (l : Lit) × Fails_from g table k (n ∷ ns) j l)
    by rest false h = inr (at_first g table k n ns h)
    by rest true h = elim rest [
      | inl e ↦ inl (and_from (may_act (slice_get g.actions n) (after_merges table.merges k)) (lifts_from g table (known_after g table k n) ns) (allowed (slice_get g.actions n) refl h) e)
      | inr x ↦ inr (suc x.0, x.1, later g table k n ns x.0 x.1 h x.2)
    ]

pub lift_or_fail : ListsLiftOrFail
lift_or_fail g table ns there = elim (lift_or_fail_from g table ns (start table) there.each) [
  | inl e ↦ inl (lifted_accepted g table ns (start table) e)
  | inr x ↦ inr (x.0, x.1, record { in_range = x.2.in_range; before = x.2.before; unknown = x.2.unknown })
]

-- ---- where they lift, nothing that is asked is unknown

ready_where_lifted : (g : Ground) (table : TagTable) (ns : List ℕ) (k : Known) (j : ℕ) → j ≤ length ns → lifts_from g table k ns ≡ true → ready_from g table k ns j ≡ true
ready_where_lifted g table [] k zero le h = h
ready_where_lifted g table [] k (suc j) le h = absurd (omega (arith, le))
ready_where_lifted g table (n ∷ ns) k zero le h = first (slice_get g.actions n) (and_parts (may_act (slice_get g.actions n) (after_merges table.merges k)) (lifts_from g table (known_after g table k n) ns) h).0
  where
    first : (o : Option Action) → may_act o (after_merges table.merges k) ≡ true → list_all (after_merges table.merges k 0) (pre_of o) ≡ true
    first None e = absurd (false≢true e)
    first (Some a) e = e
ready_where_lifted g table (n ∷ ns) k (suc j) le h =
    ready_where_lifted g table ns (known_after g table k n) j (omega (arith, le)) (and_parts (may_act (slice_get g.actions n) (after_merges table.merges k)) (lifts_from g table (known_after g table k n) ns) h).1

pub dont_lift : FailingListsDontLift
dont_lift g table steps k l f = false_from_ne_true (accepts g table steps) (λ h.
    let lifts = best_from g table steps (start table) (start table) (after_merges_more table.merges (start table)) h in
    let ready = ready_where_lifted g table (stripped steps) (start table) k f.in_range lifts in
    false≢true (sym (not_all_facts _ _ l f.unknown) ∙ ready))

-- ---- once

-- at a place before the other the one isn't ready, and the other says that it is
not_before : (g : Ground) (table : TagTable) (ns : List ℕ) (k j : ℕ) (l m : Lit) → UnliftedAt g table ns k l → UnliftedAt g table ns j m → k < j → ⊥
not_before g table ns k j l m f h lt = false≢true (sym (not_all_facts _ _ l f.unknown) ∙ h.before k lt)

pub fail_once : ListsFailOnce
fail_once g table ns k j l m f h = (same, least_once _ _ l m f.unknown (subst (λ i. UnliftedAt g table ns i m) (sym same) h).unknown)
  where
    same : k ≡ j
    same = elim (cases_lt k j) [
      | inl lt ↦ absurd (not_before g table ns k j l m f h lt)
      | inr ge ↦ elim (cases_lt j k) [
        | inl lt ↦ absurd (not_before g table ns j k m l h f lt)
        | inr le ↦ omega arith
      ]
    ]
