-- What is known under a tag is true in each run from a model that makes the tag true.
use Rattle.std.proofs.Common.{◌≡◌, ℕ, true, false, ◌&&◌, List, [], ◌∷◌, Option, Some, None, refl, subst, sym, slice_get, inl, inr, nat_eq}
use Rattle.std.proofs.lemmas.Bool.{and_parts, and_from, or_cases, false≢true}
use Rattle.std.specs.List.{list_any, list_all}
use Rattle.kp_base.specs.declared.lit.Lit.{Lit}
use Rattle.kp_base.specs.declared.ground.Action.{Action}
use Rattle.kp_base.specs.declared.ground.Ground.{Ground}
use Rattle.kp_base.specs.declared.ground.Initial.{Initial}
use Rattle.kp_base.specs.declared.ground.TagRow.{TagRow}
use Rattle.kp_base.specs.declared.ground.TagTable.{TagTable}
use Rattle.kp_base.specs.declared.ground.Merge.{Merge}
use Rattle.kp_base.specs.Planning.{Member, same_lit, State, holds, next, applicable, runs, state_after, succeeds, is_model, tag_holds, IsTable, AreValid, clashes_at, MachineStep, Known, closure_of, start, may_act, after_act, may_merge, after_merge, accepts_from, stripped}
use Rattle.kp_base.specs.Steps.{has}
use Rattle.kp_base.proofs.Lists.{member_at, all_weaker, all_member, any_member}
use Rattle.kp_base.proofs.Lits.{same_lit-true}
use Rattle.kp_law_tagged_machine.specs.Laws.{AcceptedListsArePlans}
use Rattle.kp_law_tagged_machine.proofs.Exact.{exact}
use Rattle.kp_law_tagged_machine.proofs.Monotone.{facts_more_all}

-- ---- no clash from here on

-- after no run from this state does an applicable action clash
abbrev pub No_clash_from : Ground → State → Type 0
No_clash_from g s = (ns : List ℕ) (a : Action) (p : ℕ) → runs g s ns ≡ true → Member g.actions a → list_all (holds (state_after g s ns)) a.pre ≡ true → clashes_at a (state_after g s ns) p ≡ false

pub no_clash_next : (g : Ground) (s : State) (n : ℕ) → No_clash_from g s → applicable (slice_get g.actions n) s ≡ true → No_clash_from g (next (slice_get g.actions n) s)
no_clash_next g s n never ok ns a p r = never (n ∷ ns) a p (and_from (applicable (slice_get g.actions n) s) (runs g (next (slice_get g.actions n) s) ns) ok r)

-- ---- what is known is true

-- from a model m, in state s now: what is known under a tag that m makes true is true
abbrev pub True_so_far : TagTable → State → Known → State → Type 0
True_so_far table m k s = (t : ℕ) → tag_holds (slice_get table.tags t) m ≡ true → (l : Lit) → k t l ≡ true → holds s l ≡ true

true_at_start : (g : Ground) (i : Initial) (table : TagTable) → IsTable g i table → (m : State) → is_model i m ≡ true → True_so_far table m (start table) m
true_at_start g i table right m model t met l known = by (slice_get table.tags t) refl met known
  where
    by : (o : Option TagRow) → slice_get table.tags t ≡ o → tag_holds o m ≡ true → has (closure_of o) l ≡ true → holds m l ≡ true
    by None is met' known' = absurd (false≢true met')
    by (Some row) is met' known' = (right.closures row (member_at table.tags t row is)).entailed l known' m model met'

merge_keeps : (table : TagTable) (m : State) (k : Known) (s : State) (x : Merge) → list_any (λ t. tag_holds (slice_get table.tags t) m) x.tags ≡ true → True_so_far table m k s → may_merge (Some x) k ≡ true → True_so_far table m (after_merge (Some x) k) s
merge_keeps table m k s x valid so_far ok t met l h =
    elim (or_cases (k t l) (nat_eq t 0 && same_lit x.target l) h) [
      | inl e ↦ so_far t met l e
      | inr e ↦
          let which = any_member (λ t. tag_holds (slice_get table.tags t) m) x.tags valid in
          let known = all_member (λ t. k t x.target) x.tags which.0 which.1 ok in
          let parts = and_parts (nat_eq t 0) (same_lit x.target l) e in
          subst (λ (y : Lit). holds s y ≡ true) (same_lit-true x.target l parts.1) (so_far which.0 which.2 x.target known)
    ]

action_keeps : (table : TagTable) (m : State) (k : Known) (s : State) (a : Action) → ((p : ℕ) → clashes_at a s p ≡ false) → True_so_far table m k s → True_so_far table m (after_act (Some a) k) (next (Some a) s)
action_keeps table m k s a none so_far t met l h =
    subst (λ b. b ≡ true) (exact a s l (none l.atom.0)) (facts_more_all a (k t) (holds s) (λ c e. so_far t met c e) l h)

-- ---- soundness

-- from here on, what the machine accepts succeeds from m
abbrev pub Succeeds_from : Ground → TagTable → State → List MachineStep → Type 0
Succeeds_from g table m steps = (k : Known) (s : State) → No_clash_from g s → True_so_far table m k s → accepts_from g table k steps ≡ true → succeeds g s (stripped steps) ≡ true

-- every model makes tag 0 true
empty_holds : (g : Ground) (i : Initial) (table : TagTable) → IsTable g i table → (m : State) → tag_holds (slice_get table.tags 0) m ≡ true
empty_holds g i table right m =
    let first = right.first in
    rw first.1 (subst (λ ls. list_all (holds m) ls ≡ true) (sym first.2) refl)

pub sound_from : (g : Ground) (i : Initial) (table : TagTable) → IsTable g i table → AreValid i table → (m : State) → is_model i m ≡ true → (steps : List MachineStep) → Succeeds_from g table m steps
sound_from g i table right valid m model [] k s never so_far h =
    all_weaker (k 0) (holds s) g.goal (λ l _. so_far 0 (empty_holds g i table right m) l) h
sound_from g i table right valid m model (MachineStep.act n ∷ steps) k s never so_far h =
    act (sound_from g i table right valid m model steps) (slice_get g.actions n) refl h
  where
    act : Succeeds_from g table m steps → (o : Option Action) → slice_get g.actions n ≡ o → (may_act o k && accepts_from g table (after_act o k) steps) ≡ true → (applicable (slice_get g.actions n) s && succeeds g (next (slice_get g.actions n) s) (stripped steps)) ≡ true
    act rest None is p = absurd (false≢true p)
    act rest (Some a) is p =
        let parts = and_parts (may_act (Some a) k) (accepts_from g table (after_act (Some a) k) steps) p in
        let ok : list_all (holds s) a.pre ≡ true = all_weaker (k 0) (holds s) a.pre (λ l _. so_far 0 (empty_holds g i table right m) l) parts.0 in
        let ok' : applicable (slice_get g.actions n) s ≡ true = rw is ok in
        let later : No_clash_from g (next (Some a) s) = subst (λ o. No_clash_from g (next o s)) is (no_clash_next g s n never ok') in
        rw is (and_from (list_all (holds s) a.pre) (succeeds g (next (Some a) s) (stripped steps)) ok
        (rest (after_act (Some a) k) (next (Some a) s) later (action_keeps table m k s a (λ p. never [] a p refl (member_at g.actions n a is) ok) so_far) parts.1))
sound_from g i table right valid m model (MachineStep.merge n ∷ steps) k s never so_far h =
    merge (sound_from g i table right valid m model steps) (slice_get table.merges n) refl h
  where
    merge : Succeeds_from g table m steps → (o : Option Merge) → slice_get table.merges n ≡ o → (may_merge o k && accepts_from g table (after_merge o k) steps) ≡ true → succeeds g s (stripped steps) ≡ true
    merge rest None is p = absurd (false≢true p)
    merge rest (Some x) is p =
        let parts = and_parts (may_merge (Some x) k) (accepts_from g table (after_merge (Some x) k) steps) p in
        rest (after_merge (Some x) k) s never (merge_keeps table m k s x (valid.each x (member_at table.merges n x is) m model) so_far parts.0) parts.1

pub sound : AcceptedListsArePlans
sound g i table right valid never steps h m model =
    sound_from g i table right valid m model steps (start table) m (λ ns a p. never.no_clash m ns a p model) (true_at_start g i table right m model) h
