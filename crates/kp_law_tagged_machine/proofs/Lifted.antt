-- A lifted list strips to what was lifted, and is accepted where any list is that strips to the same.
use Rattle.std.proofs.Common.{◌≡◌, ℕ, ◌+◌, Bool, true, false, not, ◌&&◌, if◌then◌else◌, List, [], ◌∷◌, ◌++◌, Option, Some, None, refl, sym, ◌∙◌, ap, subst, slice_get, suc, arith, append-nil}
use Rattle.std.proofs.lemmas.Bool.{and_parts, and_from, false≢true}
use Rattle.std.specs.List.{list_all}
use Rattle.kp_base.specs.declared.ground.Action.{Action}
use Rattle.kp_base.specs.declared.ground.Ground.{Ground}
use Rattle.kp_base.specs.declared.ground.TagTable.{TagTable}
use Rattle.kp_base.specs.declared.ground.Merge.{Merge}
use Rattle.kp_base.specs.Machine.{MachineStep, Known, start, may_act, after_act, may_merge, after_merge, accepts_from, stripped}
use Rattle.kp_base.proofs.Lists.{member_at, all_weaker}
use Rattle.kp_law_tagged_machine.proofs.Monotone.{facts_more_all}
use Rattle.kp_law_tagged_machine.specs.Lifts.{adds, after_merges, merges_taken, lift_from}
use Rattle.kp_law_tagged_machine.specs.Completeness.{LiftedListsStrip, LiftedListsAreBest}
use Rattle.kp_law_tagged_machine.proofs.Merges.{Knows_more, may_merge_more, after_merge_grows, after_merges_more, merge_adds_nothing}

-- what is known after the merges and one action
abbrev pub known_after : Ground → TagTable → Known → ℕ → Known
known_after g table k n = after_act (slice_get g.actions n) (after_merges table.merges k)

-- from this knowledge on the actions lift: each is allowed behind the merges before it, and the goal is known behind the last
abbrev pub lifts_from : Ground → TagTable → Known → List ℕ → Bool
lifts_from g table k [] = list_all (after_merges table.merges k 0) g.goal
lifts_from g table k (n ∷ ns) = may_act (slice_get g.actions n) (after_merges table.merges k) && lifts_from g table (known_after g table k n) ns

-- ---- the merges of a lifted list

merges_stripped : (n : ℕ) (ms : List Merge) (k : Known) (rest : List MachineStep) → stripped (merges_taken n ms k ++ rest) ≡ stripped rest
merges_stripped n [] k rest = refl
merges_stripped n (m ∷ ms) k rest = here (merges_stripped (suc n) ms (after_merge (Some m) k) rest) (merges_stripped (suc n) ms k rest) (adds m k)
  where
    here : stripped (merges_taken (suc n) ms (after_merge (Some m) k) ++ rest) ≡ stripped rest → stripped (merges_taken (suc n) ms k ++ rest) ≡ stripped rest → (b : Bool) → stripped ((if b then MachineStep.merge n ∷ merges_taken (suc n) ms (after_merge (Some m) k) else merges_taken (suc n) ms k) ++ rest) ≡ stripped rest
    here taken skipped true = taken
    here taken skipped false = skipped

-- the merges stand in the table from this number on
abbrev pub Stand_at : TagTable → ℕ → List Merge → Type 0
Stand_at table n ms = (i : ℕ) → slice_get table.merges (n + i) ≡ slice_get ms i

pub all_stand : (table : TagTable) → Stand_at table 0 table.merges
all_stand table i = ap (slice_get table.merges) (zero_plus i)
  where
    zero_plus : (i : ℕ) → 0 + i ≡ i
    zero_plus i = omega arith

-- those that are taken are accepted, and lead to what is known after all
merges_accepted : (g : Ground) (table : TagTable) (n : ℕ) (ms : List Merge) (k : Known) (rest : List MachineStep) → Stand_at table n ms → accepts_from g table (after_merges ms k) rest ≡ true → accepts_from g table k (merges_taken n ms k ++ rest) ≡ true
merges_accepted g table n [] k rest stand h = h
merges_accepted g table n (m ∷ ms) k rest stand h =
    here (λ k' h'. merges_accepted g table (suc n) ms k' rest (λ i. ap (slice_get table.merges) (shift n i) ∙ stand (suc i)) h') (adds m k) refl h
  where
    shift : (n i : ℕ) → suc n + i ≡ n + suc i
    shift n i = omega arith

    plus_zero : (n : ℕ) → n ≡ n + 0
    plus_zero n = omega arith

    here : ((k' : Known) → accepts_from g table (after_merges ms k') rest ≡ true → accepts_from g table k' (merges_taken (suc n) ms k' ++ rest) ≡ true) → (b : Bool) → adds m k ≡ b → accepts_from g table (after_merges ms (if b then after_merge (Some m) k else k)) rest ≡ true → accepts_from g table k ((if b then MachineStep.merge n ∷ merges_taken (suc n) ms (after_merge (Some m) k) else merges_taken (suc n) ms k) ++ rest) ≡ true
    here later true is p =
        let o : slice_get table.merges n ≡ Some m = ap (slice_get table.merges) (plus_zero n) ∙ stand 0 in
        rw o (and_from (may_merge (Some m) k) (accepts_from g table (after_merge (Some m) k) (merges_taken (suc n) ms (after_merge (Some m) k) ++ rest)) (and_parts (may_merge (Some m) k) (not (k 0 m.target)) is).0 (later (after_merge (Some m) k) p))
    here later false is p = later k p

-- ---- lifted lists

stripped_from : (g : Ground) (table : TagTable) (ns : List ℕ) (k : Known) → stripped (lift_from g table k ns) ≡ ns
stripped_from g table [] k = ap stripped (sym (append-nil (merges_taken 0 table.merges k))) ∙ merges_stripped 0 table.merges k []
stripped_from g table (n ∷ ns) k =
    let next = known_after g table k n in
    merges_stripped 0 table.merges k (MachineStep.act n ∷ lift_from g table next ns) ∙ ap (λ xs. n ∷ xs) (stripped_from g table ns next)

pub lists_strip : LiftedListsStrip
lists_strip g table ns = stripped_from g table ns (start table)

-- where the actions lift, the lifted list is accepted
pub lifted_accepted : (g : Ground) (table : TagTable) (ns : List ℕ) (k : Known) → lifts_from g table k ns ≡ true → accepts_from g table k (lift_from g table k ns) ≡ true
lifted_accepted g table [] k h =
    subst (λ (xs : List MachineStep). accepts_from g table k xs ≡ true) (append-nil (merges_taken 0 table.merges k)) (merges_accepted g table 0 table.merges k [] (all_stand table) h)
lifted_accepted g table (n ∷ ns) k h =
    let o = slice_get g.actions n in
    let s = after_merges table.merges k in
    let parts = and_parts (may_act o s) (lifts_from g table (after_act o s) ns) h in
    merges_accepted g table 0 table.merges k (MachineStep.act n ∷ lift_from g table (after_act o s) ns) (all_stand table)
    (and_from (may_act o s) (accepts_from g table (after_act o s) (lift_from g table (after_act o s) ns)) parts.0 (lifted_accepted g table ns (after_act o s) parts.1))

-- ---- no list does better

may_act_more : (o : Option Action) (k j : Known) → Knows_more k j → may_act o k ≡ true → may_act o j ≡ true
may_act_more None k j more h = h
may_act_more (Some a) k j more h = all_weaker (k 0) (j 0) a.pre (λ l _. more 0 l) h

pub after_act_more : (o : Option Action) (k j : Known) → Knows_more k j → Knows_more (after_act o k) (after_act o j)
after_act_more None k j more t l h = more t l h
after_act_more (Some a) k j more t l h = facts_more_all a (k t) (j t) (more t) l h

-- from knowledge that the merges reach, steps are accepted only where their actions lift
pub best_from : (g : Ground) (table : TagTable) (steps : List MachineStep) (k j : Known) → Knows_more k (after_merges table.merges j) → accepts_from g table k steps ≡ true → lifts_from g table j (stripped steps) ≡ true
best_from g table [] k j more h = all_weaker (k 0) (after_merges table.merges j 0) g.goal (λ l _. more 0 l) h
best_from g table (MachineStep.act n ∷ steps) k j more h =
    let o = slice_get g.actions n in
    let s = after_merges table.merges j in
    let parts = and_parts (may_act o k) (accepts_from g table (after_act o k) steps) h in
    and_from (may_act o s) (lifts_from g table (after_act o s) (stripped steps)) (may_act_more o k s more parts.0)
    (best_from g table steps (after_act o k) (after_act o s) (λ t l e. after_merges_more table.merges (after_act o s) t l (after_act_more o k s more t l e)) parts.1)
best_from g table (MachineStep.merge n ∷ steps) k j more h = by (λ k'. best_from g table steps k' j) (slice_get table.merges n) refl h
  where
    by : ((k' : Known) → Knows_more k' (after_merges table.merges j) → accepts_from g table k' steps ≡ true → lifts_from g table j (stripped steps) ≡ true) → (o : Option Merge) → slice_get table.merges n ≡ o → (may_merge o k && accepts_from g table (after_merge o k) steps) ≡ true → lifts_from g table j (stripped steps) ≡ true
    by rest None is p = absurd (false≢true p)
    by rest (Some m) is p =
        let s = after_merges table.merges j in
        let parts = and_parts (may_merge (Some m) k) (accepts_from g table (after_merge (Some m) k) steps) p in
        let there = may_merge_more m k s more parts.0 in
        rest (after_merge (Some m) k) (λ t l e. merge_adds_nothing table.merges j m (member_at table.merges n m is) there t l (after_merge_grows m k s more t l e)) parts.1

pub lists_best : LiftedListsAreBest
lists_best g table steps h = lifted_accepted g table (stripped steps) (start table) (best_from g table steps (start table) (start table) (after_merges_more table.merges (start table)) h)
