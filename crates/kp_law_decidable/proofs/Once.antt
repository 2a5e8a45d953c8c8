-- What is answered on merges, on a plan and on its steps is one.
use Rattle.std.proofs.Common.{◌≡◌, ◌<◌, ◌≤◌, ◌+◌, ℕ, zero, suc, Bool, true, false, not, ◌||◌, nat_eq, List, [], ◌∷◌, ◌++◌, Option, Some, None, is_some, length, map, take, slice_get, refl, sym, ap, subst, ◌∙◌, inl, inr, arith, eq-eqb}
use Rattle.std.proofs.lemmas.Bool.{and_parts, or_left, or_from, false≢true, cases_lt, ne_eqb}
use Rattle.std.specs.List.{list_all}
use Rattle.kp_base.specs.declared.lit.Lit.{Lit}
use Rattle.kp_base.specs.declared.lit.AtomId.{AtomId}
use Rattle.kp_base.specs.declared.ground.Ground.{Ground}
use Rattle.kp_base.specs.declared.ground.Initial.{Initial}
use Rattle.kp_base.specs.declared.ground.TagTable.{TagTable}
use Rattle.kp_base.specs.declared.refused.Refused.{Refused}
use Rattle.kp_base.specs.declared.refused.Refused.TheVariants as refusals
use Rattle.kp_base.specs.Lists.{Member}
use Rattle.kp_base.specs.Steps.{State, is_model, succeeds, IsGroundPlan}
use Rattle.kp_base.proofs.Lists.{member_at, member_right, member_map, map_member}
use Rattle.kp_primes_first_model.specs.Asked.{is_wanted}
use Rattle.kp_primes_first_model.specs.Ordered.{state_of_atoms, AreRising, AreFirst}
use Rattle.kp_primes_first_model.proofs.Public.{first_state_once}
use Rattle.kp_cover.specs.Valid.{satisfies_one, is_outside}
use Rattle.kp_check.specs.declared.answer.Judged.{Judged}
use Rattle.kp_check.specs.declared.answer.Judged.TheVariants.{Yes, No}
use Rattle.kp_check.specs.Failing.{FailAt}
use Rattle.kp_check.specs.Judging.{fails, IsVerdict}
use Rattle.kp_check.proofs.Public.{steps_fail_in_one_place}
use Rattle.kp_plans.specs.declared.step.PlanStep.{PlanStep}
use Rattle.kp_plans.specs.Found.{IsFirstUnknown}
use Rattle.kp_tags_files.specs.declared.merge.FileMerge.{FileMerge}
use Rattle.kp_tags.specs.Answers.{AreConsistent, IsFirstInconsistent, AreAcceptable, RefusesMerge, inconsistent, invalid, AreAllAcceptable, RefusesFirstMerge, Accepts, RefusesTable, at_fault, tags_over}
use Rattle.kp_tags.proofs.Public.{accepted_table_once}

-- ---- lists of atoms

one_atom : (a b : AtomId) → a.0 ≡ b.0 → a ≡ b
one_atom a b same = ap (λ n. let atom : AtomId = record { 0 = n } in atom) same

rest_rises : (p : AtomId) (ps : List AtomId) → AreRising (p ∷ ps) → AreRising ps
rest_rises p [] r = tt
rest_rises p (q ∷ ps) r = r.1

-- atoms below the first of rising ones aren't among them
none_below : (q : AtomId) (qs : List AtomId) → AreRising (q ∷ qs) → (x : ℕ) → x < q.0 → state_of_atoms (q ∷ qs) x ≡ false
none_below q [] r x lt = or_from (nat_eq q.0 x) false (ne_eqb q.0 x (λ e. absurd (omega (arith, e, lt)))) refl
none_below q (p ∷ qs) r x lt = or_from (nat_eq q.0 x) (state_of_atoms (p ∷ qs) x) (ne_eqb q.0 x (λ e. absurd (omega (arith, e, lt)))) (none_below p qs r.1 x (let up = r.0 in omega (arith, up, lt)))

none_up_to : (q : AtomId) (qs : List AtomId) → AreRising (q ∷ qs) → (x : ℕ) → x ≤ q.0 → state_of_atoms qs x ≡ false
none_up_to q [] r x le = refl
none_up_to q (p ∷ qs) r x le = none_below p qs r.1 x (let up = r.0 in omega (arith, up, le))

there : (q : AtomId) (qs : List AtomId) → state_of_atoms (q ∷ qs) q.0 ≡ true
there q qs = or_left (nat_eq q.0 q.0) (state_of_atoms qs q.0) (eq-eqb q.0 q.0 refl)

-- of lists with the same state, the first atom of one isn't below that of the other
not_below : (p q : AtomId) (ps qs : List AtomId) → AreRising (q ∷ qs) → ((x : ℕ) → state_of_atoms (p ∷ ps) x ≡ state_of_atoms (q ∷ qs) x) → p.0 < q.0 → ⊥
not_below p q ps qs r same lt = false≢true (sym (none_below q qs r p.0 lt) ∙ (sym (same p.0) ∙ there p ps))

-- the rest has the same state
rest_same : (p : AtomId) (ps qs : List AtomId) → AreRising (p ∷ ps) → AreRising (p ∷ qs) → ((x : ℕ) → state_of_atoms (p ∷ ps) x ≡ state_of_atoms (p ∷ qs) x) → (x : ℕ) → state_of_atoms ps x ≡ state_of_atoms qs x
rest_same p ps qs r s same x = elim (cases_lt p.0 x) [
  | inl lt ↦ let other = ne_eqb p.0 x (λ e. absurd (omega (arith, e, lt))) in sym (past (nat_eq p.0 x) (state_of_atoms ps x) other) ∙ (same x ∙ past (nat_eq p.0 x) (state_of_atoms qs x) other)
  | inr le ↦ none_up_to p ps r x le ∙ sym (none_up_to p qs s x le)
]
  where
    past : (a b : Bool) → a ≡ false → (a || b) ≡ b
    past false b e = refl
    past true b e = absurd (false≢true (sym e))

-- rising lists of atoms with the same state are one
pub rising_once : (ps qs : List AtomId) → AreRising ps → AreRising qs → ((x : ℕ) → state_of_atoms ps x ≡ state_of_atoms qs x) → ps ≡ qs
rising_once [] [] r s same = refl
rising_once [] (q ∷ qs) r s same = absurd (false≢true (same q.0 ∙ there q qs))
rising_once (p ∷ ps) [] r s same = absurd (false≢true (sym (same p.0) ∙ there p ps))
rising_once (p ∷ ps) (q ∷ qs) r s same =
    let first : p ≡ q = one_atom p q (elim (cases_lt p.0 q.0) [
      | inl lt ↦ absurd (not_below p q ps qs s same lt)
      | inr ge ↦ elim (cases_lt q.0 p.0) [
        | inl lt ↦ absurd (not_below q p qs ps r (λ x. sym (same x)) lt)
        | inr le ↦ omega (arith, ge, le)
      ]
    ]) in
    let rises : AreRising (p ∷ qs) = subst (λ z. AreRising (z ∷ qs)) (sym first) s in
    let alike : (x : ℕ) → state_of_atoms (p ∷ ps) x ≡ state_of_atoms (p ∷ qs) x = subst (λ z. (x : ℕ) → state_of_atoms (p ∷ ps) x ≡ state_of_atoms (z ∷ qs) x) (sym first) same in
    subst (λ z. p ∷ ps ≡ z ∷ qs) first (ap (λ (xs : List AtomId). p ∷ xs) (rising_once ps qs (rest_rises p ps r) (rest_rises p qs rises) (rest_same p ps qs r rises alike)))

-- the first state that passes has one list of atoms
pub first_atoms_once : (n : ℕ) (passes : State → Bool) (ps qs : List AtomId) → AreFirst n passes ps → AreFirst n passes qs → ps ≡ qs
first_atoms_once n passes ps qs a b = rising_once ps qs a.1 b.1 (first_state_once n passes (state_of_atoms ps) (state_of_atoms qs) a.0 b.0)

-- ---- merges

-- what stands before a place is among the first
taken : {X : Type 0} (xs : List X) (n m : ℕ) (x : X) → slice_get xs n ≡ Some x → n < m → Member (take m xs) x
taken xs n zero x at lt = absurd (omega (arith, lt))
taken [] n (suc m) x at lt = cc
taken (y ∷ ys) zero (suc m) x at lt = inl cc
taken (y ∷ ys) (suc n) (suc m) x at lt = inr (taken ys n m x at (omega (arith, lt)))

-- the first places of two kinds are one, where neither is before the other
one_place : (n m : ℕ) → (n < m → ⊥) → (m < n → ⊥) → n ≡ m
one_place n m not_less not_more = elim (cases_lt n m) [
  | inl lt ↦ absurd (not_less lt)
  | inr ge ↦ elim (cases_lt m n) [ inl lt ↦ absurd (not_more lt) | inr le ↦ omega (arith, ge, le) ]
]

one_value : {X : Type 0} (xs : List X) (n m : ℕ) (x y : X) → n ≡ m → slice_get xs n ≡ Some x → slice_get xs m ≡ Some y → x ≡ y
one_value xs n m x y same at also = let e : Some x ≡ Some y = sym at ∙ (ap (slice_get xs) same ∙ also) in cc

module _ (n : ℕ) (i : Initial) where
  -- tags that are consistent have no first inconsistent one
  some_inconsistent : (tags : List (List Lit)) (place : ℕ) → AreConsistent i tags → IsFirstInconsistent i tags place → ⊥
  some_inconsistent tags place all f = f.inconsistent (all.each f.tag (member_at tags place f.tag f.tag_at))

  not_earlier : (tags : List (List Lit)) (j k : ℕ) → IsFirstInconsistent i tags j → IsFirstInconsistent i tags k → j < k → ⊥
  not_earlier tags j k f g lt = f.inconsistent (g.before.each f.tag (taken tags j k f.tag f.tag_at lt))

  -- a merge at fault isn't acceptable
  not_acceptable : (number : ℕ) (tags : List (List Lit)) (r : Refused) → AreAcceptable i tags → RefusesMerge n i number tags r → ⊥
  not_acceptable number tags _ fine (inconsistent place f) = some_inconsistent tags place fine.consistent f
  not_acceptable number tags _ fine (invalid state all first) =
      let s = state_of_atoms state in
      let parts = and_parts (is_model i s) (not (satisfies_one tags s)) first.0.passed in
      false≢true (sym (ap not (fine.valid s parts.0)) ∙ parts.1)

  -- one fault is told of a merge
  merge_once : (number : ℕ) (tags : List (List Lit)) (r q : Refused) → RefusesMerge n i number tags r → RefusesMerge n i number tags q → r ≡ q
  merge_once number tags _ _ (inconsistent j f) (inconsistent k g) = ap (refusals.TagInconsistent number) (one_place j k (not_earlier tags j k f g) (not_earlier tags k j g f))
  merge_once number tags _ _ (inconsistent j f) (invalid state all first) = absurd (some_inconsistent tags j all f)
  merge_once number tags _ _ (invalid state all first) (inconsistent k g) = absurd (some_inconsistent tags k all g)
  merge_once number tags _ _ (invalid s all first) (invalid t also second) = ap (refusals.MergeInvalid number) (first_atoms_once n (is_outside i tags) s t first second)

  module _ (ms : List FileMerge) where
    -- merges that are all acceptable have no first at fault
    none_at_fault : (r : Refused) → AreAllAcceptable i ms → RefusesFirstMerge n i ms r → ⊥
    none_at_fault r fine f = not_acceptable f.number f.merge.tags r (fine.each f.merge (member_at ms f.number f.merge f.merge_at)) f.fault

    not_before : (r q : Refused) (f : RefusesFirstMerge n i ms r) (g : RefusesFirstMerge n i ms q) → f.number < g.number → ⊥
    not_before r q f g lt = not_acceptable f.number f.merge.tags r (g.before.each f.merge (taken ms f.number g.number f.merge f.merge_at lt)) f.fault

    -- one fault is told of the first merge at fault
    fault_once : (r q : Refused) → RefusesFirstMerge n i ms r → RefusesFirstMerge n i ms q → r ≡ q
    fault_once r q f g =
        let place = one_place f.number g.number (not_before r q f g) (not_before q r g f) in
        let merge = one_value ms f.number g.number f.merge g.merge place f.merge_at g.merge_at in
        merge_once g.number g.merge.tags r q (subst (λ k. RefusesMerge n i k g.merge.tags r) place (subst (λ (m : FileMerge). RefusesMerge n i f.number m.tags r) merge f.fault)) g.fault

    -- merges have one refusal
    pub tables_once : (limit : ℕ) (r q : Refused) → RefusesTable n i ms limit r → RefusesTable n i ms limit q → r ≡ q
    tables_once limit r q (at_fault _ f) (at_fault _ g) = fault_once r q f g
    tables_once limit r _ (at_fault _ f) (tags_over fine over) = absurd (none_at_fault r fine f)
    tables_once limit _ q (tags_over fine over) (at_fault _ g) = absurd (none_at_fault q fine g)
    tables_once limit _ _ (tags_over fine over) (tags_over also more) = refl

    -- a table, or a refusal, and not both
    pub table_or_refused : (limit : ℕ) (table : TagTable) (r : Refused) → Accepts n i ms limit table → RefusesTable n i ms limit r → ⊥
    table_or_refused limit table r a (at_fault _ f) = none_at_fault r a.acceptable f
    table_or_refused limit table _ a (tags_over fine over) = let within = a.within_limit in absurd (omega (arith, over, within))

    -- merges have one table
    pub accepts_once : (limit : ℕ) (t u : TagTable) → Accepts n i ms limit t → Accepts n i ms limit u → t ≡ u
    accepts_once limit t u a b = accepted_table_once n i ms t u a.is_table b.is_table

-- ---- plans

-- from a plan no model fails
plan_fails_not : (g : Ground) (i : Initial) (ns : List ℕ) (s : State) → IsGroundPlan g i ns → is_wanted i (fails g ns) s ≡ true → ⊥
plan_fails_not g i ns s plan wanted =
    let parts = and_parts (is_model i s) (not (succeeds g s ns)) wanted in
    false≢true (sym (ap not (plan s parts.0)) ∙ parts.1)

-- steps have one verdict
pub verdict_once : (n : ℕ) (g : Ground) (i : Initial) (ns : List ℕ) (v w : Judged) → IsVerdict n g i ns v → IsVerdict n g i ns w → v ≡ w
verdict_once n g i ns Yes Yes h k = refl
verdict_once n g i ns Yes (No ps k l) plan f = absurd (plan_fails_not g i ns (state_of_atoms ps) plan f.0.0.passed)
verdict_once n g i ns (No ps k l) Yes f plan = absurd (plan_fails_not g i ns (state_of_atoms ps) plan f.0.0.passed)
verdict_once n g i ns (No ps k l) (No qs j m) f h =
    let atoms : ps ≡ qs = first_atoms_once n (is_wanted i (fails g ns)) ps qs f.0 h.0 in
    let place = steps_fail_in_one_place g (state_of_atoms qs) ns k j l m (subst (λ xs. FailAt g (state_of_atoms xs) ns k l) atoms f.1) h.1 in
    cc (atoms, place.0, place.1)

-- ---- steps

module _ (find : PlanStep → Option ℕ) where
  -- what is known before one that isn't known reaches as far as before another
  one_before : (xs ys rest more : List PlanStep) (s t : PlanStep) → xs ++ s ∷ rest ≡ ys ++ t ∷ more → list_all (λ s. is_some (find s)) xs ≡ true → list_all (λ s. is_some (find s)) ys ≡ true → find s ≡ None → find t ≡ None → length xs ≡ length ys
  one_before [] [] rest more s t same known also none miss = refl
  one_before [] (y ∷ ys) rest more s t same known also none miss =
      let first : s ≡ y = cc in
      absurd (false≢true (ap (λ (o : Option ℕ). is_some o) (sym none) ∙ (ap (λ z. is_some (find z)) first ∙ (and_parts (is_some (find y)) (list_all (λ s. is_some (find s)) ys) also).0)))
  one_before (x ∷ xs) [] rest more s t same known also none miss =
      let first : x ≡ t = cc in
      absurd (false≢true (ap (λ (o : Option ℕ). is_some o) (sym miss) ∙ (ap (λ z. is_some (find z)) (sym first) ∙ (and_parts (is_some (find x)) (list_all (λ s. is_some (find s)) xs) known).0)))
  one_before (x ∷ xs) (y ∷ ys) rest more s t same known also none miss =
      let others : xs ++ s ∷ rest ≡ ys ++ t ∷ more = cc in
      ap suc (one_before xs ys rest more s t others (and_parts (is_some (find x)) (list_all (λ s. is_some (find s)) xs) known).1 (and_parts (is_some (find y)) (list_all (λ s. is_some (find s)) ys) also).1 none miss)

  -- one step is the first that isn't found
  pub unknown_once : (steps : List PlanStep) (m n : ℕ) → IsFirstUnknown find steps m → IsFirstUnknown find steps n → m ≡ n
  unknown_once steps m n f g =
      let far = one_before f.before g.before f.after g.after f.step g.step (sym f.is ∙ g.is) f.known_before g.known_before f.unknown g.unknown in
      f.counted ∙ (ap (λ k. k + 1) far ∙ sym g.counted)

  -- each step is found, or some isn't, and not both
  pub known_or_unknown : (steps : List PlanStep) (ns : List ℕ) (n : ℕ) → map find steps ≡ map Some ns → IsFirstUnknown find steps n → ⊥
  known_or_unknown steps ns n found f =
      let among : Member steps f.step = subst (λ xs. Member xs f.step) (sym f.is) (member_right f.before (f.step ∷ f.after) f.step (inl refl)) in
      let number = map_member Some ns (find f.step) (subst (λ xs. Member xs (find f.step)) found (member_map find steps f.step among)) in
      let clash : Some number.0 ≡ None = number.2 ∙ f.unknown in
      cc

  -- the steps have one list of numbers
  pub known_once : (steps : List PlanStep) (ns ms : List ℕ) → map find steps ≡ map Some ns → map find steps ≡ map Some ms → ns ≡ ms
  known_once steps ns ms found also = some_once ns ms (sym found ∙ also)
    where
      some_once : (xs ys : List ℕ) → map Some xs ≡ map Some ys → xs ≡ ys
      some_once [] [] e = refl
      some_once [] (y ∷ ys) e = cc
      some_once (x ∷ xs) [] e = cc
      some_once (x ∷ xs) (y ∷ ys) e =
          let first : x ≡ y = cc in
          let others : map Some xs ≡ map Some ys = cc in
          cc (first, some_once xs ys others)
