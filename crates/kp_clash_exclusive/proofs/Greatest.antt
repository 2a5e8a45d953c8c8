-- A pair of an inductive set stays in each greater set, and a set in which every pair stays is inductive.
use Rattle.std.proofs.Common.{◌≡◌, ℕ, Bool, true, false, not, ◌&&◌, ◌||◌, List, ◌++◌, inl, inr, refl, sym, ap, subst, ◌∙◌}
use Rattle.std.proofs.lemmas.Bool.{and_parts, and_from, or_cases, or_left, or_right, false≢true, false_from_ne_true, not-true}
use Rattle.std.specs.List.{list_all}
use Rattle.kp_base.specs.declared.lit.Lit.{Lit}
use Rattle.kp_base.specs.declared.ground.Effect.{Effect}
use Rattle.kp_base.specs.declared.ground.Action.{Action}
use Rattle.kp_base.specs.declared.ground.Ground.{Ground}
use Rattle.kp_base.specs.declared.ground.Initial.{Initial}
use Rattle.kp_base.specs.Planning.{Member, positive, negative, same_lit, Pairs, are_compatible, compatible_effects, ArePairs, IsPart, NeverAtTheStart, Deletes, firing_with, IsInductive, AreExclusive}
use Rattle.kp_base.specs.Implicates.{is_within}
use Rattle.kp_base.proofs.Lists.{all_weaker, all_from, all_member, any_from, any_member}
use Rattle.kp_base.proofs.Lits.{same_lit-true, same_lit-refl}
use Rattle.kp_base.proofs.Exclusive.{compatible_under_fewer}
use Rattle.kp_clash_exclusive.specs.Settled.{adds_both, never_adds_both, deletes_within, keeps_apart, all_keep_apart, stays_in, stays}

pub is_lit : (k l : Lit) → k ≡ l → same_lit k l ≡ true
is_lit k l e = subst (λ (x : Lit). same_lit k x ≡ true) e (same_lit-refl k)

-- ---- more pairs

both_more : (some more : Pairs) → IsPart some more → (p q : ℕ) (a : Action) → never_adds_both some p q a ≡ true → never_adds_both more p q a ≡ true
both_more some more part p q a h =
    all_weaker (λ e. list_all (λ f. not (adds_both some p q a e f)) a.effects) (λ e. list_all (λ f. not (adds_both more p q a e f)) a.effects) a.effects (λ e _.
    all_weaker (λ f. not (adds_both some p q a e f)) (λ f. not (adds_both more p q a e f)) a.effects (λ f _ k.
    ap not (false_from_ne_true (adds_both more p q a e f) (λ t.
    let parts = and_parts (same_lit e.result (positive p) && same_lit f.result (positive q)) (compatible_effects more a e f) t in
    false≢true (sym (not-true (adds_both some p q a e f) k) ∙ and_from (same_lit e.result (positive p) && same_lit f.result (positive q)) (compatible_effects some a e f) parts.0 (compatible_under_fewer some more part (a.pre ++ (e.cond ++ f.cond)) parts.1)))))) h

apart_more : (some more : Pairs) → IsPart some more → (p q : ℕ) (a : Action) → all_keep_apart some p q a ≡ true → all_keep_apart more p q a ≡ true
apart_more some more part p q a h = all_weaker (keeps_apart some p q a) (keeps_apart more p q a) a.effects (λ e _ k. go e k) h
  where
    go : (e : Effect) → keeps_apart some p q a e ≡ true → keeps_apart more p q a e ≡ true
    go e k = elim (or_cases (not (same_lit e.result (positive p))) (not (are_compatible some (firing_with a e q)) || deletes_within a q (firing_with a e q)) k) [
      | inl n ↦ or_left (not (same_lit e.result (positive p))) (not (are_compatible more (firing_with a e q)) || deletes_within a q (firing_with a e q)) n
      | inr r ↦ or_right (not (same_lit e.result (positive p))) (not (are_compatible more (firing_with a e q)) || deletes_within a q (firing_with a e q)) (elim (or_cases (not (are_compatible some (firing_with a e q))) (deletes_within a q (firing_with a e q)) r) [
        | inl n ↦ or_left (not (are_compatible more (firing_with a e q))) (deletes_within a q (firing_with a e q)) (ap not (false_from_ne_true (are_compatible more (firing_with a e q)) (λ t. false≢true (sym (not-true (are_compatible some (firing_with a e q)) n) ∙ compatible_under_fewer some more part (firing_with a e q) t))))
        | inr d ↦ or_right (not (are_compatible more (firing_with a e q))) (deletes_within a q (firing_with a e q)) d
      ])
    ]

-- what an action does to the two atoms, part by part
pub record Parts (pairs : Pairs) (p q : ℕ) (a : Action) : Type 0 where
  pub both : never_adds_both pairs p q a ≡ true
  pub both_turned : never_adds_both pairs q p a ≡ true
  pub apart : all_keep_apart pairs p q a ≡ true
  pub apart_turned : all_keep_apart pairs q p a ≡ true

pub parts_of : (pairs : Pairs) (p q : ℕ) (a : Action) → stays_in pairs p q a ≡ true → Parts pairs p q a
parts_of pairs p q a h =
    let x = and_parts (never_adds_both pairs p q a) (never_adds_both pairs q p a && (all_keep_apart pairs p q a && all_keep_apart pairs q p a)) h in
    let y = and_parts (never_adds_both pairs q p a) (all_keep_apart pairs p q a && all_keep_apart pairs q p a) x.1 in
    let z = and_parts (all_keep_apart pairs p q a) (all_keep_apart pairs q p a) y.1 in
    record { both = x.0; both_turned = y.0; apart = z.0; apart_turned = z.1 }

pub stays_by : (pairs : Pairs) (p q : ℕ) (a : Action) → Parts pairs p q a → stays_in pairs p q a ≡ true
stays_by pairs p q a f =
    and_from (never_adds_both pairs p q a) (never_adds_both pairs q p a && (all_keep_apart pairs p q a && all_keep_apart pairs q p a)) f.both
    (and_from (never_adds_both pairs q p a) (all_keep_apart pairs p q a && all_keep_apart pairs q p a) f.both_turned (and_from (all_keep_apart pairs p q a) (all_keep_apart pairs q p a) f.apart f.apart_turned))

-- what stays in a set stays in a greater one
pub all_stay_more : (some more : Pairs) → IsPart some more → (p q : ℕ) (actions : List Action) → list_all (stays_in some p q) actions ≡ true → list_all (stays_in more p q) actions ≡ true
all_stay_more some more part p q actions h = all_weaker (stays_in some p q) (stays_in more p q) actions (λ a _ k.
    let f = parts_of some p q a k in
    stays_by more p q a (record {
      both = both_more some more part p q a f.both;
      both_turned = both_more some more part q p a f.both_turned;
      apart = apart_more some more part p q a f.apart;
      apart_turned = apart_more some more part q p a f.apart_turned;
    })) h

-- ---- inductive sets

module _ (g : Ground) (i : Initial) (atoms : ℕ) (pairs : Pairs) (ind : IsInductive g i atoms pairs) where
  inductive_both : (p q : ℕ) → pairs p q ≡ true → (a : Action) → Member g.actions a → never_adds_both pairs p q a ≡ true
  inductive_both p q pair a in-a =
      all_from (λ e. list_all (λ f. not (adds_both pairs p q a e f)) a.effects) a.effects (λ e in-e.
      all_from (λ f. not (adds_both pairs p q a e f)) a.effects (λ f in-f.
      ap not (false_from_ne_true (adds_both pairs p q a e f) (λ t.
      let parts = and_parts (same_lit e.result (positive p) && same_lit f.result (positive q)) (compatible_effects pairs a e f) t in
      let adds = and_parts (same_lit e.result (positive p)) (same_lit f.result (positive q)) parts.0 in
      false≢true (sym (ind.never_both_added p q pair a e f in-a in-e in-f (same_lit-true e.result (positive p) adds.0) (same_lit-true f.result (positive q) adds.1)) ∙ parts.1)))))

  inductive_apart : (p q : ℕ) → pairs p q ≡ true → (a : Action) → Member g.actions a → all_keep_apart pairs p q a ≡ true
  inductive_apart p q pair a in-a = all_from (keeps_apart pairs p q a) a.effects (λ e in-e. go e in-e (same_lit e.result (positive p)) refl (are_compatible pairs (firing_with a e q)) refl)
    where
      go : (e : Effect) → Member a.effects e → (t : Bool) → same_lit e.result (positive p) ≡ t → (u : Bool) → are_compatible pairs (firing_with a e q) ≡ u → keeps_apart pairs p q a e ≡ true
      go e in-e false is u also = or_left (not (same_lit e.result (positive p))) (not (are_compatible pairs (firing_with a e q)) || deletes_within a q (firing_with a e q)) (ap not is)
      go e in-e true is false also = or_right (not (same_lit e.result (positive p))) (not (are_compatible pairs (firing_with a e q)) || deletes_within a q (firing_with a e q)) (or_left (not (are_compatible pairs (firing_with a e q))) (deletes_within a q (firing_with a e q)) (ap not also))
      go e in-e true is true also =
          let d : Deletes a q (firing_with a e q) = ind.other_deleted p q pair a e in-a in-e (same_lit-true e.result (positive p) is) also in
          or_right (not (same_lit e.result (positive p))) (not (are_compatible pairs (firing_with a e q)) || deletes_within a q (firing_with a e q))
          (or_right (not (are_compatible pairs (firing_with a e q))) (deletes_within a q (firing_with a e q))
          (any_from (λ d. same_lit d.result (negative q) && is_within d.cond (firing_with a e q)) a.effects d.delete d.of_action
          (and_from (same_lit d.delete.result (negative q)) (is_within d.delete.cond (firing_with a e q)) (is_lit d.delete.result (negative q) d.deletes) d.within)))

  -- a pair of an inductive set stays in it
  pub inductive_stays : (p q : ℕ) → pairs p q ≡ true → stays g pairs p q ≡ true
  inductive_stays p q pair = all_from (stays_in pairs p q) g.actions (λ a in-a.
      let turned = ind.are_pairs.either_order p q pair in
      stays_by pairs p q a (record {
        both = inductive_both p q pair a in-a;
        both_turned = inductive_both q p turned a in-a;
        apart = inductive_apart p q pair a in-a;
        apart_turned = inductive_apart q p turned a in-a;
      }))

-- a set in which each pair stays is inductive
pub settled_inductive : (g : Ground) (i : Initial) (atoms : ℕ) (pairs : Pairs) → ArePairs atoms pairs → NeverAtTheStart i pairs → ((p q : ℕ) → pairs p q ≡ true → stays g pairs p q ≡ true) → IsInductive g i atoms pairs
settled_inductive g i atoms pairs are start settled = record {
  are_pairs = are;
  never_at_the_start = start;
  never_both_added = λ p q pair a e f in-a in-e in-f adds-e adds-f.
      false_from_ne_true (compatible_effects pairs a e f) (λ t.
      false≢true (sym (not-true (adds_both pairs p q a e f) (all_member (λ f. not (adds_both pairs p q a e f)) a.effects f in-f (all_member (λ e. list_all (λ f. not (adds_both pairs p q a e f)) a.effects) a.effects e in-e (parts p q pair a in-a).both)))
      ∙ and_from (same_lit e.result (positive p) && same_lit f.result (positive q)) (compatible_effects pairs a e f) (and_from (same_lit e.result (positive p)) (same_lit f.result (positive q)) (is_lit e.result (positive p) adds-e) (is_lit f.result (positive q) adds-f)) t));
  other_deleted = λ p q pair a e in-a in-e adds also. deleted p q a e adds also (all_member (keeps_apart pairs p q a) a.effects e in-e (parts p q pair a in-a).apart);
}
  where
    parts : (p q : ℕ) → pairs p q ≡ true → (a : Action) → Member g.actions a → Parts pairs p q a
    parts p q pair a in-a = parts_of pairs p q a (all_member (stays_in pairs p q) g.actions a in-a (settled p q pair))

    deleted : (p q : ℕ) (a : Action) (e : Effect) → e.result ≡ positive p → are_compatible pairs (firing_with a e q) ≡ true → keeps_apart pairs p q a e ≡ true → Deletes a q (firing_with a e q)
    deleted p q a e adds also h = elim (or_cases (not (same_lit e.result (positive p))) (not (are_compatible pairs (firing_with a e q)) || deletes_within a q (firing_with a e q)) h) [
      | inl n ↦ absurd (false≢true (sym (not-true (same_lit e.result (positive p)) n) ∙ is_lit e.result (positive p) adds))
      | inr r ↦ elim (or_cases (not (are_compatible pairs (firing_with a e q))) (deletes_within a q (firing_with a e q)) r) [
        | inl n ↦ absurd (false≢true (sym (not-true (are_compatible pairs (firing_with a e q)) n) ∙ also))
        | inr d ↦
            let x = any_member (λ d. same_lit d.result (negative q) && is_within d.cond (firing_with a e q)) a.effects d in
            let both = and_parts (same_lit x.0.result (negative q)) (is_within x.0.cond (firing_with a e q)) x.2 in
            record { delete = x.0; of_action = x.1; deletes = same_lit-true x.0.result (negative q) both.0; within = both.1 }
      ]
    ]

-- a set into which each inductive set goes, and in which each pair stays, has just the exclusive pairs
pub settled_exclusive : (g : Ground) (i : Initial) (atoms : ℕ) (pairs : Pairs) → ArePairs atoms pairs → NeverAtTheStart i pairs → ((p q : ℕ) → pairs p q ≡ true → stays g pairs p q ≡ true) → ((some : Pairs) → IsInductive g i atoms some → IsPart some pairs) → AreExclusive g i atoms pairs
settled_exclusive g i atoms pairs are start settled keeps = record {
  each = λ p q pair. record { pairs = pairs; inductive = settled_inductive g i atoms pairs are start settled; has_pair = pair };
  all = λ p q x. keeps x.pairs x.inductive p q x.has_pair;
}
