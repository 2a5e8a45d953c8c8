-- No state on a run from a model has both atoms of a pair of an inductive set; where no action clashes under it, nothing clashes.
use Rattle.std.proofs.Common.{◌≡◌, ℕ, Bool, true, false, not, ◌&&◌, List, [], ◌∷◌, ◌++◌, Option, Some, None, inl, inr, slice_get, refl, sym, ap, subst, ◌∙◌}
use Rattle.std.proofs.lemmas.Bool.{and_parts, and_from, or_cases, false≢true, false_from_ne_true, not-true}
use Rattle.std.specs.List.{list_all}
use Rattle.kp_base.specs.declared.lit.Lit.{Lit}
use Rattle.kp_base.specs.declared.ground.Effect.{Effect}
use Rattle.kp_base.specs.declared.ground.Action.{Action}
use Rattle.kp_base.specs.declared.ground.Ground.{Ground}
use Rattle.kp_base.specs.declared.ground.Initial.{Initial}
use Rattle.kp_base.specs.Planning.{Member, positive, negative, negated, same_lit, State, holds, fires, after, next, applicable, runs, state_after, Pairs, clashes_at, are_exclusive, are_compatible, HasNoClash, IsInductive, Deletes, firing_with}
use Rattle.kp_base.specs.Steps.{has}
use Rattle.kp_base.proofs.Lists.{all_from, all_member, any_from, any_member, member_at, number_at}
use Rattle.kp_base.proofs.Lits.{same_lit-true, same_lit-refl, holds-negated, member-has}
use Rattle.kp_law_tagged_machine.specs.Laws.{InductivePairsStayApart, InductiveNeverClashes}

-- of no pair are both atoms true in the state
abbrev pub AreApart : Pairs → State → Type 0
AreApart pairs s = (p q : ℕ) → pairs p q ≡ true → (s p && s q) ≡ false

all_append : {X : Type 0} (t : X → Bool) (xs ys : List X) → list_all t xs ≡ true → list_all t ys ≡ true → list_all t (xs ++ ys) ≡ true
all_append t [] ys h k = k
all_append t (x ∷ xs) ys h k =
    let parts = and_parts (t x) (list_all t xs) h in
    and_from (t x) (list_all t (xs ++ ys)) parts.0 (all_append t xs ys parts.1 k)

-- an effect of what fires, and what it asks for
pub fired : (a : Action) (s : State) (l : Lit) → fires a.effects (holds s) l ≡ true → (e : Effect) × Member a.effects e × (e.result ≡ l) × (list_all (holds s) e.cond ≡ true)
fired a s l h =
    let r = any_member (λ e. same_lit e.result l && list_all (holds s) e.cond) a.effects h in
    let parts = and_parts (same_lit r.0.result l) (list_all (holds s) r.0.cond) r.2 in
    (r.0, r.1, same_lit-true r.0.result l parts.0, parts.1)

-- ---- one state

not_exclusive : (pairs : Pairs) (s : State) → AreApart pairs s → (k l : Lit) → holds s k ≡ true → holds s l ≡ true → are_exclusive pairs k l ≡ true → ⊥
not_exclusive pairs s apart k l hk hl h =
    elim (or_cases (same_lit (negated k) l) (k.positive && l.positive && pairs k.atom.0 l.atom.0) h) [
      | inl e ↦ false≢true (sym (ap not hk) ∙ (sym (holds-negated s k) ∙ subst (λ (x : Lit). holds s x ≡ true) (sym (same_lit-true (negated k) l e)) hl))
      | inr e ↦
          let outer = and_parts (k.positive && l.positive) (pairs k.atom.0 l.atom.0) e in
          let signs = and_parts k.positive l.positive outer.0 in
          false≢true (sym (apart k.atom.0 l.atom.0 outer.1) ∙ and_from (s k.atom.0) (s l.atom.0) (atom k.atom.0 k.positive signs.0 hk) (atom l.atom.0 l.positive signs.1 hl))
    ]
  where
    atom : (p : ℕ) (b : Bool) → b ≡ true → holds s (record { atom = record { 0 = p }; positive = b }) ≡ true → s p ≡ true
    atom p true e h = h
    atom p false e h = absurd (false≢true e)

-- what is true together is compatible
compatible : (pairs : Pairs) (s : State) → AreApart pairs s → (ls : List Lit) → list_all (holds s) ls ≡ true → are_compatible pairs ls ≡ true
compatible pairs s apart ls h =
    all_from (λ k. list_all (λ l. not (are_exclusive pairs k l)) ls) ls (λ k in-k.
    all_from (λ l. not (are_exclusive pairs k l)) ls (λ l in-l.
    ap not (false_from_ne_true (are_exclusive pairs k l) (not_exclusive pairs s apart k l (all_member (holds s) ls k in-k h) (all_member (holds s) ls l in-l h)))))

-- ---- one step

module _ (g : Ground) (i : Initial) (atoms : ℕ) (pairs : Pairs) (ind : IsInductive g i atoms pairs) (a : Action) (in-a : Member g.actions a) (s : State) (apart : AreApart pairs s) (ok : list_all (holds s) a.pre ≡ true) where
  never_both : (p q : ℕ) → pairs p q ≡ true → fires a.effects (holds s) (positive p) ≡ true → fires a.effects (holds s) (positive q) ≡ true → ⊥
  never_both p q pair f h =
      let c = fired a s (positive p) f in
      let d = fired a s (positive q) h in
      false≢true (sym (ind.never_both_added p q pair a c.0 d.0 in-a c.1 d.1 c.2 d.2)
      ∙ compatible pairs s apart (a.pre ++ (c.0.cond ++ d.0.cond)) (all_append (holds s) a.pre (c.0.cond ++ d.0.cond) ok (all_append (holds s) c.0.cond d.0.cond c.3 d.3)))

  -- where one is added while the other is true, the other is deleted
  goes : (p q : ℕ) → pairs p q ≡ true → fires a.effects (holds s) (positive p) ≡ true → s q ≡ true → fires a.effects (holds s) (negative q) ≡ true
  goes p q pair f hq =
      let c = fired a s (positive p) f in
      let ls : List Lit = firing_with a c.0 q in
      let hold : list_all (holds s) ls ≡ true = all_append (holds s) a.pre (c.0.cond ++ positive q ∷ []) ok (all_append (holds s) c.0.cond (positive q ∷ []) c.3 (and_from (s q) true hq refl)) in
      let d : Deletes a q ls = ind.other_deleted p q pair a c.0 in-a c.1 c.2 (compatible pairs s apart ls hold) in
      let is_delete : same_lit d.delete.result (negative q) ≡ true = subst (λ (x : Lit). same_lit x (negative q) ≡ true) (sym d.deletes) (same_lit-refl (negative q)) in
      any_from (λ e. same_lit e.result (negative q) && list_all (holds s) e.cond) a.effects d.delete d.of_action
      (and_from (same_lit d.delete.result (negative q)) (list_all (holds s) d.delete.cond) is_delete
      (all_from (holds s) d.delete.cond (λ l in-l. all_member (holds s) ls l (member-has ls l (all_member (has ls) d.delete.cond l in-l d.within)) hold)))

  not_one : (p q : ℕ) → pairs p q ≡ true → fires a.effects (holds s) (positive p) ≡ true → (s q && not (fires a.effects (holds s) (negative q))) ≡ true → ⊥
  not_one p q pair f k =
      let parts = and_parts (s q) (not (fires a.effects (holds s) (negative q))) k in
      false≢true (sym (not-true (fires a.effects (holds s) (negative q)) parts.1) ∙ goes p q pair f parts.0)

  pub apart_after : AreApart pairs (after a s)
  apart_after p q pair = false_from_ne_true (after a s p && after a s q) (λ h.
      let both = and_parts (after a s p) (after a s q) h in
      elim (or_cases (fires a.effects (holds s) (positive p)) (s p && not (fires a.effects (holds s) (negative p))) both.0) [
        | inl f ↦ elim (or_cases (fires a.effects (holds s) (positive q)) (s q && not (fires a.effects (holds s) (negative q))) both.1) [
          | inl k ↦ never_both p q pair f k
          | inr k ↦ not_one p q pair f k
        ]
        | inr k ↦ elim (or_cases (fires a.effects (holds s) (positive q)) (s q && not (fires a.effects (holds s) (negative q))) both.1) [
          | inl f ↦ not_one q p (ind.are_pairs.either_order p q pair) f k
          | inr j ↦ false≢true (sym (apart p q pair) ∙ and_from (s p) (s q) (and_parts (s p) (not (fires a.effects (holds s) (negative p))) k).0 (and_parts (s q) (not (fires a.effects (holds s) (negative q))) j).0)
        ]
      ])

-- ---- a run

apart_along : (g : Ground) (i : Initial) (atoms : ℕ) (pairs : Pairs) → IsInductive g i atoms pairs → (ns : List ℕ) (s : State) → AreApart pairs s → runs g s ns ≡ true → AreApart pairs (state_after g s ns)
apart_along g i atoms pairs ind [] s apart ran = apart
apart_along g i atoms pairs ind (n ∷ ns) s apart ran = step (apart_along g i atoms pairs ind ns) (slice_get g.actions n) refl ran
  where
    step : ((s : State) → AreApart pairs s → runs g s ns ≡ true → AreApart pairs (state_after g s ns)) → (o : Option Action) → slice_get g.actions n ≡ o → (applicable o s && runs g (next o s) ns) ≡ true → AreApart pairs (state_after g (next o s) ns)
    step rest None is h = absurd (false≢true h)
    step rest (Some a) is h =
        let parts = and_parts (applicable (Some a) s) (runs g (next (Some a) s) ns) h in
        rest (after a s) (apart_after g i atoms pairs ind a (member_at g.actions n a is) s apart parts.0) parts.1

pub stay_apart : InductivePairsStayApart
stay_apart g i atoms pairs ind s ns model ran = apart_along g i atoms pairs ind ns s (λ p q pair. ind.never_at_the_start p q pair s model) ran

-- ---- clashes

one_at_most : (g : Ground) (pairs : Pairs) (a : Action) (s : State) (p : ℕ) → AreApart pairs s → HasNoClash pairs g → Member g.actions a → list_all (holds s) a.pre ≡ true → clashes_at a s p ≡ true → ⊥
one_at_most g pairs a s p apart none in-a ok h =
    let both = and_parts (fires a.effects (holds s) (positive p)) (fires a.effects (holds s) (negative p)) h in
    let add = fired a s (positive p) both.0 in
    let del = fired a s (negative p) both.1 in
    let n = number_at g.actions a in-a in
    let i = number_at a.effects add.0 add.1 in
    let j = number_at a.effects del.0 del.1 in
    none n.0 p i.0 j.0 a n.1 (record {
      adding = add.0;
      deleting = del.0;
      add_at = i.1;
      delete_at = j.1;
      adds = add.2;
      deletes = del.2;
      compatible = compatible pairs s apart (a.pre ++ (add.0.cond ++ del.0.cond)) (all_append (holds s) a.pre (add.0.cond ++ del.0.cond) ok (all_append (holds s) add.0.cond del.0.cond add.3 del.3));
    })

pub never_clashes : InductiveNeverClashes
never_clashes g i atoms pairs ind none = record {
  no_clash = λ s ns a p model ran in-a ok. false_from_ne_true (clashes_at a _ p) (one_at_most g pairs a _ p (stay_apart g i atoms pairs ind s ns model ran) none in-a ok);
}
