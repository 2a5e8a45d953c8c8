-- Atoms of static predicates keep the truth that `:init` gives them.
use Rattle.std.proofs.Common.{◌≡◌, ℕ, Bool, true, false, not, ◌&&◌, ◌||◌, List, [], ◌∷◌, ◌++◌, Option, Some, None, refl, sym, subst, map, ◌∙◌, inl, inr, nat_eq, eqb-true, eq-eqb}
use Rattle.std.specs.List.{list_any, list_all, flat_map}
use Rattle.std.specs.Bool.{beq}
use Rattle.std.proofs.lemmas.Bool.{and_parts, and_from, or_parts, and_left, and_right, false≢true, not-true, both_ways, cases_Bool, or_from, false_from_ne_true}
use Rattle.std.proofs.lemmas.List.Folds.{list_any-append}
use Rattle.std.proofs.Math.Bool.{and-true, or-false}
use Rattle.kp_base.specs.Lists.{only_if, signed}
use Rattle.kp_base.proofs.Lists.{any_member, any_from, any_weaker, all_member, bool_same, same-true, member_at}
use Rattle.kp_names_semantics.specs.declared.lifted.GroundLit.{GroundLit}
use Rattle.kp_names_semantics.specs.declared.lifted.Item.{Item}
use Rattle.kp_names_semantics.specs.Names.{same}
use Rattle.kp_names_semantics.specs.Numbered.{Eff, Effs, Schema, Lifted}
use Rattle.kp_names_semantics.specs.Lifted.{State, Binding, object_of, ground, same_literal, names_literal, holds, fires, all_fire, bindings, schema_of, state_by, item_holds, item_literals, is_of, is_named}
use Rattle.kp_ground_semantics.specs.Static.{changes, some_change, leaves_static, says, is_static, initially, HasStaticTruth}
use Rattle.kp_ground_semantics.specs.Laws.{IsStaticAtFirst, IsStaticKept}

-- ---- at first

-- the two parts of being static
pub static_parts : (l : Lifted) (q : ℕ) → is_static l q ≡ true → (list_any (λ a. changes q a.effect) l.schemas ≡ false) × (list_all (leaves_static q) l.init ≡ true)
static_parts l q static =
    let parts = and_parts (not (list_any (λ a. changes q a.effect) l.schemas)) (list_all (leaves_static q) l.init) static in
    (not-true (list_any (λ a. changes q a.effect) l.schemas) parts.0, parts.1)

module _ (q : ℕ) (os : List ℕ) where
  -- literals of which none is of the predicate name none of its atoms
  none_of : (ls : List GroundLit) → not (list_any (λ l. nat_eq l.pred q) ls) ≡ true → list_any (is_of q os) ls ≡ true → ⊥
  none_of ls plain h = both_ways (list_any (λ l. nat_eq l.pred q) ls) (not-true (list_any (λ l. nat_eq l.pred q) ls) plain) (any_weaker (is_of q os) (λ l. nat_eq l.pred q) ls (λ l m e. (and_parts (nat_eq l.pred q) (same l.objects os) e).0) h)

  pub leaves_says : (i : Item) → leaves_static q i ≡ true → list_any (is_of q os) (item_literals i) ≡ true → says q os i ≡ true
  leaves_says (Item.One l) plain h =
      let is = sym (or-false (is_of q os l)) ∙ h in
      let parts = and_parts (nat_eq l.pred q) (same l.objects os) is in
      and_from l.positive (is_of q os l) (positive l.positive (nat_eq l.pred q) parts.0 plain) is
    where
      positive : (b c : Bool) → c ≡ true → (b || not c) ≡ true → b ≡ true
      positive true c e h = refl
      positive false true e h = h
      positive false false e h = e
  leaves_says (Item.OneOf ls) plain h = absurd (none_of ls plain h)
  leaves_says (Item.AnyOf ls) plain h = absurd (none_of ls plain h)
  leaves_says (Item.Unknown l) plain h = absurd (none_of (l ∷ []) plain h)

  pub says_holds : (s : State) (i : Item) → says q os i ≡ true → item_holds s i ≡ true → s q os ≡ true
  says_holds s (Item.One l) h holds' =
      let parts = and_parts l.positive (is_of q os l) h in
      let inner = and_parts (nat_eq l.pred q) (same l.objects os) parts.1 in
      let e = eqb-true l.pred q inner.0 in
      let f = same-true l.objects os inner.1 in
      let g : signed true (s l.pred l.objects) ≡ true = subst (λ b. signed b (s l.pred l.objects) ≡ true) parts.0 holds' in
      subst (λ r. s r os ≡ true) e (subst (λ us. s l.pred us ≡ true) f g)
  says_holds s (Item.OneOf ls) h holds' = absurd (false≢true h)
  says_holds s (Item.AnyOf ls) h holds' = absurd (false≢true h)
  says_holds s (Item.Unknown l) h holds' = absurd (false≢true h)

pub static_at_first : IsStaticAtFirst
static_at_first l s init q os static =
    let plain = (static_parts l q static).1 in
    bool_same (s q os) (initially l q os)
    (λ h. elim (cases_Bool (is_named l q os)) [
      | inl named ↦
          let r = any_member (λ i. list_any (is_of q os) (item_literals i)) l.init named in
          any_from (says q os) l.init r.0 r.1 (leaves_says q os r.0 (all_member (leaves_static q) l.init r.0 r.1 plain) r.2)
      | inr not_named ↦ absurd (both_ways (s q os) (init.absent q os not_named) h)
    ])
    (λ h. let r = any_member (says q os) l.init h in says_holds q os s r.0 r.2 (all_member (item_holds s) l.init r.0 r.1 init.items))

-- ---- after each step

-- an effect that doesn't name the predicate fires nothing of it
module _ (s : State) (sign : Bool) (q : ℕ) (os : List ℕ) where
  none_append : (ls ms : List GroundLit) → names_literal ls (ground sign q os) ≡ false → names_literal ms (ground sign q os) ≡ false → names_literal (ls ++ ms) (ground sign q os) ≡ false
  none_append ls ms f g = list_any-append (same_literal (ground sign q os)) ls ms ∙ or_from (names_literal ls (ground sign q os)) (names_literal ms (ground sign q os)) f g

  none_each : (f : Binding → List GroundLit) → ((us : Binding) → names_literal (f us) (ground sign q os) ≡ false) → (bs : List Binding) → names_literal (flat_map f bs) (ground sign q os) ≡ false
  none_each f inner [] = refl
  none_each f inner (us ∷ bs) = none_append (f us) (flat_map f bs) (inner us) (none_each f inner bs)

  mutual
    unchanged : (b : Binding) (e : Eff) → changes q e ≡ false → names_literal (fires s b e) (ground sign q os) ≡ false
    unchanged b (Eff.both es) h = all_unchanged b es h
    unchanged b (Eff.when c e) h = pick (holds s b c) (unchanged b e h)
      where
        pick : (t : Bool) → names_literal (fires s b e) (ground sign q os) ≡ false → names_literal (only_if t (fires s b e)) (ground sign q os) ≡ false
        pick true g = g
        pick false g = refl
    unchanged b (Eff.each rs e) h = none_each (λ us. fires s (b ++ us) e) (λ us. unchanged (b ++ us) e h) (bindings rs)
    unchanged b (Eff.makes positive r ts) h =
        or-false _ ∙ and_right (beq sign positive) (nat_eq q r && same os (map (object_of b) ts)) (and_left (nat_eq q r) (same os (map (object_of b) ts)) (turned ∙ h))
      where
        turned : nat_eq q r ≡ nat_eq r q
        turned = bool_same (nat_eq q r) (nat_eq r q) (λ e. eq-eqb r q (sym (eqb-true q r e))) (λ e. eq-eqb q r (sym (eqb-true r q e)))

    all_unchanged : (b : Binding) (es : Effs) → some_change q es ≡ false → names_literal (all_fire s b es) (ground sign q os) ≡ false
    all_unchanged b Effs.no_eff h = refl
    all_unchanged b (Effs.more_effs e es) h =
        let parts = or_parts (changes q e) (some_change q es) h in
        none_append (fires s b e) (all_fire s b es) (unchanged b e parts.0) (all_unchanged b es parts.1)

pub static_kept : IsStaticKept
static_kept l s truth i = go (schema_of l i) refl
  where
    go : (o : Option Schema) → schema_of l i ≡ o → HasStaticTruth l (state_by o i.objects s)
    go None is q os static = truth q os static
    go (Some a) is q os static =
        let none = λ (sign : Bool). unchanged s sign q os i.objects a.effect (false_from_ne_true (changes q a.effect) (λ h. both_ways (list_any (λ a. changes q a.effect) l.schemas) (static_parts l q static).0 (any_from (λ a. changes q a.effect) l.schemas a (member_at l.schemas i.schema a is) h))) in
        rw (none true, none false) (and-true (s q os) ∙ truth q os static)
