-- Removing pairs that don't stay takes none that an inductive set has.
use Rattle.std.proofs.Common.{◌≡◌, ℕ, Bool, true, false, not, ◌&&◌, ◌||◌, List, [], ◌∷◌, nat_eq, inl, inr, refl, sym, ap, ap₂, ◌∙◌, arith}
use Rattle.std.proofs.lemmas.Bool.{and_parts, and_from, or_cases, false≢true, false_from_ne_true, not-true, eqb-true}
use Rattle.std.proofs.Math.Bool.{or_comm}
use Rattle.std.specs.List.{list_all}
use Rattle.kp_base.specs.declared.ground.Effect.{Effect}
use Rattle.kp_base.specs.declared.ground.Action.{Action}
use Rattle.kp_base.specs.declared.ground.Ground.{Ground}
use Rattle.kp_base.specs.declared.ground.Initial.{Initial}
use Rattle.kp_base.specs.Planning.{Member, positive, same_lit, Pairs, are_compatible, compatible_effects, IsPart, firing_with, IsInductive}
use Rattle.kp_base.proofs.Lists.{all_member, all_from, any_from}
use Rattle.kp_base.proofs.Lits.{same_lit-true}
use Rattle.kp_clash_exclusive.specs.Paired.{are_both, is_pair}
use Rattle.kp_clash_exclusive.specs.Settled.{adds_both, never_adds_both, deletes_within, keeps_apart, all_keep_apart, stays_in}
use Rattle.kp_clash_exclusive.specs.Removed.{IsWithout, AreKeptBy, Shrinks, breaks, adds_pair, BreaksNone, IsBroken}
use Rattle.kp_clash_exclusive.proofs.Greatest.{is_lit, Parts, parts_of, stays_by, all_stay_more, inductive_stays}

-- ---- pairs in either order

pub pair_turned : (ps : List (ℕ × ℕ)) (p q : ℕ) → is_pair ps p q ≡ is_pair ps q p
pair_turned [] p q = refl
pair_turned (x ∷ ps) p q = ap₂ (λ a b. a || b) (or_comm (nat_eq x.0 p && nat_eq x.1 q) (nat_eq x.0 q && nat_eq x.1 p)) (pair_turned ps p q)

-- ---- what is removed

pub fewer_different : (some more : Pairs) → IsPart some more → ((p : ℕ) → more p p ≡ false) → (p : ℕ) → some p p ≡ false
fewer_different some more part none p = false_from_ne_true (some p p) (λ h. false≢true (sym (none p) ∙ part p p h))

pub shrinks_on : (actions : List Action) (a b c : List (ℕ × ℕ)) → Shrinks actions a b → Shrinks actions b c → Shrinks actions a c
shrinks_on actions a b c f g = record {
  part = λ p q h. f.part p q (g.part p q h);
  keeps = λ some kept part. g.keeps some kept (f.keeps some kept part);
  no_more = omega (arith, f.no_more, g.no_more);
}

-- what one of the actions doesn't keep, not all of them do
pub shrinks_wider : (actions : List Action) (a : Action) (old new : List (ℕ × ℕ)) → Member actions a → Shrinks (a ∷ []) old new → Shrinks actions old new
shrinks_wider actions a old new m f = record {
  part = f.part;
  keeps = λ some kept part. f.keeps some (record {
    either_order = kept.either_order;
    stay = λ p q h. and_from (stays_in some p q a) true (all_member (stays_in some p q) actions a m (kept.stay p q h)) refl;
  }) part;
  no_more = f.no_more;
}

-- a pair that is broken may go
pub removes : (actions : List Action) (p q : ℕ) (old new : List (ℕ × ℕ)) → IsBroken (is_pair old) actions p q → IsWithout p q old new → Shrinks actions old new
removes actions p q old new f w = record { part = part; keeps = keeps; no_more = omega (arith, w.fewer) }
  where
    pair_of : (r s : ℕ) → are_both p q (r, s) ≡ true → (some : Pairs) → ((u v : ℕ) → some u v ≡ true → some v u ≡ true) → (some p q ≡ true → some r s ≡ true) × (some r s ≡ true → some p q ≡ true)
    pair_of r s both some turn = elim (or_cases (nat_eq r p && nat_eq s q) (nat_eq r q && nat_eq s p) both) [
      | inl e ↦
          let h = and_parts (nat_eq r p) (nat_eq s q) e in
          let same : some p q ≡ some r s = ap₂ some (sym (eqb-true r p h.0)) (sym (eqb-true s q h.1)) in
          (λ k. sym same ∙ k, λ k. same ∙ k)
      | inr e ↦
          let h = and_parts (nat_eq r q) (nat_eq s p) e in
          let same : some q p ≡ some r s = ap₂ some (sym (eqb-true r q h.0)) (sym (eqb-true s p h.1)) in
          (λ k. sym same ∙ turn p q k, λ k. turn q p (same ∙ k))
    ]

    part : IsPart (is_pair new) (is_pair old)
    part r s h = by (are_both p q (r, s)) refl
      where
        by : (b : Bool) → are_both p q (r, s) ≡ b → is_pair old r s ≡ true
        by true e = (pair_of r s e (is_pair old) (λ u v k. pair_turned old v u ∙ k)).0 f.pair
        by false e = sym (w.others r s e) ∙ h

    keeps : (some : Pairs) → AreKeptBy actions some → IsPart some (is_pair old) → IsPart some (is_pair new)
    keeps some kept within r s h = by (are_both p q (r, s)) refl
      where
        by : (b : Bool) → are_both p q (r, s) ≡ b → is_pair new r s ≡ true
        by true e = absurd (false≢true (sym f.broken ∙ all_stay_more some (is_pair old) within p q actions (kept.stay p q ((pair_of r s e some kept.either_order).1 h))))
        by false e = w.others r s e ∙ within r s h

-- an inductive set is kept
pub inductive_kept : (g : Ground) (i : Initial) (atoms : ℕ) (some : Pairs) → IsInductive g i atoms some → AreKeptBy g.actions some
inductive_kept g i atoms some ind = record { either_order = ind.are_pairs.either_order; stay = λ p q h. inductive_stays g i atoms some ind p q h }

-- ---- what is broken

pub breaks_broken_pair : (pairs : Pairs) (a : Action) (e : Effect) (q : ℕ) → breaks pairs a e q ≡ true → pairs e.result.atom.0 q ≡ true
breaks_broken_pair pairs a e q h = (and_parts (pairs e.result.atom.0 q) (not (keeps_apart pairs e.result.atom.0 q a e)) (and_parts e.result.positive (pairs e.result.atom.0 q && not (keeps_apart pairs e.result.atom.0 q a e)) h).1).0

pub breaks_broken : (pairs : Pairs) (a : Action) (e : Effect) (q : ℕ) → Member a.effects e → breaks pairs a e q ≡ true → IsBroken pairs (a ∷ []) e.result.atom.0 q
breaks_broken pairs a e q m h =
    let x = and_parts e.result.positive (pairs e.result.atom.0 q && not (keeps_apart pairs e.result.atom.0 q a e)) h in
    let y = and_parts (pairs e.result.atom.0 q) (not (keeps_apart pairs e.result.atom.0 q a e)) x.1 in
    record {
      pair = y.0;
      broken = false_from_ne_true (list_all (stays_in pairs e.result.atom.0 q) (a ∷ [])) (λ s.
          let parts : Parts pairs e.result.atom.0 q a = parts_of pairs e.result.atom.0 q a (and_parts (stays_in pairs e.result.atom.0 q a) true s).0 in
          false≢true (sym (not-true (keeps_apart pairs e.result.atom.0 q a e) y.1) ∙ all_member (keeps_apart pairs e.result.atom.0 q a) a.effects e m parts.apart));
    }

pub is_positive : (e : Effect) → e.result.positive ≡ true → same_lit e.result (positive e.result.atom.0) ≡ true
is_positive e h = is_lit e.result (positive e.result.atom.0) (ap (λ b. record { atom = e.result.atom; positive = b }) h)

pub adds_broken : (pairs : Pairs) (a : Action) (e f : Effect) → Member a.effects e → Member a.effects f → adds_pair pairs a e f ≡ true → IsBroken pairs (a ∷ []) e.result.atom.0 f.result.atom.0
adds_broken pairs a e f m n h =
    let p : ℕ = e.result.atom.0 in
    let q : ℕ = f.result.atom.0 in
    let x = and_parts (e.result.positive && (f.result.positive && pairs p q)) (compatible_effects pairs a e f) h in
    let y = and_parts e.result.positive (f.result.positive && pairs p q) x.0 in
    let z = and_parts f.result.positive (pairs p q) y.1 in
    record {
      pair = z.1;
      broken = false_from_ne_true (list_all (stays_in pairs p q) (a ∷ [])) (λ s.
          let parts : Parts pairs p q a = parts_of pairs p q a (and_parts (stays_in pairs p q a) true s).0 in
          let never = all_member (λ f. not (adds_both pairs p q a e f)) a.effects f n (all_member (λ e. list_all (λ f. not (adds_both pairs p q a e f)) a.effects) a.effects e m parts.both) in
          false≢true (sym (not-true (adds_both pairs p q a e f) never) ∙ and_from (same_lit e.result (positive p) && same_lit f.result (positive q)) (compatible_effects pairs a e f) (and_from (same_lit e.result (positive p)) (same_lit f.result (positive q)) (is_positive e y.0) (is_positive f z.0)) x.1));
    }

-- ---- what stays

module _ (pairs : Pairs) (turn : (p q : ℕ) → pairs p q ≡ true → pairs q p ≡ true) (a : Action) (none : (e : Effect) → Member a.effects e → BreaksNone pairs a e) where
  never_both : (p q : ℕ) → pairs p q ≡ true → never_adds_both pairs p q a ≡ true
  never_both p q pair =
      all_from (λ e. list_all (λ f. not (adds_both pairs p q a e f)) a.effects) a.effects (λ e in-e.
      all_from (λ f. not (adds_both pairs p q a e f)) a.effects (λ f in-f.
      ap not (false_from_ne_true (adds_both pairs p q a e f) (λ t.
      let parts = and_parts (same_lit e.result (positive p) && same_lit f.result (positive q)) (compatible_effects pairs a e f) t in
      let adds = and_parts (same_lit e.result (positive p)) (same_lit f.result (positive q)) parts.0 in
      false≢true (sym (none e in-e).together ∙ any_from (adds_pair pairs a e) a.effects f in-f (and_from (e.result.positive && (f.result.positive && pairs e.result.atom.0 f.result.atom.0)) (compatible_effects pairs a e f) (both e f (same_lit-true e.result (positive p) adds.0) (same_lit-true f.result (positive q) adds.1)) parts.1))))))
    where
      both : (e f : Effect) → e.result ≡ positive p → f.result ≡ positive q → (e.result.positive && (f.result.positive && pairs e.result.atom.0 f.result.atom.0)) ≡ true
      both e f x y = and_from e.result.positive (f.result.positive && pairs e.result.atom.0 f.result.atom.0) (ap (λ l. l.positive) x) (and_from f.result.positive (pairs e.result.atom.0 f.result.atom.0) (ap (λ l. l.positive) y) (ap₂ (λ k l. pairs k.atom.0 l.atom.0) x y ∙ pair))

  apart_all : (p q : ℕ) → pairs p q ≡ true → all_keep_apart pairs p q a ≡ true
  apart_all p q pair = all_from (keeps_apart pairs p q a) a.effects (λ e in-e. by e in-e (keeps_apart pairs p q a e) refl)
    where
      by : (e : Effect) → Member a.effects e → (b : Bool) → keeps_apart pairs p q a e ≡ b → keeps_apart pairs p q a e ≡ true
      by e in-e true is = is
      by e in-e false is = adding (same_lit e.result (positive p)) refl
        where
          adding : (b : Bool) → same_lit e.result (positive p) ≡ b → keeps_apart pairs p q a e ≡ true
          adding false n = ap (λ b. not b || (not (are_compatible pairs (firing_with a e q)) || deletes_within a q (firing_with a e q))) n
          adding true y =
              let l = same_lit-true e.result (positive p) y in
              let p-is : e.result.atom.0 ≡ p = ap (λ k. k.atom.0) l in
              absurd (false≢true (sym ((none e in-e).alone q) ∙ and_from e.result.positive (pairs e.result.atom.0 q && not (keeps_apart pairs e.result.atom.0 q a e)) (ap (λ k. k.positive) l) (and_from (pairs e.result.atom.0 q) (not (keeps_apart pairs e.result.atom.0 q a e)) (ap (λ n. pairs n q) p-is ∙ pair) (ap (λ n. not (keeps_apart pairs n q a e)) p-is ∙ ap not is))))

  -- where no effect breaks a pair, each pair stays
  pub none_stays : (p q : ℕ) → pairs p q ≡ true → stays_in pairs p q a ≡ true
  none_stays p q pair =
      let parts : Parts pairs p q a = record { both = never_both p q pair; both_turned = never_both q p (turn p q pair); apart = apart_all p q pair; apart_turned = apart_all q p (turn p q pair) } in
      stays_by pairs p q a parts
