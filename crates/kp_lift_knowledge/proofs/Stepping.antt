-- A step as rows of bits is the machine's step.
use Rattle.std.proofs.Common.{◌≡◌, ◌<◌, ◌&&◌, ◌||◌, ℕ, Bool, true, false, not, cond, List, [], ◌∷◌, length, nat_eq, nat_lt, refl, sym, ap, ap₂, ◌∙◌, arith}
use Rattle.std.proofs.lemmas.Bool.{and_parts, ltb-true, or_parts}
use Rattle.std.specs.List.{list_all}
use Rattle.kp_base.specs.declared.lit.Lit.{Lit}
use Rattle.kp_base.specs.declared.ground.Action.{Action}
use Rattle.kp_base.specs.declared.ground.Effect.{Effect}
use Rattle.kp_base.specs.Planning.{Member, same_lit, negated, are_below, effect_below, action_below, Valuation, fires, Known, persists, facts_after}
use Rattle.kp_base.proofs.Lists.{any_alike, all_alike, all_member}
use Rattle.kp_lift_knowledge.specs.Known.{Table, known, IsLike, Says}
use Rattle.kp_lift_knowledge.specs.Tabled.{Turns, touches, IsAtRest}

-- ---- what no effect touches

untouched_stays : (es : List Effect) (k : Valuation) (l : Lit) → touches es l ≡ false → (fires es k l ≡ false) × (persists es k l ≡ true)
untouched_stays [] k l h = (refl, refl)
untouched_stays (e ∷ es) k l h =
    let parts = or_parts (nat_eq e.result.atom.0 l.atom.0) (touches es l) h in
    let rest = untouched_stays es k l parts.1 in (
      rw (parts.0, rest.0) refl,
      rw (parts.0, rest.1) refl,
    )

-- ---- facts that agree on the literals of the atoms

-- two tests on literals agree on those of the first n atoms
abbrev pub Agree : ℕ → Valuation → Valuation → Type 0
Agree n k m = (l : Lit) → l.atom.0 < n → k l ≡ m l

pub below_at : (n : ℕ) (ls : List Lit) → are_below n ls ≡ true → (l : Lit) → Member ls l → l.atom.0 < n
below_at n ls h l m = ltb-true l.atom.0 n (all_member (λ x. nat_lt x.atom.0 n) ls l m h)

fires_alike : (n : ℕ) (k m : Valuation) → Agree n k m → (es : List Effect) → list_all (effect_below n) es ≡ true → (l : Lit) → fires es k l ≡ fires es m l
fires_alike n k m same es h l =
    any_alike _ _ es (λ e in_es.
    let below = and_parts _ (are_below n e.cond) (all_member (effect_below n) es e in_es h) in
    ap (λ b. same_lit e.result l && b) (all_alike k m e.cond (λ c in_cond. same c (below_at n e.cond below.1 c in_cond))))

persists_alike : (n : ℕ) (k m : Valuation) → Agree n k m → (es : List Effect) → list_all (effect_below n) es ≡ true → (l : Lit) → persists es k l ≡ persists es m l
persists_alike n k m same es h l =
    all_alike _ _ es (λ e in_es.
    let below = and_parts _ (are_below n e.cond) (all_member (effect_below n) es e in_es h) in
    ap (λ b. not (same_lit e.result (negated l)) || b) (any_alike (λ c. k (negated c)) (λ c. m (negated c)) e.cond (λ c in_cond. same (negated c) (below_at n e.cond below.1 c in_cond))))

-- ---- an action

module _ (table next held done new : Table) (a : Action) (like : IsLike next table) (same : Says next (known table)) (cancelled : Turns next held (λ t l. known next t l && persists a.effects (known table t) l)) (supported : Turns held done (λ t l. known held t l || fires a.effects (known table t) l)) (taken : Turns table new (λ t l. cond (touches a.effects l) (known done t l) (known table t l))) where
  -- the working table says what is known after the action
  worked_out : (t : ℕ) (l : Lit) → t < table.tags → l.atom.0 < table.atoms → known done t l ≡ facts_after a (known table t) l
  worked_out t l ht hl =
      let t1 : t < next.tags = omega (arith, ht, like.tags) in
      let l1 : l.atom.0 < next.atoms = omega (arith, hl, like.atoms) in
      let t2 : t < held.tags = omega (arith, t1, cancelled.like.tags) in
      let l2 : l.atom.0 < held.atoms = omega (arith, l1, cancelled.like.atoms) in
      let t3 : t < done.tags = omega (arith, t2, supported.like.tags) in
      let l3 : l.atom.0 < done.atoms = omega (arith, l2, supported.like.atoms) in
      supported.says.each t l t3 l3
      ∙ (ap (λ b. b || fires a.effects (known table t) l) (cancelled.says.each t l t2 l2 ∙ ap (λ b. b && persists a.effects (known table t) l) (same.each t l t1 l1))
      ∙ turn (known table t l && persists a.effects (known table t) l) (fires a.effects (known table t) l))
    where
      turn : (b c : Bool) → (b || c) ≡ (c || b)
      turn true true = refl
      turn true false = refl
      turn false true = refl
      turn false false = refl

  -- so does the table, for what no effect touches is as it was
  stepped : (t : ℕ) (l : Lit) → t < table.tags → l.atom.0 < table.atoms → known new t l ≡ known done t l
  stepped t l ht hl =
      taken.says.each t l (omega (arith, ht, taken.like.tags)) (omega (arith, hl, taken.like.atoms)) ∙ by (touches a.effects l) refl
    where
      by : (b : Bool) → touches a.effects l ≡ b → cond b (known done t l) (known table t l) ≡ known done t l
      by true h = refl
      by false h =
          let stays = untouched_stays a.effects (known table t) l h in
          sym (worked_out t l ht hl ∙ (ap₂ (λ b c. b || (known table t l && c)) stays.0 stays.1 ∙ with_true (known table t l)))
        where
          with_true : (b : Bool) → (b && true) ≡ b
          with_true true = refl
          with_true false = refl

  pub acted : action_below table.atoms a ≡ true → (k : Known) → Says table k → Says new (λ t. facts_after a (k t))
  acted below k says = record {
    each = λ t l ht hl.
        let t1 : t < table.tags = omega (arith, ht, taken.like.tags) in
        let l1 : l.atom.0 < table.atoms = omega (arith, hl, taken.like.atoms) in
        let effects = (and_parts (are_below table.atoms a.pre) (list_all (effect_below table.atoms) a.effects) below).1 in
        let agree : Agree table.atoms (known table t) (k t) = λ m hm. says.each t m t1 hm in
        stepped t l t1 l1
        ∙ (worked_out t l t1 l1
        ∙ ap₂ (λ b c. b || c) (fires_alike table.atoms (known table t) (k t) agree a.effects effects l) (ap₂ (λ b c. b && c) (says.each t l t1 l1) (persists_alike table.atoms (known table t) (k t) agree a.effects effects l)));
  }

  pub rests : (met : List Bool) → length met ≡ table.tags → IsAtRest new done met
  rests met wide = record {
    like = record {
      tags = supported.like.tags ∙ (cancelled.like.tags ∙ (like.tags ∙ sym taken.like.tags));
      atoms = supported.like.atoms ∙ (cancelled.like.atoms ∙ (like.atoms ∙ sym taken.like.atoms));
    };
    same = record {
      each = λ t l ht hl.
          sym (stepped t l
          (omega (arith, ht, supported.like.tags, cancelled.like.tags, like.tags))
          (omega (arith, hl, supported.like.atoms, cancelled.like.atoms, like.atoms)));
    };
    wide = wide ∙ sym taken.like.tags;
  }
