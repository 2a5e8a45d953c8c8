-- The literals of the first atoms, those of actions on them, and what is relevant to what.
use Rattle.std.proofs.Common.{◌≡◌, ◌<◌, ◌≤◌, ◌+◌, ◌||◌, ℕ, zero, suc, Bool, true, false, List, [], ◌∷◌, length, nat_lt, ltb-true, refl, sym, ap, subst, arith, inl, inr}
use Rattle.std.proofs.lemmas.Bool.{and_parts, or_cases}
use Rattle.std.specs.List.{list_any, list_all}
use Rattle.kp_base.specs.declared.lit.Lit.{Lit}
use Rattle.kp_base.specs.declared.ground.Effect.{Effect}
use Rattle.kp_base.specs.declared.ground.Action.{Action}
use Rattle.kp_base.specs.declared.ground.Ground.{Ground}
use Rattle.kp_base.specs.Lists.{Member}
use Rattle.kp_base.specs.Lit.{negated, same_lit, has}
use Rattle.kp_base.specs.Relevance.{leads, joins, IsRelevant, IsChained}
use Rattle.kp_base.specs.Implicates.{are_below, effect_below, action_below}
use Rattle.kp_base.proofs.Lists.{all_member, any_member}
use Rattle.kp_base.proofs.Lits.{same_lit-true, member-has}
use Rattle.kp_base.proofs.Chains.{to_chain}
use Rattle.kp_base.specs.Linked.{lits_from, ActsOnItsAtoms}

pub lit_among : (i n d a : ℕ) (b : Bool) → a ≡ i + d → d < n → Member (lits_from i n) (record { atom = record { 0 = a }; positive = b })
lit_among i zero d a b e less = absurd (omega (arith, less))
lit_among i (suc n) zero a true e less = let here : i ≡ a = omega (arith, e) in inl (ap (λ x. record { atom = record { 0 = x }; positive = true }) here)
lit_among i (suc n) zero a false e less = let here : i ≡ a = omega (arith, e) in inr (inl (ap (λ x. record { atom = record { 0 = x }; positive = false }) here))
lit_among i (suc n) (suc d) a b e less = inr (inr (lit_among (suc i) n d a b (omega (arith, e)) (omega (arith, less))))

-- a literal of the first n atoms is listed
pub listed : (n : ℕ) (l : Lit) → l.atom.0 < n → Member (lits_from 0 n) l
listed n l less = lit_among 0 n l.atom.0 l.atom.0 l.positive (omega arith) less

-- a listed literal is of one of the atoms
pub lits_below : (i n : ℕ) (l : Lit) → Member (lits_from i n) l → l.atom.0 < i + n
lits_below i zero l m = absurd m
lits_below i (suc n) l (inl e) = let same : i ≡ l.atom.0 = ap (λ (x : Lit). x.atom.0) e in omega (arith, same)
lits_below i (suc n) l (inr (inl e)) = let same : i ≡ l.atom.0 = ap (λ (x : Lit). x.atom.0) e in omega (arith, same)
lits_below i (suc n) l (inr (inr m)) = let rest = lits_below (suc i) n l m in omega (arith, rest)

-- ---- literals of actions

module _ (g : Ground) (acts_on : ActsOnItsAtoms g) where
  effect_is_below : (a : Action) (e : Effect) → Member g.actions a → Member a.effects e → effect_below (length g.atoms) e ≡ true
  effect_is_below a e in_acts in_effects =
      let act = all_member (action_below (length g.atoms)) g.actions a in_acts acts_on in
      let parts = and_parts (are_below (length g.atoms) a.pre) (list_all (effect_below (length g.atoms)) a.effects) act in
      all_member (effect_below (length g.atoms)) a.effects e in_effects parts.1

  pub result_below : (a : Action) (e : Effect) → Member g.actions a → Member a.effects e → e.result.atom.0 < length g.atoms
  result_below a e in_acts in_effects =
      let parts = and_parts (nat_lt e.result.atom.0 (length g.atoms)) (are_below (length g.atoms) e.cond) (effect_is_below a e in_acts in_effects) in
      ltb-true e.result.atom.0 (length g.atoms) parts.0

  -- what something is joined to is listed
  pub joined_listed : (l m : Lit) → joins g.actions l m ≡ true → Member (lits_from 0 (length g.atoms)) m
  joined_listed l m h =
      let a = any_member (λ a. list_any (λ e. leads l m e || leads (negated l) (negated m) e) a.effects) g.actions h in
      let e = any_member (λ e. leads l m e || leads (negated l) (negated m) e) a.0.effects a.2 in
      let below = result_below a.0 e.0 a.1 e.1 in
      listed (length g.atoms) m (elim (or_cases (leads l m e.0) (leads (negated l) (negated m) e.0) e.2) [
        | inl q ↦ subst (λ (x : Lit). x.atom.0 < length g.atoms) (same_lit-true e.0.result m (and_parts (same_lit e.0.result m) (has e.0.cond l) q).0) below
        | inr q ↦ subst (λ (x : Lit). x.atom.0 < length g.atoms) (same_lit-true e.0.result (negated m) (and_parts (same_lit e.0.result (negated m)) (has e.0.cond (negated l)) q).0) below
      ])

  pub condition_below : (a : Action) (e : Effect) (c : Lit) → Member g.actions a → Member a.effects e → Member e.cond c → c.atom.0 < length g.atoms
  condition_below a e c in_acts in_effects in_cond =
      let parts = and_parts (nat_lt e.result.atom.0 (length g.atoms)) (are_below (length g.atoms) e.cond) (effect_is_below a e in_acts in_effects) in
      ltb-true c.atom.0 (length g.atoms) (all_member (λ l. nat_lt l.atom.0 (length g.atoms)) e.cond c in_cond parts.1)

  -- what is joined to something is of an atom
  pub joined_below : (l m : Lit) → joins g.actions l m ≡ true → l.atom.0 < length g.atoms
  joined_below l m h =
      let a = any_member (λ a. list_any (λ e. leads l m e || leads (negated l) (negated m) e) a.effects) g.actions h in
      let e = any_member (λ e. leads l m e || leads (negated l) (negated m) e) a.0.effects a.2 in
      elim (or_cases (leads l m e.0) (leads (negated l) (negated m) e.0) e.2) [
        | inl q ↦ condition_below a.0 e.0 l a.1 e.1 (member-has e.0.cond l (and_parts (same_lit e.0.result m) (has e.0.cond l) q).1)
        | inr q ↦ condition_below a.0 e.0 (negated l) a.1 e.1 (member-has e.0.cond (negated l) (and_parts (same_lit e.0.result (negated m)) (has e.0.cond (negated l)) q).1)
      ]

-- ---- what is relevant

-- what is relevant to a literal of an atom is of an atom
chain_below : (g : Ground) → ActsOnItsAtoms g → (l k : Lit) → IsChained g.actions l k → k.atom.0 < length g.atoms → l.atom.0 < length g.atoms
chain_below g acts_on _ _ (IsChained.alone l) h = h
chain_below g acts_on _ _ (IsChained.joined l m k j q) h = joined_below g acts_on l m j

pub relevant_below : (g : Ground) → ActsOnItsAtoms g → (l k : Lit) → IsRelevant g.actions l k → k.atom.0 < length g.atoms → l.atom.0 < length g.atoms
relevant_below g acts_on l k r h = chain_below g acts_on l k (to_chain g.actions l k r) h

-- and so is what a literal of an atom is relevant to
chain_to_below : (g : Ground) → ActsOnItsAtoms g → (l k : Lit) → IsChained g.actions l k → l.atom.0 < length g.atoms → k.atom.0 < length g.atoms
chain_to_below g acts_on _ _ (IsChained.alone l) h = h
chain_to_below g acts_on _ _ (IsChained.joined l m k j q) h =
    let below = lits_below 0 (length g.atoms) m (joined_listed g acts_on l m j) in
    chain_to_below g acts_on m k q (omega (arith, below))

pub relevant_to_below : (g : Ground) → ActsOnItsAtoms g → (l k : Lit) → IsRelevant g.actions l k → l.atom.0 < length g.atoms → k.atom.0 < length g.atoms
relevant_to_below g acts_on l k r h = chain_to_below g acts_on l k (to_chain g.actions l k r) h
