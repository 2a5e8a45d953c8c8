-- What is linked over the literals of a ground problem is relevant, and what is relevant is linked.
use Rattle.std.proofs.Common.{◌≡◌, ◌||◌, ◌&&◌, Bool, true, List, [], ◌∷◌, length, sym, subst, inl, inr}
use Rattle.std.proofs.lemmas.Bool.{and_parts, and_from, or_cases, or_left, or_right}
use Rattle.kp_base.specs.declared.lit.Lit.{Lit}
use Rattle.kp_base.specs.declared.ground.Action.{Action}
use Rattle.kp_base.specs.declared.ground.Ground.{Ground}
use Rattle.kp_base.specs.Lists.{Member}
use Rattle.kp_base.specs.Lit.{same_lit}
use Rattle.kp_base.specs.Relevance.{IsRelevant, joins, IsChained}
use Rattle.kp_base.proofs.Lits.{same_lit-true, same_lit-refl}
use Rattle.kp_base.specs.Linked.{lits_from, linked, is_relevant, ActsOnItsAtoms}
use Rattle.kp_base.specs.Facts.{RelevanceIsLinked}
use Rattle.kp_base.proofs.Chains.{joins_relevant, to_chain}
use Rattle.kp_base.proofs.LitsBelow.{joined_listed}

module _ (acts : List Action) where
  -- ---- what is linked is relevant

  linked_relevant : (ks : List Lit) (l m : Lit) → linked acts ks l m ≡ true → IsRelevant acts l m
  unfolding linked
  linked_relevant [] l m h = elim (or_cases (same_lit l m) (joins acts l m) h) [
    | inl e ↦ subst (λ (x : Lit). IsRelevant acts l x) (same_lit-true l m e) (IsRelevant.itself l)
    | inr j ↦ joins_relevant acts l m j
  ]
  linked_relevant (k ∷ ks) l m h = elim (or_cases (linked acts ks l m) (linked acts ks l k && linked acts ks k m) h) [
    | inl e ↦ linked_relevant ks l m e
    | inr p ↦ let parts = and_parts (linked acts ks l k) (linked acts ks k m) p in IsRelevant.onward l k m (linked_relevant ks l k parts.0) (linked_relevant ks k m parts.1)
  ]

  -- ---- what is relevant is linked

  pub linked_itself : (ks : List Lit) (l : Lit) → linked acts ks l l ≡ true
  unfolding linked
  linked_itself [] l = or_left (same_lit l l) (joins acts l l) (same_lit-refl l)
  linked_itself (k ∷ ks) l = or_left (linked acts ks l l) (linked acts ks l k && linked acts ks k l) (linked_itself ks l)

  linked_joined : (ks : List Lit) (l m : Lit) → joins acts l m ≡ true → linked acts ks l m ≡ true
  unfolding linked
  linked_joined [] l m j = or_right (same_lit l m) (joins acts l m) j
  linked_joined (k ∷ ks) l m j = or_left (linked acts ks l m) (linked acts ks l k && linked acts ks k m) (linked_joined ks l m j)

  -- over the first literal
  over_first : (k : Lit) (ks : List Lit) (l m : Lit) → linked acts ks l k ≡ true → linked acts ks k m ≡ true → linked acts (k ∷ ks) l m ≡ true
  unfolding linked
  over_first k ks l m p q = or_right (linked acts ks l m) (linked acts ks l k && linked acts ks k m) (and_from (linked acts ks l k) (linked acts ks k m) p q)

  -- to the first literal, or from it, the later ones link alone
  to_first : (k : Lit) (ks : List Lit) (l : Lit) → linked acts (k ∷ ks) l k ≡ true → linked acts ks l k ≡ true
  unfolding linked
  to_first k ks l h = elim (or_cases (linked acts ks l k) (linked acts ks l k && linked acts ks k k) h) [
    | inl e ↦ e
    | inr p ↦ (and_parts (linked acts ks l k) (linked acts ks k k) p).0
  ]

  from_first : (k : Lit) (ks : List Lit) (m : Lit) → linked acts (k ∷ ks) k m ≡ true → linked acts ks k m ≡ true
  unfolding linked
  from_first k ks m h = elim (or_cases (linked acts ks k m) (linked acts ks k k && linked acts ks k m) h) [
    | inl e ↦ e
    | inr p ↦ (and_parts (linked acts ks k k) (linked acts ks k m) p).1
  ]

  -- over any of them
  pub linked_over : (ks : List Lit) (k l m : Lit) → Member ks k → linked acts ks l k ≡ true → linked acts ks k m ≡ true → linked acts ks l m ≡ true
  unfolding linked
  linked_over [] k l m in_ks p q = absurd in_ks
  linked_over (h ∷ hs) k l m (inl e) p q =
      over_first h hs l m
      (to_first h hs l (subst (λ (x : Lit). linked acts (h ∷ hs) l x ≡ true) (sym e) p))
      (from_first h hs m (subst (λ (x : Lit). linked acts (h ∷ hs) x m ≡ true) (sym e) q))
  linked_over (h ∷ hs) k l m (inr r) p q =
      elim (or_cases (linked acts hs l k) (linked acts hs l h && linked acts hs h k) p) [
        | inl a ↦ elim (or_cases (linked acts hs k m) (linked acts hs k h && linked acts hs h m) q) [
          | inl b ↦ or_left (linked acts hs l m) (linked acts hs l h && linked acts hs h m) (linked_over hs k l m r a b)
          | inr b ↦ let parts = and_parts (linked acts hs k h) (linked acts hs h m) b in over_first h hs l m (linked_over hs k l h r a parts.0) parts.1
        ]
        | inr a ↦
            let first = and_parts (linked acts hs l h) (linked acts hs h k) a in
            elim (or_cases (linked acts hs k m) (linked acts hs k h && linked acts hs h m) q) [
              | inl b ↦ over_first h hs l m first.0 (linked_over hs k h m r first.1 b)
              | inr b ↦ over_first h hs l m first.0 (and_parts (linked acts hs k h) (linked acts hs h m) b).1
            ]
      ]

module _ (g : Ground) (acts_on : ActsOnItsAtoms g) where
  abbrev all_lits : List Lit
  all_lits = lits_from 0 (length g.atoms)

  chain_linked : (l m : Lit) → IsChained g.actions l m → linked g.actions all_lits l m ≡ true
  chain_linked _ _ (IsChained.alone l) = linked_itself g.actions all_lits l
  chain_linked _ _ (IsChained.joined l k m j q) = linked_over g.actions all_lits k l m (joined_listed g acts_on l k j) (linked_joined g.actions all_lits l k j) (chain_linked k m q)

pub relevance_is_linked : RelevanceIsLinked
unfolding is_relevant
relevance_is_linked g acts_on l m = (
  λ h. linked_relevant g.actions (lits_from 0 (length g.atoms)) l m h,
  λ r. chain_linked g acts_on l m (to_chain g.actions l m r),
)
