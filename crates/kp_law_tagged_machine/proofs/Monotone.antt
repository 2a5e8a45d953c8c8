-- More facts before an action give no fewer after it.
use Rattle.std.proofs.Common.{◌≡◌, Bool, true, false, not, ◌&&◌, ◌||◌, List, refl, ◌∙◌, ap, subst, inl, inr}
use Rattle.std.proofs.lemmas.Bool.{and_parts, and_from, or_cases, or_left, or_right}
use Rattle.std.specs.List.{list_any, list_all}
use Rattle.kp_base.specs.declared.lit.Lit.{Lit}
use Rattle.kp_base.specs.declared.ground.Effect.{Effect}
use Rattle.kp_base.specs.declared.ground.Action.{Action}
use Rattle.kp_base.specs.Planning.{Member, negated, same_lit, Valuation, fires, persists, facts_after}
use Rattle.kp_base.proofs.Lists.{any_weaker, all_weaker}
use Rattle.kp_base.proofs.Lits.{same_lit-true, negated-negated}

-- a relation that has the links of an action's effects
pub record Links (R : Lit → Lit → Type 0) (es : List Effect) : Type 0 where
  pub itself : (l : Lit) → R l l
  pub cond : (e : Effect) (c : Lit) → Member es e → Member e.cond c → R c e.result
  pub negation : (l m : Lit) → R l m → R (negated l) (negated m)

-- the facts that bear on a literal
abbrev pub Within : (Lit → Lit → Type 0) → Valuation → Valuation → Lit → Type 0
Within R k j m = (l : Lit) → R l m → k l ≡ true → j l ≡ true

pub fires_more : (R : Lit → Lit → Type 0) (es : List Effect) → Links R es → (k j : Valuation) (m : Lit) → Within R k j m → fires es k m ≡ true → fires es j m ≡ true
fires_more R es links k j m w h =
    any_weaker (λ e. same_lit e.result m && list_all k e.cond) (λ e. same_lit e.result m && list_all j e.cond) es
    (λ e in' p.
    let parts = and_parts (same_lit e.result m) (list_all k e.cond) p in
    let same = same_lit-true e.result m parts.0 in
    and_from (same_lit e.result m) (list_all j e.cond) parts.0
    (all_weaker k j e.cond (λ c in-cond. w c (subst (R c) same (links.cond e c in' in-cond))) parts.1))
    h

pub persists_more : (R : Lit → Lit → Type 0) (es : List Effect) → Links R es → (k j : Valuation) (m : Lit) → Within R k j m → persists es k m ≡ true → persists es j m ≡ true
persists_more R es links k j m w h =
    all_weaker (λ e. not (same_lit e.result (negated m)) || list_any (λ c. k (negated c)) e.cond) (λ e. not (same_lit e.result (negated m)) || list_any (λ c. j (negated c)) e.cond) es
    (λ e in' p. each e in' (same_lit e.result (negated m)) refl p)
    h
  where
    each : (e : Effect) → Member es e → (b : Bool) → same_lit e.result (negated m) ≡ b → (not b || list_any (λ c. k (negated c)) e.cond) ≡ true → (not (same_lit e.result (negated m)) || list_any (λ c. j (negated c)) e.cond) ≡ true
    each e in' false is p = rw is refl
    each e in' true is p =
        let same = same_lit-true e.result (negated m) is in
        or_right (not (same_lit e.result (negated m))) (list_any (λ c. j (negated c)) e.cond)
        (any_weaker (λ c. k (negated c)) (λ c. j (negated c)) e.cond
        (λ c in-cond. w (negated c) (subst (R (negated c)) (ap negated same ∙ negated-negated m) (links.negation c e.result (links.cond e c in' in-cond))))
        p)

pub facts_more : (R : Lit → Lit → Type 0) (a : Action) → Links R a.effects → (k j : Valuation) (m : Lit) → Within R k j m → facts_after a k m ≡ true → facts_after a j m ≡ true
facts_more R a links k j m w h =
    elim (or_cases (fires a.effects k m) (k m && persists a.effects k m) h) [
      | inl e ↦ or_left (fires a.effects j m) (j m && persists a.effects j m) (fires_more R a.effects links k j m w e)
      | inr e ↦
          let parts = and_parts (k m) (persists a.effects k m) e in
          or_right (fires a.effects j m) (j m && persists a.effects j m)
          (and_from (j m) (persists a.effects j m) (w m (links.itself m) parts.0) (persists_more R a.effects links k j m w parts.1))
    ]

-- the relation that joins all literals
abbrev pub Any : Lit → Lit → Type 0
Any l m = Unit {0}

pub any_links : (es : List Effect) → Links Any es
any_links es = record { itself = λ l. tt; cond = λ e c i j. tt; negation = λ l m r. tt }

abbrev pub Within_all : Valuation → Valuation → Type 0
Within_all k j = (l : Lit) → k l ≡ true → j l ≡ true

pub facts_more_all : (a : Action) (k j : Valuation) → Within_all k j → Within_all (facts_after a k) (facts_after a j)
facts_more_all a k j w m h = facts_more Any a (any_links a.effects) k j m (λ l r. w l) h
