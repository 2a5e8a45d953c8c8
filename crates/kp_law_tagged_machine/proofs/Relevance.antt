-- Relevance has the links of each action, and keeps to the atoms of the problem.
use Rattle.std.proofs.Common.{◌≡◌, ◌<◌, ℕ, true, List, length, nat_lt, ltb-true, refl}
use Rattle.std.proofs.lemmas.Bool.{and_parts}
use Rattle.std.specs.List.{list_all}
use Rattle.kp_base.specs.declared.lit.Lit.{Lit}
use Rattle.kp_base.specs.declared.ground.Action.{Action}
use Rattle.kp_base.specs.declared.ground.Ground.{Ground}
use Rattle.kp_base.specs.Lists.{Member}
use Rattle.kp_base.specs.Implicates.{are_below, effect_below, action_below, IsOfItsAtoms}
use Rattle.kp_base.specs.Relevance.{IsConditionOf, IsRelevant}
use Rattle.kp_base.proofs.Lists.{all_member}
use Rattle.kp_law_tagged_machine.proofs.Monotone.{Links as HasLinksOf}

pub relevant_links : (acts : List Action) (a : Action) → Member acts a → HasLinksOf (IsRelevant acts) a.effects
relevant_links acts a in-acts = record {
  itself = λ l. IsRelevant.itself l;
  cond = λ e c in-effects in-cond. IsRelevant.condition c e.result (record { action = a; effect = e; action_in = in-acts; effect_in = in-effects; condition = in-cond; result = refl });
  negation = λ l m r. IsRelevant.negation l m r;
}

-- ---- atoms

below_at : (n : ℕ) (ls : List Lit) → are_below n ls ≡ true → (l : Lit) → Member ls l → l.atom.0 < n
below_at n ls h l i = ltb-true l.atom.0 n (all_member (λ x. nat_lt x.atom.0 n) ls l i h)

pub pre_of_atoms : (g : Ground) → IsOfItsAtoms g → (a : Action) (l : Lit) → Member g.actions a → Member a.pre l → l.atom.0 < length g.atoms
pre_of_atoms g of_atoms a l in-acts in-pre =
    let n = length g.atoms in
    below_at n a.pre (and_parts (are_below n a.pre) (list_all (effect_below n) a.effects) (all_member (action_below n) g.actions a in-acts of_atoms.actions)).0 l in-pre

pub goal_of_atoms : (g : Ground) → IsOfItsAtoms g → (l : Lit) → Member g.goal l → l.atom.0 < length g.atoms
goal_of_atoms g of_atoms l in-goal = below_at (length g.atoms) g.goal of_atoms.goal l in-goal

condition_of_atoms : (g : Ground) → IsOfItsAtoms g → (l m : Lit) → IsConditionOf g.actions l m → l.atom.0 < length g.atoms
condition_of_atoms g of_atoms l m c =
    let n = length g.atoms in
    let of_action = and_parts (are_below n c.action.pre) (list_all (effect_below n) c.action.effects) (all_member (action_below n) g.actions c.action c.action_in of_atoms.actions) in
    let of_effect = and_parts (nat_lt c.effect.result.atom.0 n) (are_below n c.effect.cond) (all_member (effect_below n) c.action.effects c.effect c.effect_in of_action.1) in
    below_at n c.effect.cond of_effect.1 l c.condition

-- what is relevant to a literal of the atoms is of the atoms
pub relevant_of_atoms : (g : Ground) → IsOfItsAtoms g → (l m : Lit) → IsRelevant g.actions l m → m.atom.0 < length g.atoms → l.atom.0 < length g.atoms
relevant_of_atoms g of_atoms _ _ (IsRelevant.itself l) below = below
relevant_of_atoms g of_atoms _ _ (IsRelevant.condition l m c) below = condition_of_atoms g of_atoms l m c
relevant_of_atoms g of_atoms _ _ (IsRelevant.onward l m n p q) below = relevant_of_atoms g of_atoms l m p (relevant_of_atoms g of_atoms m n q below)
relevant_of_atoms g of_atoms _ _ (IsRelevant.negation l m p) below = relevant_of_atoms g of_atoms l m p below
