-- What bears on a fact is a fact.
use Rattle.std.proofs.Common.{◌≡◌, ◌<◌, ◌&&◌, ◌||◌, ℕ, Bool, true, List, length, nat_eq, eq-eqb, refl, sym, ap, ap₂, subst, ◌∙◌, arith, inl, inr, nat_lt, ltb-true}
use Rattle.std.proofs.lemmas.Bool.{and_parts, and_from, or_cases, or_left, or_right}
use Rattle.std.specs.List.{list_any}
use Rattle.kp_base.specs.declared.lit.Lit.{Lit}
use Rattle.kp_base.specs.declared.ground.Effect.{Effect}
use Rattle.kp_base.specs.declared.ground.Action.{Action}
use Rattle.kp_base.specs.declared.ground.Ground.{Ground}
use Rattle.kp_base.specs.declared.ground.TagTable.{TagTable}
use Rattle.kp_base.specs.declared.ground.Merge.{Merge}
use Rattle.kp_base.specs.Lists.{Member}
use Rattle.kp_base.specs.Lit.{negated}
use Rattle.kp_base.specs.Relevance.{IsRelevant}
use Rattle.kp_base.specs.Linked.{ActsOnItsAtoms}
use Rattle.kp_base.specs.Matters.{Matters, under_tag_0, to_merge, facts_of, is_fact}
use Rattle.kp_base.specs.Facts.{AreFactsOf, FactsAreClosed}
use Rattle.kp_base.proofs.FactsListed.{facts_are_told, list_of_facts}
use Rattle.kp_base.proofs.LitsBelow.{condition_below, relevant_below}

-- what is relevant to what matters matters
goes_back : (g : Ground) (table : TagTable) (t : ℕ) (l k : Lit) → IsRelevant g.actions l k → Matters g table t k → Matters g table t l
goes_back g table _ l _ r (under_tag_0 k) = under_tag_0 l
goes_back g table _ l _ r (to_merge t k m in_merges in_tags q) = to_merge t l m in_merges in_tags (IsRelevant.onward l k m.target r q)

module _ (g : Ground) (table : TagTable) (acts_on : ActsOnItsAtoms g) where
  told : AreFactsOf g table (facts_of g table)
  told = facts_are_told g table acts_on

  back : (t : ℕ) (l k : Lit) → l.atom.0 < length g.atoms → IsRelevant g.actions l k → is_fact (facts_of g table) t k ≡ true → is_fact (facts_of g table) t l ≡ true
  back t l k of_atom r h =
      let it = list_of_facts g table t k h in
      (told.exact t l it.0 of_atom).1 (goes_back g table t l k r ((told.exact t k it.0 it.1).0 h))

-- what is relevant to a fact's literal is a fact under the same tag
pub relevant_facts : (g : Ground) (table : TagTable) → ActsOnItsAtoms g → (t : ℕ) (l k : Lit) → IsRelevant g.actions l k → is_fact (facts_of g table) t k ≡ true → is_fact (facts_of g table) t l ≡ true
relevant_facts g table acts_on t l k r h =
    let it = list_of_facts g table t k h in
    back g table acts_on t l k (relevant_below g acts_on l k r it.1) r h

pub facts_are_closed : FactsAreClosed
facts_are_closed g table some_tag acts_on = record {
  under_tag_0 = λ l of_atom. ((told g table acts_on).exact 0 l some_tag of_atom).1 (under_tag_0 l);
  merged = λ m t in_merges in_tags below of_atom. ((told g table acts_on).exact t m.target below of_atom).1 (to_merge t m.target m in_merges in_tags (IsRelevant.itself m.target));
  supported = λ t a e c in_acts in_effects in_cond h. back g table acts_on t c e.result (condition_below g acts_on a e c in_acts in_effects in_cond) (IsRelevant.condition c e.result (record { action = a; effect = e; action_in = in_acts; effect_in = in_effects; condition = in_cond; result = refl })) h;
  cancelled = λ t a e c in_acts in_effects in_cond h. back g table acts_on t (negated c) (negated e.result) (condition_below g acts_on a e c in_acts in_effects in_cond) (IsRelevant.negation c e.result (IsRelevant.condition c e.result (record { action = a; effect = e; action_in = in_acts; effect_in = in_effects; condition = in_cond; result = refl }))) h;
}
