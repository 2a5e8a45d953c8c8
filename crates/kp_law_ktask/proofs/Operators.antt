-- An operator does to the facts of each tag what its action does to the machine's facts of that tag.
use Rattle.std.proofs.Common.{◌≡◌, ◌<◌, ◌≤◌, ◌+◌, ◌^◌, ℕ, zero, suc, Bool, true, false, not, ◌&&◌, ◌||◌, List, [], ◌∷◌, ◌++◌, map, refl, sym, ap, ◌∙◌, arith}
use Rattle.std.specs.Bool.{beq}
use Rattle.std.specs.List.{AllByRecursion, IsDistinct, list_all, flat_map}
use Rattle.kp_base.specs.declared.lit.Lit.{Lit}
use Rattle.kp_base.specs.declared.ground.GroundName.{GroundName}
use Rattle.kp_base.specs.declared.ground.Effect.{Effect}
use Rattle.kp_base.specs.declared.ground.Action.{Action}
use Rattle.kp_base.specs.Planning.{negated, same_lit, only_if, fires, Known, facts_after}
use Rattle.kp_base.specs.Steps as steps
use Rattle.kp_base.proofs.Sets.{all-set_of}
use Rattle.kp_names_semantics.specs.Names.{same}
use Rattle.kp_names_semantics.specs.GroundNames.{IsGroundName, same_name}
use Rattle.kp_write.specs.Operators.{Signed, Effect as TaskEffect}
use Rattle.kp_write.specs.Facts.{fact_of, opposites, known, support, cancellation}
use Rattle.kp_write.specs.Grounds.{IsOfAtom, AreOfAtoms, IsGroundEffect, IsGroundAction}
use Rattle.kp_write.specs.Runs.{Facts, is_so, is_made, after_op}
use Rattle.kp_write.proofs.Public.{opposites_are_of_atoms, made_by_first_or_later}
use Rattle.kp_law_tagged_machine.specs.Laws.{is_cancelled}
use Rattle.kp_law_tagged_machine.proofs.Public.{operators_are_exact}
use Rattle.kp_law_ktask.specs.ByName.{effects_under, effects_from, op_of}
use Rattle.kp_law_ktask.proofs.Facts.{same_fact-turned, other_fact}

-- negations of literals all pass where the literals' negations do
all_opposites : (k : Lit → Bool) (ls : List Lit) → list_all k (opposites ls) ≡ list_all (λ l. k (negated l)) ls
all_opposites k ls = all-set_of k (map negated ls) ∙ negations ls
  where
    negations : (ls : List Lit) → list_all k (map negated ls) ≡ list_all (λ l. k (negated l)) ls
    negations [] = refl
    negations (l ∷ ls) = ap (λ t. k (negated l) && t) (negations ls)

-- what effects make of facts
abbrev pub fired : Facts → List TaskEffect → List Signed
fired s es = flat_map (λ e. only_if (list_all (is_so s) e.conds) (e.result ∷ [])) es

-- what is made by one of two lists of effects
made_append : (s : Facts) (xs ys : List TaskEffect) (holds : Bool) (n : List ℕ) → is_made (fired s (xs ++ ys)) holds n ≡ (is_made (fired s xs) holds n || is_made (fired s ys) holds n)
made_append s [] ys holds n = refl
made_append s (x ∷ xs) ys holds n =
    made_by_first_or_later (list_all (is_so s) x.conds) x.result (fired s (xs ++ ys)) holds n
    ∙ ap (λ t. (list_all (is_so s) x.conds && (beq holds x.result.holds && same n x.result.fact)) || t) (made_append s xs ys holds n)
    ∙ assoc (list_all (is_so s) x.conds && (beq holds x.result.holds && same n x.result.fact)) (is_made (fired s xs) holds n) (is_made (fired s ys) holds n)
    ∙ ap (λ t. t || is_made (fired s ys) holds n) (sym (made_by_first_or_later (list_all (is_so s) x.conds) x.result (fired s xs) holds n))
  where
    assoc : (a b c : Bool) → (a || (b || c)) ≡ ((a || b) || c)
    assoc true b c = refl
    assoc false b c = refl

module _ (atoms : List GroundName) (names : AllByRecursion IsGroundName atoms) (differ : IsDistinct same_name atoms) where
  -- the fact of each literal of an atom under the tag holds where the machine knows the literal
  abbrev pub Agree : ℕ → Facts → steps.Valuation → Type 0
  Agree t s k = (l : Lit) → IsOfAtom atoms l → s (fact_of atoms t l) ≡ k l

  -- what the effects of an action make under one tag
  abbrev made : Facts → ℕ → List Effect → List Signed
  made s t es = fired s (flat_map (effects_under atoms t) es)

  -- both effects of an effect, and the later ones
  made_by : (s : Facts) (t : ℕ) (e : Effect) (es : List Effect) (holds : Bool) (n : List ℕ) → is_made (made s t (e ∷ es)) holds n
      ≡ ((list_all (is_so s) (support atoms t e).conds && (beq holds true && same n (fact_of atoms t e.result)))
      || ((list_all (is_so s) (cancellation atoms t e).conds && (beq holds false && same n (fact_of atoms t (negated e.result)))) || is_made (made s t es) holds n))
  made_by s t e es holds n =
      made_by_first_or_later (list_all (is_so s) (support atoms t e).conds) (support atoms t e).result (only_if (list_all (is_so s) (cancellation atoms t e).conds) ((cancellation atoms t e).result ∷ []) ++ made s t es) holds n
      ∙ ap (λ x. (list_all (is_so s) (support atoms t e).conds && (beq holds true && same n (fact_of atoms t e.result))) || x)
      (made_by_first_or_later (list_all (is_so s) (cancellation atoms t e).conds) (cancellation atoms t e).result (made s t es) holds n)

  -- effects under one tag make nothing of another
  elsewhere : (s : Facts) (t u : ℕ) → t < 2 ^ 64 → u < 2 ^ 64 → (u ≡ t → ⊥) → (es : List Effect) → AllByRecursion (IsGroundEffect atoms) es → (holds : Bool) (l : Lit) → IsOfAtom atoms l → is_made (made s t es) holds (fact_of atoms u l) ≡ false
  elsewhere s t u p q apart [] h holds l b = refl
  elsewhere s t u p q apart (e ∷ es) h holds l b =
      made_by s t e es holds (fact_of atoms u l)
      ∙ rw (other_fact atoms names differ u t q p apart l e.result b h.0.result, other_fact atoms names differ u t q p apart l (negated e.result) b h.0.result, elsewhere s t u p q apart es h.1 holds l b)
      (bools (list_all (is_so s) (support atoms t e).conds) (beq holds true) (list_all (is_so s) (cancellation atoms t e).conds) (beq holds false))
    where
      bools : (a b c d : Bool) → ((a && (b && false)) || ((c && (d && false)) || false)) ≡ false
      bools true true true true = refl
      bools true true true false = refl
      bools true true false d = refl
      bools true false true true = refl
      bools true false true false = refl
      bools true false false d = refl
      bools false b true true = refl
      bools false b true false = refl
      bools false b false d = refl

  module _ (t : ℕ) (fits : t < 2 ^ 64) (s : Facts) (k : steps.Valuation) (agree : Agree t s k) where
    pub facts_hold : (ls : List Lit) → AreOfAtoms atoms ls → list_all s (map (fact_of atoms t) ls) ≡ list_all k ls
    facts_hold [] h = refl
    facts_hold (l ∷ ls) h = rw (agree l h.0, facts_hold ls h.1) refl

    are_known : (ls : List Lit) → AreOfAtoms atoms ls → list_all (is_so s) (map (known atoms t true) ls) ≡ list_all k ls
    are_known [] h = refl
    are_known (l ∷ ls) h = rw (agree l h.0, are_known ls h.1) refl

    are_unknown : (ls : List Lit) → AreOfAtoms atoms ls → list_all (is_so s) (map (known atoms t false) ls) ≡ list_all (λ l. not (k l)) ls
    are_unknown [] h = refl
    are_unknown (l ∷ ls) h = rw (agree l h.0, are_unknown ls h.1) refl

    opposites_unknown : (ls : List Lit) → AreOfAtoms atoms ls → list_all (is_so s) (map (known atoms t false) (opposites ls)) ≡ list_all (λ l. not (k (negated l))) ls
    opposites_unknown ls h = are_unknown (opposites ls) (opposites_are_of_atoms atoms ls h) ∙ all_opposites (λ l. not (k l)) ls

    supported : (es : List Effect) → AllByRecursion (IsGroundEffect atoms) es → (l : Lit) → IsOfAtom atoms l → is_made (made s t es) true (fact_of atoms t l) ≡ fires es k l
    supported [] h l b = refl
    supported (e ∷ es) h l b =
        made_by s t e es true (fact_of atoms t l)
        ∙ rw (are_known e.cond h.0.conds, same_fact-turned atoms names differ t fits l e.result b h.0.result, supported es h.1 l b)
        (bools (list_all k e.cond) (same_lit e.result l) (list_all (is_so s) (cancellation atoms t e).conds) (fires es k l))
      where
        bools : (a b c d : Bool) → ((a && b) || ((c && false) || d)) ≡ ((b && a) || d)
        bools true true c d = refl
        bools false true true d = refl
        bools false true false d = refl
        bools true false true d = refl
        bools true false false d = refl
        bools false false true d = refl
        bools false false false d = refl

    cancelled : (es : List Effect) → AllByRecursion (IsGroundEffect atoms) es → (l : Lit) → IsOfAtom atoms l → is_made (made s t es) false (fact_of atoms t l) ≡ is_cancelled es k l
    cancelled [] h l b = refl
    cancelled (e ∷ es) h l b =
        made_by s t e es false (fact_of atoms t l)
        ∙ rw (opposites_unknown e.cond h.0.conds, same_fact-turned atoms names differ t fits l (negated e.result) b h.0.result, cancelled es h.1 l b)
        (bools (list_all (λ c. not (k (negated c))) e.cond) (same_lit (negated e.result) l) (list_all (is_so s) (support atoms t e).conds) (is_cancelled es k l))
      where
        bools : (a b c d : Bool) → ((c && false) || ((a && b) || d)) ≡ ((b && a) || d)
        bools true true true d = refl
        bools true true false d = refl
        bools false true true d = refl
        bools false true false d = refl
        bools true false true d = refl
        bools true false false d = refl
        bools false false true d = refl
        bools false false false d = refl

  -- ---- all tags

  -- the effects of later tags make nothing of an earlier one
  none : (s : Facts) (t n u : ℕ) → u < t → t + n ≤ 2 ^ 64 → (es : List Effect) → AllByRecursion (IsGroundEffect atoms) es → (holds : Bool) (l : Lit) → IsOfAtom atoms l → is_made (fired s (effects_from atoms t n es)) holds (fact_of atoms u l) ≡ false
  none s t zero u below fit es h holds l b = refl
  none s t (suc n) u below fit es h holds l b =
      made_append s (flat_map (effects_under atoms t) es) (effects_from atoms (suc t) n es) holds (fact_of atoms u l)
      ∙ rw (elsewhere s t u (omega (arith, below, fit)) (omega (arith, below, fit)) (λ e. omega (arith, below, e)) es h holds l b, none s (suc t) n u (omega (arith, below)) (omega (arith, fit)) es h holds l b) refl

  -- of a tag, its own effects alone make something
  own : (s : Facts) (t n d u : ℕ) → u ≡ t + d → d < n → t + n ≤ 2 ^ 64 → (es : List Effect) → AllByRecursion (IsGroundEffect atoms) es → (holds : Bool) (l : Lit) → IsOfAtom atoms l → is_made (fired s (effects_from atoms t n es)) holds (fact_of atoms u l) ≡ is_made (made s u es) holds (fact_of atoms u l)
  own s t zero d u e less fit es h holds l b = absurd (omega (arith, less))
  own s t (suc n) zero u e less fit es h holds l b =
      let here : t ≡ u = omega (arith, e) in
      made_append s (flat_map (effects_under atoms t) es) (effects_from atoms (suc t) n es) holds (fact_of atoms u l)
      ∙ rw (none s (suc t) n u (omega (arith, e)) (omega (arith, fit)) es h holds l b)
      (or_false (is_made (made s t es) holds (fact_of atoms u l)) ∙ ap (λ x. is_made (made s x es) holds (fact_of atoms u l)) here)
    where
      or_false : (a : Bool) → (a || false) ≡ a
      or_false true = refl
      or_false false = refl
  own s t (suc n) (suc d) u e less fit es h holds l b =
      made_append s (flat_map (effects_under atoms t) es) (effects_from atoms (suc t) n es) holds (fact_of atoms u l)
      ∙ rw (elsewhere s t u (omega (arith, e, less, fit)) (omega (arith, e, less, fit)) (λ x. omega (arith, x, e)) es h holds l b)
      (own s (suc t) n d u (omega (arith, e)) (omega (arith, less)) (omega (arith, fit)) es h holds l b)

  -- the facts of each tag hold where the machine knows their literals under it
  abbrev pub AgreeBelow : ℕ → Facts → Known → Type 0
  AgreeBelow tags s k = (t : ℕ) → t < tags → Agree t s (k t)

  -- so they do after an action
  pub goes_on : (tags : ℕ) → tags < 2 ^ 64 → (s : Facts) (k : Known) → AgreeBelow tags s k → (a : Action) → IsGroundAction atoms a → AgreeBelow tags (after_op (op_of atoms tags a) s) (λ t. facts_after a (k t))
  goes_on tags fit s k agree a h u below l b =
      let p : u < 2 ^ 64 = omega (arith, below, fit) in
      rw (own s 0 tags u u (omega arith) below (omega (arith, fit)) a.effects h.effects true l b, own s 0 tags u u (omega arith) below (omega (arith, fit)) a.effects h.effects false l b, supported u p s (k u) (agree u below) a.effects h.effects l b, cancelled u p s (k u) (agree u below) a.effects h.effects l b, agree u below l b)
      (operators_are_exact a (k u) l)
