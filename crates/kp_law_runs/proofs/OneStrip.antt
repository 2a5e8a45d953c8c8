-- A text has one strip, or one refusal.
use Rattle.std.proofs.Common.{◌≡◌, ◌++◌, ℕ, List, [], ◌∷◌, Option, Some, None, option_map, IsSome, is_some, arith, refl, sym, ap, ◌∙◌, subst}
use Rattle.std.specs.Option.{option_and_then}
use Rattle.std.proofs.lemmas.Bool.{false≢true}
use Rattle.kp_base.specs.declared.ground.GroundName.{GroundName}
use Rattle.kp_base.specs.declared.refused.Refused.TheVariants as refusals
use Rattle.kp_names_semantics.specs.Strip.{stripped, strip}
use Rattle.kp_run_outcome.specs.declared.outcome.Outcome.{Outcome}
use Rattle.kp_run_outcome.specs.Printing.{prints}
use Rattle.kp_plans.specs.declared.step.PlanStep.{PlanStep}
use Rattle.kp_plans.specs.PlanFiles.{step_names}
use Rattle.kp_plans.specs.Printed.{plan_text}
use Rattle.kp_plans.specs.Stripping.{IsFirstUnstripped}
use Rattle.kp_plans.proofs.Public.{plans_read_once, plans_refuse_once, plans_never_both}
use Rattle.kp_run_messages.specs.Refusals.{nothing}
use Rattle.kp_run_prepare.specs.Refusing.{refuses}
use Rattle.kp_run.specs.Strip.{StripsText, too_long, no_plan, no_strip, strips}

-- ---- the first step without a strip

-- steps of which the first is no operator's have no strip
none_first : (n : GroundName) (ns : List GroundName) → stripped n.head n.objects ≡ None → strip (n ∷ ns) ≡ None
none_first n ns none = ap (option_and_then (λ front. option_map (λ rest. front ++ rest) (strip ns))) none

-- nor have steps of which the others have none
none_behind : (n : GroundName) (ns : List GroundName) → strip ns ≡ None → strip (n ∷ ns) ≡ None
none_behind n ns none = by (stripped n.head n.objects) (strip ns) none
  where
    by : (o : Option (List GroundName)) (p : Option (List GroundName)) → p ≡ None → option_and_then (λ front. option_map (λ rest. front ++ rest) p) o ≡ None
    by None p e = refl
    by (Some front) p e = ap (option_map (λ rest. front ++ rest)) e

none_among : (before : List PlanStep) (s : PlanStep) (after : List PlanStep) → stripped s.name.head s.name.objects ≡ None → strip (step_names (before ++ (s ∷ after))) ≡ None
none_among [] s after none = none_first s.name (step_names after) none
none_among (b ∷ bs) s after none = none_behind b.name (step_names (bs ++ (s ∷ after))) (none_among bs s after none)

no_some : (o : Option (List GroundName)) → o ≡ None → IsSome o → ⊥
no_some o e some = false≢true (sym (ap is_some e) ∙ some)

-- what is stripped behind a first step
some_behind : (n : GroundName) (ns : List GroundName) → IsSome (strip (n ∷ ns)) → IsSome (strip ns)
some_behind n ns some = by (strip ns) refl
  where
    by : (p : Option (List GroundName)) → strip ns ≡ p → IsSome (strip ns)
    by None e = absurd (no_some (strip (n ∷ ns)) (none_behind n ns e) some)
    by (Some x) e = rw e refl

first_once : (xs ys : List PlanStep) (a b : PlanStep) (us vs : List PlanStep) → xs ++ (a ∷ us) ≡ ys ++ (b ∷ vs) → IsSome (strip (step_names xs)) → IsSome (strip (step_names ys))
    → stripped a.name.head a.name.objects ≡ None → stripped b.name.head b.name.objects ≡ None → a ≡ b
first_once [] [] a b us vs e s t n m = let same : a ≡ b = cc in same
first_once [] (y ∷ ys) a b us vs e s t n m = absurd (let same : a ≡ y = cc in no_some (strip (step_names (y ∷ ys))) (none_first y.name (step_names ys) (subst (λ (z : PlanStep). stripped z.name.head z.name.objects ≡ None) same n)) t)
first_once (x ∷ xs) [] a b us vs e s t n m = absurd (let same : b ≡ x = cc in no_some (strip (step_names (x ∷ xs))) (none_first x.name (step_names xs) (subst (λ (z : PlanStep). stripped z.name.head z.name.objects ≡ None) same m)) s)
first_once (x ∷ xs) (y ∷ ys) a b us vs e s t n m = let rest : xs ++ (a ∷ us) ≡ ys ++ (b ∷ vs) = cc in first_once xs ys a b us vs rest (some_behind x.name (step_names xs) s) (some_behind y.name (step_names ys) t) n m

one_first : (steps : List PlanStep) (a b : PlanStep) → IsFirstUnstripped steps a → IsFirstUnstripped steps b → a ≡ b
one_first steps a b h k = first_once h.before k.before a b h.after k.after (sym h.is ∙ k.is) h.stripped_before k.stripped_before h.not_stripped k.not_stripped

never_stripped : (steps : List PlanStep) (s : PlanStep) (actions : List GroundName) → IsFirstUnstripped steps s → strip (step_names steps) ≡ Some actions → ⊥
never_stripped steps s actions h is = absurd (let none = ap (λ ss. strip (step_names ss)) h.is ∙ none_among h.before s h.after h.not_stripped in cc (none, is))

-- ---- one outcome

pub strips_once : (text : List ℕ) (o u : Outcome) → StripsText text o → StripsText text u → o ≡ u
strips_once text o u (too_long a e) (too_long b f) = e ∙ sym f
strips_once text o u (too_long a e) (no_plan r b c f) = absurd (omega (arith, a, b))
strips_once text o u (too_long a e) (no_strip ss s b c d f) = absurd (omega (arith, a, b))
strips_once text o u (too_long a e) (strips ss as' b c d f) = absurd (omega (arith, a, b))
strips_once text o u (no_plan r a h e) (too_long b f) = absurd (omega (arith, a, b))
strips_once text o u (no_plan r a h e) (no_plan s b k f) = e ∙ (ap (refuses nothing) (plans_refuse_once text r s h k) ∙ sym f)
strips_once text o u (no_plan r a h e) (no_strip ss s b k d f) = absurd (plans_never_both text ss r k h)
strips_once text o u (no_plan r a h e) (strips ss as' b k d f) = absurd (plans_never_both text ss r k h)
strips_once text o u (no_strip ss s a h n e) (too_long b f) = absurd (omega (arith, a, b))
strips_once text o u (no_strip ss s a h n e) (no_plan r b k f) = absurd (plans_never_both text ss r h k)
strips_once text o u (no_strip ss s a h n e) (no_strip ts t b k m f) =
    let same = plans_read_once text ss ts h k in
    let one = one_first ts s t (subst (λ z. IsFirstUnstripped z s) same n) m in
    e ∙ (ap (λ (z : PlanStep). refuses nothing (refusals.PlanSyntax z.place)) one ∙ sym f)
strips_once text o u (no_strip ss s a h n e) (strips ts as' b k m f) = absurd (never_stripped ts s as' (subst (λ z. IsFirstUnstripped z s) (plans_read_once text ss ts h k) n) m)
strips_once text o u (strips ss as' a h n e) (too_long b f) = absurd (omega (arith, a, b))
strips_once text o u (strips ss as' a h n e) (no_plan r b k f) = absurd (plans_never_both text ss r h k)
strips_once text o u (strips ss as' a h n e) (no_strip ts t b k m f) = absurd (never_stripped ts t as' m (subst (λ z. strip (step_names z) ≡ Some as') (plans_read_once text ss ts h k) n))
strips_once text o u (strips ss as' a h n e) (strips ts bs b k m f) =
    let there = subst (λ z. strip (step_names z) ≡ Some as') (plans_read_once text ss ts h k) n in
    let one : as' ≡ bs = cc (there, m) in
    e ∙ (ap (λ z. prints (plan_text z)) one ∙ sym f)
