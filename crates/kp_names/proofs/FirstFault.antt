-- The first fault is what its name says, and what is noted one by one.
use Rattle.std.proofs.Common.{◌≡◌, ◌≤◌, ℕ, Bool, true, false, if◌then◌else◌, List, [], ◌∷◌, nat_lt, Option, Some, None, Result, Ok, Err, refl, sym, ap, ap₂, ◌∙◌, inl, inr, subst, arith, ltb-true, ltb-false}
use Rattle.kp_base.specs.declared.refused.Part.{Part}
use Rattle.kp_base.specs.declared.refused.Part.TheVariants as parts
use Rattle.kp_base.specs.declared.refused.Stop.{Stop}
use Rattle.kp_base.specs.declared.refused.Stop.TheVariants as stops
use Rattle.kp_tree_grammar.specs.declared.tree.Word.{Word}
use Rattle.kp_tree_grammar.specs.Trees.{Domain, Problem}
use Rattle.kp_names_semantics.specs.Faults.{Fault, byte_of, IsFirst, HasNoFault, domain_faults, problem_faults}
use Rattle.kp_names.specs.Resolved.{earlier, first_fault, refusal_of, RefusesNames, in_domain, in_problem, unsure_place, IsResolved, AnswersNames}
use Rattle.kp_names_semantics.specs.Numbering.{numbered_problem}
use Rattle.kp_names_numbered.specs.declared.lifted.Lifted.{Lifted}
use Rattle.kp_names_numbered.specs.View.{lifted_view}
use Rattle.kp_names.specs.Noted.{noted, sooner, Refuses, Judges, JudgesBoth}

-- ---- what is called the first fault is the first

pub none_there : (fs : List Fault) → first_fault fs ≡ None → fs ≡ []
none_there [] h = refl
none_there (f ∷ fs) h = cc

pub is_first : (fs : List Fault) (f : Fault) → first_fault fs ≡ Some f → IsFirst fs f
is_first [] f h = cc
is_first (g ∷ gs) f h = by (λ r e. is_first gs r e) (first_fault gs) refl
  where
    alone : gs ≡ [] → g ≡ f → IsFirst (g ∷ gs) f
    alone e i = subst (λ l. IsFirst (g ∷ l) f) (sym e) (subst (IsFirst (g ∷ [])) i (record { among = inl refl; least = λ k m. elim m [ inl q ↦ subst (λ z. byte_of g ≤ byte_of z) q (omega arith) | inr q ↦ absurd q ] }))

    beside : (r : Fault) → IsFirst gs r → (b : Bool) → nat_lt (byte_of r) (byte_of g) ≡ b → (if b then r else g) ≡ f → IsFirst (g ∷ gs) f
    beside r first true lt i = subst (IsFirst (g ∷ gs)) i (record {
      among = inr first.among;
      least = λ k m. elim m [ inl q ↦ subst (λ z. byte_of r ≤ byte_of z) q (let below = ltb-true (byte_of r) (byte_of g) lt in omega arith) | inr q ↦ first.least k q ];
    })
    beside r first false lt i = subst (IsFirst (g ∷ gs)) i (record {
      among = inl refl;
      least = λ k m. elim m [ inl q ↦ subst (λ z. byte_of g ≤ byte_of z) q (omega arith) | inr q ↦ (let least = first.least k q in let above = ltb-false (byte_of r) (byte_of g) lt in omega arith) ];
    })

    some : (x y : Fault) → Some x ≡ Some y → x ≡ y
    some x y e = cc

    by : ((r : Fault) → first_fault gs ≡ Some r → IsFirst gs r) → (o : Option Fault) → first_fault gs ≡ o → IsFirst (g ∷ gs) f
    by rest None e = alone (none_there gs e) (some g f (sym (ap (λ o. Some (earlier g o)) e) ∙ h))
    by rest (Some r) e = beside r (rest r e) (nat_lt (byte_of r) (byte_of g)) refl (some (earlier g (Some r)) f (sym (ap (λ o. Some (earlier g o)) e) ∙ h))

-- ---- what is noted one by one

-- of two, the one that stands first
abbrev both : Option Fault → Option Fault → Option Fault
both None o = o
both (Some f) o = Some (earlier f o)

three : (f g h : Fault) → earlier (earlier f (Some g)) (Some h) ≡ earlier f (Some (earlier g (Some h)))
three f g h = by (nat_lt (byte_of g) (byte_of f)) (nat_lt (byte_of h) (byte_of g)) (nat_lt (byte_of h) (byte_of f)) refl refl refl
  where
    by : (a b c : Bool) → nat_lt (byte_of g) (byte_of f) ≡ a → nat_lt (byte_of h) (byte_of g) ≡ b → nat_lt (byte_of h) (byte_of f) ≡ c
        → earlier (earlier f (Some g)) (Some h) ≡ earlier f (Some (earlier g (Some h)))
    by true true true u v w = simp (u, v, w)
    by true true false u v w = absurd (let x = ltb-true (byte_of g) (byte_of f) u in let y = ltb-true (byte_of h) (byte_of g) v in let z = ltb-false (byte_of h) (byte_of f) w in omega arith)
    by true false c u v w = simp (u, v)
    by false true c u v w = simp (u, v)
    by false false true u v w = absurd (let x = ltb-false (byte_of g) (byte_of f) u in let y = ltb-false (byte_of h) (byte_of g) v in let z = ltb-true (byte_of h) (byte_of f) w in omega arith)
    by false false false u v w = simp (u, v, w)

joined : (a b c : Option Fault) → both (both a b) c ≡ both a (both b c)
joined None b c = refl
joined (Some f) None c = refl
joined (Some f) (Some g) None = refl
joined (Some f) (Some g) (Some h) = ap Some (three f g h)

one_noted : (o : Option Fault) (f : Fault) → sooner o f ≡ both o (Some f)
one_noted None f = refl
one_noted (Some g) f = by (nat_lt (byte_of f) (byte_of g))
  where
    by : (b : Bool) → (if b then Some f else Some g) ≡ Some (if b then f else g)
    by true = refl
    by false = refl

noted_both : (o : Option Fault) (fs : List Fault) → noted o fs ≡ both o (first_fault fs)
noted_both None [] = refl
noted_both (Some f) [] = refl
noted_both o (f ∷ fs) = noted_both (sooner o f) fs ∙ (ap (λ x. both x (first_fault fs)) (one_noted o f) ∙ joined o (Some f) (first_fault fs))

-- with none at the start, the first is found
pub noted_first : (fs : List Fault) → noted None fs ≡ first_fault fs
noted_first fs = noted_both None fs

-- ---- refusals

pub judged : {T : Type 0} (part : Part) (text : List ℕ) (o : Option Fault) (fs : List Fault) (r : Result T Stop) → o ≡ noted None fs → Refuses part text o r → Judges part text fs r
judged part text o fs (Ok x) e h = none_there fs (sym (noted_first fs) ∙ (sym e ∙ h))
judged part text o fs (Err stops.Memory) e h = tt
judged part text o fs (Err (stops.Refused r)) e h = (h.0, (sym (noted_first fs) ∙ (sym e ∙ h.1.0), h.1.1))

-- the domain is refused
pub domain_refused : (T U : Type 0) (s t u : List ℕ) (fs : List Fault) (d : Domain Word) (p : Problem Word) (e : Stop) → s ≡ t → fs ≡ domain_faults d p → Judges {T = T} parts.Domain s fs (Err e) → JudgesBoth {T = U} t u d p (Err e)
domain_refused T U s t u fs d p stops.Memory text faults h = tt
domain_refused T U s t u fs d p (stops.Refused r) text faults h =
    let found = sym (ap first_fault faults) ∙ h.1.0 in
    let is : r ≡ refusal_of parts.Domain t h.0 = h.1.1 ∙ ap (λ x. refusal_of parts.Domain x h.0) text in
    subst (RefusesNames t u d p) (sym is) (in_domain h.0 found)

-- the domain has no fault, and so the problem decides
pub problem_judged : {T : Type 0} (t u : List ℕ) (d : Domain Word) (p : Problem Word) (r : Result T Stop) → domain_faults d p ≡ [] → Judges parts.Problem u (problem_faults d p) r → JudgesBoth t u d p r
problem_judged t u d p (Ok x) e h = record { domain = e; problem = h }
problem_judged t u d p (Err stops.Memory) e h = tt
problem_judged t u d p (Err (stops.Refused r)) e h = subst (RefusesNames t u d p) (sym h.1.1) (in_problem h.0 e h.1.0)

-- what is refused is answered so
pub refused : (T : Type 0) (t u : List ℕ) (D d : Domain Word) (P p : Problem Word) (e : Stop) → D ≡ d → P ≡ p → JudgesBoth {T = T} t u D P (Err e) → AnswersNames t u d p (Err e)
refused T t u D d P p stops.Memory f g h = tt
refused T t u D d P p (stops.Refused r) f g h = subst (λ x. RefusesNames t u x p r) f (subst (λ y. RefusesNames t u D y r) g h)

-- and what has no fault and is numbered
pub answered : (u : List ℕ) (D d : Domain Word) (P p : Problem Word) (l : Lifted) → D ≡ d → P ≡ p → HasNoFault D P → lifted_view l ≡ numbered_problem D P → l.unsure ≡ unsure_place u P → IsResolved u d p l
answered u D d P p l f g h n s = record {
  no_fault = subst (λ x. HasNoFault x p) f (subst (λ y. HasNoFault D y) g h);
  numbered = n ∙ ap₂ numbered_problem f g;
  unsure = s ∙ ap (unsure_place u) g;
}
