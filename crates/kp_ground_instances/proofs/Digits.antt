-- The list of a number, made from its digits.
use Rattle.std.proofs.Common.{◌≡◌, ℕ, zero, suc, ◌+◌, ◌-◌, ◌/◌, ◌%◌, ◌<◌, ◌≤◌, List, [], ◌∷◌, ◌++◌, length, map, take, get_or, slice_get, Option, Some, None, option_map, refl, sym, ap, subst, ◌∙◌, arith, append_assoc}
use Rattle.std.proofs.lemmas.List.{map-append, take_more}
use Rattle.kp_names_semantics.specs.declared.lifted.Range.{Range}
use Rattle.kp_names_semantics.specs.Lifted.{Binding, bindings}
use Rattle.kp_base.specs.Lists.{choices}
use Rattle.kp_base.proofs.Places.{none_past}
use Rattle.kp_ground_instances.proofs.Choices.{last_digit, none_last}

-- the objects of a range
abbrev pub objects : Range → List ℕ
objects r = r.objects

-- the first ranges' choices have the number `rest`, and those of the others are known
pub record IsLeft (rs : List Range) (n left rest : ℕ) (known : List ℕ) : Type 0 where
  pub within : left ≤ length rs
  pub at : slice_get (bindings rs) n ≡ option_map (λ p. p ++ known) (slice_get (bindings (take left rs)) rest)

-- ---- one digit

pub one_more : (rs : List Range) (k : ℕ) (r : Range) → k < length rs → r ≡ get_or rs k r → bindings (take (k + 1) rs) ≡ choices (map objects (take k rs) ++ r.objects ∷ [])
one_more rs k r h is = ap bindings (take_more rs k r h) ∙ (ap choices (map-append objects (take k rs) (get_or rs k r ∷ [])) ∙ ap (λ x. choices (map objects (take k rs) ++ objects x ∷ [])) (sym is))

-- the range of the next digit has objects
has_objects : (rs : List Range) (n k rest : ℕ) (known : List ℕ) (r : Range) → n < length (bindings rs) → IsLeft rs n (k + 1) rest known → k < length rs → r ≡ get_or rs k r → 0 < length r.objects
has_objects rs n k rest known r short h lt is = by r.objects (one_more rs k r lt is)
  where
    by : (os : List ℕ) → bindings (take (k + 1) rs) ≡ choices (map objects (take k rs) ++ os ∷ []) → 0 < length os
    by [] e = absurd (none_past (bindings rs) n short (h.at ∙ ap (λ ls. option_map (λ p. p ++ known) (slice_get ls rest)) (e ∙ none_last (map objects (take k rs)))))
    by (o ∷ os) e = omega arith

is_left_next : (rs : List Range) (n k rest : ℕ) (known : List ℕ) (r : Range) (o : ℕ) → IsLeft rs n (k + 1) rest known → k < length rs → r ≡ get_or rs k r → slice_get r.objects (rest % length r.objects) ≡ Some o
    → IsLeft rs n k (rest / length r.objects) (o ∷ known)
is_left_next rs n k rest known r o h lt is at = record {
  within = omega arith;
  at =
      h.at ∙ ap (λ ls. option_map (λ p. p ++ known) (slice_get ls rest)) (one_more rs k r lt is)
      ∙ ap (option_map (λ p. p ++ known)) (last_digit (map objects (take k rs)) r.objects rest o at)
      ∙ twice (slice_get (bindings (take k rs)) (rest / length r.objects));
}
  where
    twice : (b : Option Binding) → option_map (λ p. p ++ known) (option_map (λ p. p ++ o ∷ []) b) ≡ option_map (λ p. p ++ o ∷ known) b
    twice None = refl
    twice (Some p) = ap Some (append_assoc p (o ∷ []) known)

-- all digits are known
pub is_left_none : (rs : List Range) (n rest : ℕ) (known : List ℕ) → n < length (bindings rs) → IsLeft rs n 0 rest known → slice_get (bindings rs) n ≡ Some known
is_left_none rs n zero known short h = h.at
is_left_none rs n (suc rest) known short h = absurd (none_past (bindings rs) n short h.at)

-- ---- the last range that is left

at_last : (rs : List Range) (n left rest : ℕ) (known : List ℕ) → 0 < left → IsLeft rs n left rest known → IsLeft rs n (left - 1 + 1) rest known
at_last rs n left rest known some h = let e : left ≡ left - 1 + 1 = omega arith in subst (λ k. IsLeft rs n k rest known) e h

-- it has objects
pub last_has_objects : (rs : List Range) (n left rest : ℕ) (known : List ℕ) (r : Range) → n < length (bindings rs) → 0 < left → IsLeft rs n left rest known → r ≡ get_or rs (left - 1) r → 0 < length r.objects
last_has_objects rs n left rest known r short some h is =
    let within = h.within in
    has_objects rs n (left - 1) rest known r short (at_last rs n left rest known some h) (omega arith) is

-- then the others are left
pub last_is_known : (rs : List Range) (n left rest : ℕ) (known : List ℕ) (r : Range) (o : ℕ) → 0 < left → IsLeft rs n left rest known → r ≡ get_or rs (left - 1) r → slice_get r.objects (rest % length r.objects) ≡ Some o
    → IsLeft rs n (left - 1) (rest / length r.objects) (o ∷ known)
last_is_known rs n left rest known r o some h is at =
    let within = h.within in
    is_left_next rs n (left - 1) rest known r o (at_last rs n left rest known some h) (omega arith) is at
