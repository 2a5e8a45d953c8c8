-- What fewer pairs leave compatible.
use Rattle.std.proofs.Common.{◌≡◌, true, not, ◌&&◌, List, inl, inr, sym, ap, ◌∙◌}
use Rattle.std.proofs.lemmas.Bool.{and_parts, and_from, or_cases, or_left, or_right, false≢true, false_from_ne_true, not-true}
use Rattle.std.specs.List.{list_all}
use Rattle.kp_base.specs.declared.lit.Lit.{Lit}
use Rattle.kp_base.specs.Lit.{negated, same_lit}
use Rattle.kp_base.specs.Clashes.{Pairs, are_exclusive, are_compatible}
use Rattle.kp_base.specs.Exclusive.{IsPart}
use Rattle.kp_base.proofs.Lists.{all_weaker}

-- what is compatible under more pairs is so under fewer
pub compatible_under_fewer : (some more : Pairs) → IsPart some more → (ls : List Lit) → are_compatible more ls ≡ true → are_compatible some ls ≡ true
compatible_under_fewer some more part ls h =
    all_weaker (λ k. list_all (λ l. not (are_exclusive more k l)) ls) (λ k. list_all (λ l. not (are_exclusive some k l)) ls) ls (λ k _.
    all_weaker (λ l. not (are_exclusive more k l)) (λ l. not (are_exclusive some k l)) ls (λ l _ apart.
    ap not (false_from_ne_true (are_exclusive some k l) (λ e. false≢true (sym (not-true (are_exclusive more k l) apart) ∙ wider k l e))))) h
  where
    wider : (k l : Lit) → are_exclusive some k l ≡ true → are_exclusive more k l ≡ true
    wider k l e = elim (or_cases (same_lit (negated k) l) (k.positive && l.positive && some k.atom.0 l.atom.0) e) [
      | inl opposed ↦ or_left (same_lit (negated k) l) (k.positive && l.positive && more k.atom.0 l.atom.0) opposed
      | inr paired ↦
          let parts = and_parts (k.positive && l.positive) (some k.atom.0 l.atom.0) paired in
          or_right (same_lit (negated k) l) (k.positive && l.positive && more k.atom.0 l.atom.0) (and_from (k.positive && l.positive) (more k.atom.0 l.atom.0) parts.0 (part k.atom.0 l.atom.0 parts.1))
    ]
