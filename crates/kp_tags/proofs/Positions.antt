-- The numbers of tags as a set finds them.
use Rattle.std.proofs.Common.{◌≡◌, ℕ, ◌+◌, Bool, true, false, List, [], ◌∷◌, length, map, refl, ap, ◌∙◌, arith, Some, None, position, cond, not, nat_lt}
use Rattle.std.specs.List.{position_or_len}
use Rattle.std.proofs.lemmas.Bool.{ltb-false}
use Rattle.std.proofs.lemmas.List.Sums.{prefix_len-le-length}
use Rattle.kp_base.specs.declared.lit.Lit.{Lit}
use Rattle.kp_base.specs.LitSet.{same_set}
use Rattle.kp_tags.specs.MergeTables.{number_in}

module _ {K : Type 0} (seen : K → List Lit) (t : List Lit) where
  number_seen : (ks : List K) → position_or_len (λ k. same_set t (seen k)) ks ≡ number_in (map seen ks) t
  number_seen [] = refl
  number_seen (k ∷ ks) = ap (λ n. cond (not (same_set t (seen k))) (1 + n) 0) (number_seen ks)

  -- the place that a set finds is the number
  pub place_there : (ks : List K) (n : ℕ) → position (λ k. same_set t (seen k)) ks ≡ Some n → n ≡ number_in (map seen ks) t
  place_there ks n h = by (nat_lt (position_or_len (λ k. same_set t (seen k)) ks) (length ks)) h ∙ number_seen ks
    where
      by : (b : Bool) → cond b (Some (position_or_len (λ k. same_set t (seen k)) ks)) None ≡ Some n → n ≡ position_or_len (λ k. same_set t (seen k)) ks
      by true e = cc
      by false e = cc

  -- and where it finds none, the number is how many there are
  pub place_nowhere : (ks : List K) → position (λ k. same_set t (seen k)) ks ≡ None → length ks ≡ number_in (map seen ks) t
  place_nowhere ks h = by (nat_lt (position_or_len (λ k. same_set t (seen k)) ks) (length ks)) refl h ∙ number_seen ks
    where
      by : (b : Bool) → nat_lt (position_or_len (λ k. same_set t (seen k)) ks) (length ks) ≡ b → cond b (Some (position_or_len (λ k. same_set t (seen k)) ks)) None ≡ None → length ks ≡ position_or_len (λ k. same_set t (seen k)) ks
      by true is e = cc
      by false is e =
          let above = ltb-false (position_or_len (λ k. same_set t (seen k)) ks) (length ks) is in
          let within = prefix_len-le-length (λ k. not (same_set t (seen k))) ks in
          omega arith
