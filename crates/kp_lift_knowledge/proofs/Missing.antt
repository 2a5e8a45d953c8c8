-- The first literal that isn't known is the least, and what is asked of a table is asked of what it says.
use Rattle.std.proofs.Common.{◌≡◌, ◌<◌, ◌≤◌, ◌&&◌, ℕ, zero, suc, true, false, not, List, [], ◌∷◌, Option, Some, None, IfSome, IfNone, length, get_or, take, nat_lt, refl, sym, ap₂, subst, ◌∙◌, arith, inl, inr}
use Rattle.std.proofs.lemmas.Bool.{and_parts, ltb-true}
use Rattle.std.proofs.lemmas.Option.{IfSome_then}
use Rattle.std.specs.List.{list_all}
use Rattle.kp_base.specs.declared.lit.Lit.{Lit}
use Rattle.kp_base.specs.Planning.{Member, code_of, IsAscending, are_below, Valuation, IsLeastMissing, Known}
use Rattle.kp_base.proofs.Ascending.{tail_ascends}
use Rattle.kp_base.proofs.Least.{least_later}
use Rattle.kp_base.proofs.Lists.{all_alike, all_member}
use Rattle.kp_lift_knowledge.specs.Known.{Table, known, Says}
use Rattle.kp_lift_knowledge.proofs.Stepping.{Agree, below_at}

-- ---- the least literal

above : (x : Lit) (ls : List Lit) → IsAscending (x ∷ ls) → (m : Lit) → Member ls m → code_of x < code_of m
above x [] up m there = absurd there
above x (y ∷ ls) up m (inl e) = subst (λ z. code_of x < code_of z) e up.0
above x (y ∷ ls) up m (inr there) = let a = above y ls up.1 m there in let b = up.0 in omega arith

-- the first literal that is no fact is the least
pub least_found : (k : Valuation) (d : Lit) (ls : List Lit) (i : ℕ) → IsAscending ls → i < length ls → list_all k (take i ls) ≡ true → k (get_or ls i d) ≡ false → IsLeastMissing k ls (get_or ls i d)
least_found k d [] i up lt before off = absurd (omega (arith, lt))
least_found k d (x ∷ ls) zero up lt before off = record { among = inl refl; missing = off; least = least }
  where
    least : (m : Lit) → Member (x ∷ ls) m → k m ≡ false → code_of x ≤ code_of m
    least m (inl e) no_m = subst (λ z. code_of x ≤ code_of z) e (omega arith)
    least m (inr later) no_m = let a = above x ls up m later in omega arith
least_found k d (x ∷ ls) (suc i) up lt before off =
    let parts = and_parts (k x) (list_all k (take i ls)) before in
    least_later k x ls parts.0 (get_or ls i d) (least_found k d ls i (tail_ascends x ls up) (omega (arith, lt)) parts.1 off)

-- ---- what a table says

module _ (table : Table) (k : Known) (says : Says table k) (some : 0 < table.tags) where
  agree : Agree table.atoms (known table 0) (k 0)
  agree l h = says.each 0 l some h

  pub found_unknown : (ls : List Lit) → are_below table.atoms ls ≡ true → (o : Option Lit) → IfSome o (IsLeastMissing (known table 0) ls) → IfSome o (IsLeastMissing (k 0) ls)
  found_unknown ls below o h =
      IfSome_then o h (λ l f. record {
        among = f.among;
        missing = sym (agree l (below_at table.atoms ls below l f.among)) ∙ f.missing;
        least = λ m there no_m. f.least m there (agree m (below_at table.atoms ls below m there) ∙ no_m);
      })

  pub none_unknown : (ls : List Lit) → are_below table.atoms ls ≡ true → (o : Option Lit) → IfNone o (list_all (known table 0) ls ≡ true) → IfNone o (list_all (k 0) ls ≡ true)
  none_unknown ls below None h = sym (all_alike (known table 0) (k 0) ls (λ l there. agree l (below_at table.atoms ls below l there))) ∙ h
  none_unknown ls below (Some l) h = h

  -- a merge
  pub merges_alike : (lit : Lit) → lit.atom.0 < table.atoms → (tags : List ℕ) → list_all (λ t. nat_lt t table.tags) tags ≡ true → (list_all (λ t. known table t lit) tags && not (known table 0 lit)) ≡ (list_all (λ t. k t lit) tags && not (k 0 lit))
  merges_alike lit lt tags below =
      ap₂ (λ b c. b && not c)
      (all_alike (λ t. known table t lit) (λ t. k t lit) tags (λ t there. says.each t lit (ltb-true t table.tags (all_member (λ s. nat_lt s table.tags) tags t there below)) lt))
      (agree lit lt)
