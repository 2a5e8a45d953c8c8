-- The least number of which something decided is so. The least literal that is no fact: there is one where not all are facts, and only one.
use Rattle.std.proofs.Common.{◌≡◌, ◌≤◌, ◌<◌, ◌⊎◌, ℕ, zero, suc, Bool, true, false, ◌&&◌, List, [], ◌∷◌, refl, sym, subst, ◌∙◌, inl, inr, arith}
use Rattle.std.proofs.lemmas.Bool.{false≢true, cases_lt}
use Rattle.std.specs.List.{list_all}
use Rattle.kp_base.specs.declared.lit.Lit.{Lit}
use Rattle.kp_base.specs.Lit.{code_of}
use Rattle.kp_base.specs.Steps.{Valuation, IsLeastMissing}
use Rattle.kp_base.proofs.Ascending.{code_of-injective}
use Rattle.kp_base.proofs.Lists.{all_member}

-- ---- numbers

-- it is so of the number, and of none below it
pub record IsLeastSo (P : ℕ → Type 0) (k : ℕ) : Type 0 where
  pub so : P k
  pub none_below : (j : ℕ) → j < k → P j → ⊥

module _ (P : ℕ → Type 0) (decided : (k : ℕ) → P k ⊎ (P k → ⊥)) where
  -- of the numbers below n one is the least, or it is so of none
  least_below : (n : ℕ) → ((k : ℕ) × (k < n) × IsLeastSo P k) ⊎ ((j : ℕ) → j < n → P j → ⊥)
  least_below zero = inr (λ j lt. absurd (omega (arith, lt)))
  least_below (suc n) = go (least_below n) (decided n)
    where
      go : ((k : ℕ) × (k < n) × IsLeastSo P k) ⊎ ((j : ℕ) → j < n → P j → ⊥) → P n ⊎ (P n → ⊥) → ((k : ℕ) × (k < suc n) × IsLeastSo P k) ⊎ ((j : ℕ) → j < suc n → P j → ⊥)
      go (inl (k, lt, least)) here = inl (k, omega (arith, lt), least)
      go (inr none) (inl so) = inl (n, omega arith, record { so = so; none_below = none })
      go (inr none) (inr never) = inr (λ j lt p. elim (cases_lt j n) [ inl less ↦ none j less p | inr more ↦ let same : j ≡ n = omega (arith, lt, more) in never (subst P same p) ])

  -- where it is so of n, some number up to n is the least
  pub least_number : (n : ℕ) → P n → (k : ℕ) × (k ≤ n) × IsLeastSo P k
  least_number n so = elim (least_below n) [
    | inl (k, lt, least) ↦ (k, omega (arith, lt), least)
    | inr none ↦ (n, omega arith, record { so = so; none_below = none })
  ]

-- ---- literals

pub not_all_facts : (k : Valuation) (ls : List Lit) (l : Lit) → IsLeastMissing k ls l → list_all k ls ≡ false
not_all_facts k ls l f = pick (list_all k ls) refl
  where
    pick : (b : Bool) → list_all k ls ≡ b → b ≡ false
    pick false h = refl
    pick true h = absurd (false≢true (sym f.missing ∙ all_member k ls l f.among h))

pub least_once : (k : Valuation) (ls : List Lit) (l m : Lit) → IsLeastMissing k ls l → IsLeastMissing k ls m → l ≡ m
least_once k ls l m a b = code_of-injective l m (let below = a.least m b.among b.missing in let above = b.least l a.among a.missing in omega arith)

-- the first literal, or one of the rest
least_of : (k : Valuation) (x : Lit) (ls : List Lit) → k x ≡ false → (l : Lit) → IsLeastMissing k ls l → (m : Lit) × IsLeastMissing k (x ∷ ls) m
least_of k x ls off l f = elim (cases_lt (code_of l) (code_of x)) [
  | inl less ↦ (
    l,
    record {
      among = inr f.among;
      missing = f.missing;
      least = λ m there no_m. elim there [ inl e ↦ subst (λ z. code_of l ≤ code_of z) e (omega (arith, less)) | inr later ↦ f.least m later no_m ];
    },
  )
  | inr le ↦ (
    x,
    record {
      among = inl refl;
      missing = off;
      least = λ m there no_m. elim there [ inl e ↦ subst (λ z. code_of x ≤ code_of z) e (omega arith) | inr later ↦ let more = f.least m later no_m in omega (arith, le, more) ];
    },
  )
]

-- the first alone
least_first : (k : Valuation) (x : Lit) (ls : List Lit) → k x ≡ false → list_all k ls ≡ true → IsLeastMissing k (x ∷ ls) x
least_first k x ls off all = record {
  among = inl refl;
  missing = off;
  least = λ m there no_m. elim there [ inl e ↦ subst (λ z. code_of x ≤ code_of z) e (omega arith) | inr later ↦ absurd (false≢true (sym no_m ∙ all_member k ls m later all)) ];
}

-- one of the rest alone
pub least_later : (k : Valuation) (x : Lit) (ls : List Lit) → k x ≡ true → (l : Lit) → IsLeastMissing k ls l → IsLeastMissing k (x ∷ ls) l
least_later k x ls on l f = record {
  among = inr f.among;
  missing = f.missing;
  least = λ m there no_m. elim there [ inl e ↦ absurd (false≢true (sym no_m ∙ subst (λ z. k z ≡ true) e on)) | inr later ↦ f.least m later no_m ];
}

pub least_missing : (k : Valuation) (ls : List Lit) → list_all k ls ≡ false → (l : Lit) × IsLeastMissing k ls l
least_missing k [] h = absurd (false≢true (sym h))
least_missing k (x ∷ ls) h = by (k x) refl (list_all k ls) refl h (λ e. least_missing k ls e)
  where
    by : (b : Bool) → k x ≡ b → (c : Bool) → list_all k ls ≡ c → (b && c) ≡ false → (list_all k ls ≡ false → (l : Lit) × IsLeastMissing k ls l) → (l : Lit) × IsLeastMissing k (x ∷ ls) l
    by true on true all h rest = absurd (false≢true (sym h))
    by true on false some h rest = let l = rest some in (l.0, least_later k x ls on l.0 l.1)
    by false off true all h rest = (x, least_first k x ls off all)
    by false off false some h rest = let l = rest some in least_of k x ls off l.0 l.1
