-- The prime implicates of a formula with a model, in order, as what asks them wants them.
use Rattle.std.proofs.Common.{◌≡◌, ◌≤◌, ◌+◌, ℕ, zero, suc, Bool, true, false, List, [], length, map, take, refl, subst, inl, inr, arith}
use Rattle.std.proofs.lemmas.Bool.{cases_lt}
use Rattle.std.specs.List.Sorted.{IsPermutation, IsSorted}
use Rattle.kp_base.specs.declared.lit.Lit.{Lit}
use Rattle.kp_base.specs.declared.ground.Initial.{Initial}
use Rattle.kp_base.specs.LitSet.{lits_cmp}
use Rattle.kp_base.specs.Entailed.{HasModel, HaveSameModels}
use Rattle.kp_base.specs.Implicates.{IsOfAtoms}
use Rattle.kp_clauses.specs.Stored.{subsumed}
use Rattle.kp_primes.specs.Included.{all_included, unit_of, AreCounted}
use Rattle.kp_primes.specs.Held.{Held, formula, AreWhole}
use Rattle.kp_primes.proofs.Public.{empty_clause_is_no_state, IsFound, build_is_found}
use Rattle.kp_law_decidable.specs.Laws.{HasAscendingClauses}
use Rattle.kp_law_decidable.proofs.Counting.{taken}
use Rattle.kp_law_decidable.proofs.InOrder.{in_order}

-- the prime implicates of the formula
pub record Holding (n : ℕ) (i : Initial) : Type 0 where
  pub held : Held
  pub atoms_are : held.atoms ≡ n
  pub same : HaveSameModels (formula held) i
  pub whole : AreWhole held

-- some number is no less than each of the first values
most : (f : ℕ → ℕ) (n : ℕ) → (m : ℕ) × ((k : ℕ) → k ≤ n → f k ≤ m)
most f zero = (f 0, λ k le. let e : 0 ≡ k = omega (arith, le) in subst (λ j. f j ≤ f 0) e (omega arith))
most f (suc n) = go (most f n)
  where
    go : ((m : ℕ) × ((k : ℕ) → k ≤ n → f k ≤ m)) → (m : ℕ) × ((k : ℕ) → k ≤ suc n → f k ≤ m)
    go (m, each) = (
      m + f (suc n),
      λ k le. elim (cases_lt n k) [
        | inl last ↦ let e : suc n ≡ k = omega (arith, le, last) in subst (λ j. f j ≤ m + f (suc n)) e (omega arith)
        | inr before ↦ let h = each k before in omega (arith, h)
      ],
    )

module _ (n : ℕ) (i : Initial) (over : IsOfAtoms n i) (sets : HasAscendingClauses i) (some : HasModel i) where
  abbrev first : ℕ → List (List Lit)
  first k = all_included [] (take k i.clauses)

  abbrev all : List (List Lit)
  all = all_included (first (length i.clauses)) (map unit_of i.closed)

  -- no limit is passed
  limit : (m : ℕ) × ((k : ℕ) → k ≤ length i.clauses → length (first k) ≤ m)
  limit = most (λ k. length (first k)) (length i.clauses)

  counted : AreCounted i.clauses limit.0 (length i.clauses) (first (length i.clauses))
  counted = record { so_far = refl; sets = taken i 0 sets (length i.clauses); within_limit = limit.1 }

  not_empty : (b : Bool) → subsumed all [] ≡ b → subsumed all [] ≡ false
  not_empty true is = absurd ((empty_clause_is_no_state i limit.0 (first (length i.clauses)) all counted refl is).no_model some)
  not_empty false is = is

  pub holding : Holding n i
  holding = go (in_order all)
    where
      go : ((ds : List (List Lit)) × IsPermutation all ds × IsSorted lits_cmp ds) → Holding n i
      go (ds, perm, order) =
          let f : IsFound i limit.0 (record { atoms = n; clauses = ds }) = build_is_found i n limit.0 (first (length i.clauses)) all ds over counted refl (not_empty (subsumed all []) refl) perm order in
          record { held = record { atoms = n; clauses = ds }; atoms_are = refl; same = f.holds_primes.same_models; whole = f.whole_invariant }
