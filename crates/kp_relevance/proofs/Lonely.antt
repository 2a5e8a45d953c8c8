-- No clause is relevant to a literal to which no other literal is relevant.
use Rattle.std.proofs.Common.{◌≡◌, ◌<◌, ℕ, Bool, true, false, List, [], ◌∷◌, filter, get_or, length, nat_lt, refl, sym, ap, ◌∙◌, arith, inl, inr}
use Rattle.std.proofs.lemmas.Bool.{and_parts, false_from_ne_true, false≢true}
use Rattle.std.proofs.lemmas.List.Sorted.{IsPermutation-refl}
use Rattle.std.specs.List.{list_any, range_with_len}
use Rattle.kp_base.specs.declared.lit.Lit.{Lit}
use Rattle.kp_base.specs.Planning.{Member, code_of, positive, negative, IsAscending, either_value}
use Rattle.kp_base.proofs.Ascending.{code_of-injective}
use Rattle.kp_base.proofs.Lists.{any_member}
use Rattle.kp_primes.specs.Held.{Held, AreWhole}
use Rattle.kp_relevance.specs.Relevant.{is_pair}
use Rattle.kp_relevance.specs.Candidates.{AnswersClausesFor}
use Rattle.kp_relevance.specs.Gathered.{are_paired, is_wanted, gathered, IsLone}
use Rattle.kp_relevance.proofs.Clauses.{answers_clauses}
use Rattle.kp_relevance.specs.Tabled.{pairs_of}
use Rattle.kp_relevance.proofs.Exact.{marked_below, is_pair_marked}
use Rattle.kp_relevance.proofs.Closures.{some_closure, none_unsettled}

-- where each test is false, nothing is kept
filter_none : (test : List Lit → Bool) (cs : List (List Lit)) → ((c : List Lit) → Member cs c → test c ≡ false) → filter test cs ≡ []
filter_none test [] none = refl
filter_none test (c ∷ cs) none = rw (none c (inl refl)) (filter_none test cs (λ d m. none d (inr m)))

module _ (pairs : List (Lit × Lit)) (target : Lit) (lone : IsLone pairs target) where
  -- a clause of two literals has one that isn't the target
  one_alone : (c : List Lit) → IsAscending c → is_wanted pairs target c ≡ false
  one_alone [] up = refl
  one_alone (x ∷ []) up = refl
  one_alone (x ∷ y ∷ c) up = false_from_ne_true (is_wanted pairs target (x ∷ y ∷ c)) (λ h.
      let all = and_parts (nat_lt 1 (length (x ∷ y ∷ c))) (are_paired pairs target (x ∷ y ∷ c)) h in
      let first = and_parts (is_pair pairs x target) (are_paired pairs target (y ∷ c)) all.1 in
      let second = and_parts (is_pair pairs y target) (are_paired pairs target c) first.1 in
      let same : code_of x ≡ code_of y = ap code_of (lone x first.0 ∙ sym (lone y second.0)) in
      omega (arith, up.0, same))

  -- an atom's clause does
  not_either : (p : ℕ) → are_paired pairs target (either_value p) ≡ false
  not_either p = false_from_ne_true (are_paired pairs target (either_value p)) (λ h.
      let first = and_parts (is_pair pairs (positive p) target) (are_paired pairs target (negative p ∷ [])) h in
      let second = and_parts (is_pair pairs (negative p) target) true first.1 in
      false≢true (ap (λ (l : Lit). l.positive) (lone (negative p) second.0 ∙ sym (lone (positive p) first.0))))

  none_split : (n : ℕ) → list_any (λ p. are_paired pairs target (either_value p)) (range_with_len 0 n) ≡ false
  none_split n = false_from_ne_true (list_any (λ p. are_paired pairs target (either_value p)) (range_with_len 0 n)) (λ h.
      let x = any_member (λ p. are_paired pairs target (either_value p)) (range_with_len 0 n) h in
      false≢true (sym (not_either x.0) ∙ x.2))

  none_gathered : (h : Held) (known : List Lit) → AreWhole h → [] ≡ gathered pairs h.clauses known target h.atoms
  none_gathered h known whole =
      let wanted = filter_none (is_wanted pairs target) h.clauses (λ c m. one_alone c ((whole.primes.primes.exact c).0 m).ascending) in
      rw wanted (sym (none_unsettled pairs known target (range_with_len 0 h.atoms) (none_split h.atoms)))

pub lone_answers : (pairs : List (Lit × Lit)) (h : Held) (target : Lit) → AreWhole h → target.atom.0 < h.atoms → IsLone pairs target → AnswersClausesFor pairs h target []
lone_answers pairs h target whole below lone =
    let known = some_closure h whole in
    answers_clauses pairs h known.0 target [] [] whole known.1 below (none_gathered pairs target lone h known.0 whole) (IsPermutation-refl []) (λ k d _ far. absurd (omega (arith, far)))

-- what a row says of its literal
pub lone_marked : (n k : ℕ) (rows : List (List Bool)) (row : List Bool) (target : Lit) → row ≡ get_or rows (code_of target) [] → k ≡ code_of target → ((i : ℕ) → get_or row i false ≡ true → k ≡ i) → IsLone (pairs_of n rows) target
lone_marked n k rows row target here code alone l h =
    let marked = (marked_below n rows l target (sym (is_pair_marked n rows l target) ∙ h)).2 in
    code_of-injective l target (sym (sym code ∙ alone (code_of l) (ap (λ xs. get_or xs (code_of l) false) here ∙ marked)))
