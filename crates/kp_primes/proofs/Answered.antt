-- What the answer of a build says of the initial formula.
use Rattle.std.proofs.Common.{Err, ◌≡◌, ℕ, ◌≤◌, Bool, true, false, not, ◌&&◌, List, [], ◌∷◌, refl, ◌∙◌, ap, subst, inl, inr, map, take, take_all, length, zero, suc, arith}
use Rattle.std.proofs.lemmas.Bool.{and_parts, and_from, or_cases, or_left, false≢true}
use Rattle.std.specs.List.{list_any, list_all}
use Rattle.kp_base.specs.declared.lit.Lit.{Lit}
use Rattle.kp_base.specs.declared.lit.AtomId.{AtomId}
use Rattle.kp_base.specs.declared.ground.Initial.{Initial}
use Rattle.kp_base.specs.declared.refused.Refused.{Refused}
use Rattle.kp_base.specs.declared.refused.Stop.{Stop}
use Rattle.kp_base.specs.declared.refused.Stop.TheVariants as stops
use Rattle.kp_base.specs.Planning.{Member, IsAscending, State, holds, is_model, prefix_of, ListsPrimes, HasAtMostPrimes, IsLeastOver, IsNeverOver}
use Rattle.kp_base.specs.Implicates.{is_within}
use Rattle.kp_base.proofs.Lists.{any_member}
use Rattle.kp_clauses.specs.Stored.{subsumed}
use Rattle.kp_clauses.proofs.Public.{within_member}
use Rattle.kp_primes.specs.Included.{all_included, unit_of, AreSets, AreCounted, IsPassedAt, RefusesPrefix, StopsPrefix}
use Rattle.kp_primes.specs.Answers.{HasNoState, RefusesPrimes, AnswersPrimes}
use Rattle.kp_primes.proofs.Cover.{IsCover}
use Rattle.kp_primes.proofs.Exact.{empty_cover, cover_same, all_included_cover, all_included_apart, are_primes}

take_member : {X : Type 0} (j k : ℕ) (xs : List X) (x : X) → j ≤ k → Member (take j xs) x → Member (take k xs) x
take_member zero k xs x le m = absurd m
take_member (suc j) zero xs x le m = absurd (omega arith)
take_member (suc j) (suc k) [] x le m = absurd m
take_member (suc j) (suc k) (y ∷ xs) x le m = elim m [ inl e ↦ inl e | inr r ↦ inr (take_member j k xs x (omega arith) r) ]

fewer_sets : (j k : ℕ) (cs : List (List Lit)) → j ≤ k → AreSets (take k cs) → AreSets (take j cs)
fewer_sets j k cs le sets c m = sets c (take_member j k cs c le m)

clauses_cover : (cs : List (List Lit)) → AreSets cs → IsCover (λ s. true && list_all (list_any (holds s)) cs) (all_included [] cs)
clauses_cover cs sets = all_included_cover (λ s. true) [] cs sets empty_cover

prefix_primes : (i : Initial) (k : ℕ) → AreSets (take k i.clauses) → ListsPrimes (prefix_of i k) (all_included [] (take k i.clauses))
prefix_primes i k sets =
    are_primes (prefix_of i k) (all_included [] (take k i.clauses))
    (cover_same (λ s. true && list_all (list_any (holds s)) (take k i.clauses)) (is_model (prefix_of i k)) (all_included [] (take k i.clauses))
    (λ s h. and_from (list_all (list_any (holds s)) (take k i.clauses)) true h refl)
    (λ s h. (and_parts (list_all (list_any (holds s)) (take k i.clauses)) true h).0)
    (clauses_cover (take k i.clauses) sets))
    (all_included_apart [] (take k i.clauses) refl)

at_most : (i : Initial) (limit k : ℕ) → AreSets (take k i.clauses) → length (all_included [] (take k i.clauses)) ≤ limit → HasAtMostPrimes (prefix_of i k) limit
at_most i limit k sets h = record { listed = all_included [] (take k i.clauses); primes = prefix_primes i k sets; at_most = h }

least_over : (i : Initial) (limit k : ℕ) → IsPassedAt i.clauses limit k → IsLeastOver i limit k
least_over i limit k at = record {
  in_range = at.there;
  more = record { listed = all_included [] (take k i.clauses); primes = prefix_primes i k at.sets; more = at.over };
  least = λ j h. at_most i limit j (fewer_sets j k i.clauses (omega arith) at.sets) (at.before j h);
}

pub never_over : (i : Initial) (limit : ℕ) (ps : List (List Lit)) → AreCounted i.clauses limit (length i.clauses) ps → IsNeverOver i limit
never_over i limit ps counted = record { each = λ k h. at_most i limit k (fewer_sets k (length i.clauses) i.clauses h counted.sets) (counted.within_limit k h) }

all_taken : (cs : List (List Lit)) → take (length cs) cs ≡ cs
all_taken cs = take_all (length cs) cs (omega arith)

pub all_sets : (i : Initial) (limit : ℕ) (ps : List (List Lit)) → AreCounted i.clauses limit (length i.clauses) ps → AreSets i.clauses
all_sets i limit ps counted = subst AreSets (all_taken i.clauses) counted.sets

units_true : (s : State) (ps : List AtomId) → list_all (λ p. not (s p.0)) ps ≡ true → list_all (list_any (holds s)) (map unit_of ps) ≡ true
units_true s [] h = refl
units_true s (p ∷ ps) h =
    let parts = and_parts (not (s p.0)) (list_all (λ p. not (s p.0)) ps) h in
    and_from (list_any (holds s) (unit_of p)) (list_all (list_any (holds s)) (map unit_of ps)) (or_left (not (s p.0)) false parts.0) (units_true s ps parts.1)

units_false : (s : State) (ps : List AtomId) → list_all (list_any (holds s)) (map unit_of ps) ≡ true → list_all (λ p. not (s p.0)) ps ≡ true
units_false s [] h = refl
units_false s (p ∷ ps) h =
    let parts = and_parts (list_any (holds s) (unit_of p)) (list_all (list_any (holds s)) (map unit_of ps)) h in
    and_from (not (s p.0)) (list_all (λ p. not (s p.0)) ps) (elim (or_cases (not (s p.0)) false parts.0) [ inl e ↦ e | inr e ↦ absurd (false≢true e) ]) (units_false s ps parts.1)

units_sets : (ps : List AtomId) → AreSets (map unit_of ps)
units_sets [] c m = absurd m
units_sets (p ∷ ps) c m = elim m [ inl e ↦ subst IsAscending e tt | inr r ↦ units_sets ps c r ]

abbrev pub whole : Initial → List (List Lit)
whole i = all_included (all_included [] i.clauses) (map unit_of i.closed)

pub whole_cover : (i : Initial) → AreSets i.clauses → IsCover (is_model i) (whole i)
whole_cover i sets =
    cover_same (λ s. (true && list_all (list_any (holds s)) i.clauses) && list_all (list_any (holds s)) (map unit_of i.closed)) (is_model i) (whole i)
    (λ s h. let parts = and_parts (list_all (list_any (holds s)) i.clauses) (list_all (list_any (holds s)) (map unit_of i.closed)) h in and_from (list_all (list_any (holds s)) i.clauses) (list_all (λ p. not (s p.0)) i.closed) parts.0 (units_false s i.closed parts.1))
    (λ s h. let parts = and_parts (list_all (list_any (holds s)) i.clauses) (list_all (λ p. not (s p.0)) i.closed) h in and_from (list_all (list_any (holds s)) i.clauses) (list_all (list_any (holds s)) (map unit_of i.closed)) parts.0 (units_true s i.closed parts.1))
    (all_included_cover (λ s. true && list_all (list_any (holds s)) i.clauses) (all_included [] i.clauses) (map unit_of i.closed) (units_sets i.closed) (clauses_cover i.clauses sets))

no_model : (m : State → Bool) (ps : List (List Lit)) → IsCover m ps → subsumed ps [] ≡ true → (s : State) → m s ≡ true → ⊥
no_model m ps cover h s hm =
    let e = any_member (λ e. is_within e []) ps h in
    let x = any_member (holds s) e.0 ((cover.each e.0 e.1).sound s hm) in
    within_member e.0 [] e.2 x.0 x.1

-- the store as the loops left it
pub store_is : (i : Initial) (limit : ℕ) (ps qs : List (List Lit)) → AreCounted i.clauses limit (length i.clauses) ps → qs ≡ all_included ps (map unit_of i.closed) → qs ≡ whole i
store_is i limit ps qs counted is = is ∙ ap (λ z. all_included z (map unit_of i.closed)) (counted.so_far ∙ ap (all_included []) (take_all (length i.clauses) i.clauses (omega arith)))

-- ---- no initial state

pub is_empty : (i : Initial) (limit : ℕ) (ps qs : List (List Lit)) → AreCounted i.clauses limit (length i.clauses) ps → qs ≡ all_included ps (map unit_of i.closed) → subsumed qs [] ≡ true → HasNoState i limit
is_empty i limit ps qs counted is h = record {
  no_model = λ some. no_model (is_model i) (whole i) (whole_cover i (all_sets i limit ps counted)) (subst (λ z. subsumed z [] ≡ true) (store_is i limit ps qs counted is) h) some.state some.model;
  never_over = never_over i limit ps counted;
}

-- ---- what stops a build

refused : (i : Initial) (limit : ℕ) (r : Refused) → RefusesPrefix i.clauses limit r → RefusesPrimes i limit r
refused i limit _ (RefusesPrefix.passed_at k at) = RefusesPrimes.too_many k (least_over i limit k at)

pub prefix_stops : (i : Initial) (atoms limit : ℕ) (stop : Stop) → StopsPrefix i.clauses limit stop → AnswersPrimes i atoms limit (Err stop)
prefix_stops i atoms limit (stops.Refused r) p = refused i limit r p
prefix_stops i atoms limit stops.Memory p = tt
