-- The clauses of a build that succeeds.
use Rattle.std.proofs.Common.{◌≡◌, ℕ, Bool, true, false, not, List, [], ◌∷◌, refl, sym, ◌∙◌, subst, inl, inr, map, length, nat_lt}
use Rattle.std.proofs.lemmas.Bool.{and_parts, and_from, or_cases, or_left, false≢true, false_from_ne_true}
use Rattle.std.specs.List.{list_any, list_all}
use Rattle.std.specs.List.Sorted.{IsPermutation, IsSorted}
use Rattle.kp_base.specs.declared.lit.Lit.{Lit}
use Rattle.kp_base.specs.declared.lit.AtomId.{AtomId}
use Rattle.kp_base.specs.declared.ground.Initial.{Initial}
use Rattle.kp_base.specs.Planning.{Member, lits_cmp, State, holds, is_model, is_tautology, formula_of, IsOfAtoms}
use Rattle.kp_base.specs.Implicates.{is_within}
use Rattle.kp_base.proofs.Members.{permuted_member}
use Rattle.kp_base.proofs.Lists.{bool_same, any_from, any_member, all_member, all_from}
use Rattle.kp_clauses.specs.Stored.{subsumed, are_apart}
use Rattle.kp_clauses.proofs.Public.{tautology_true, true_where_within}
use Rattle.kp_primes.specs.Asked.{denied, inconsistent}
use Rattle.kp_primes.specs.Included.{all_included, unit_of, AreCounted}
use Rattle.kp_primes.specs.Held.{Held, AreWhole}
use Rattle.kp_primes.specs.Answers.{HoldsPrimes}
use Rattle.kp_primes.proofs.Cover.{IsCover}
use Rattle.kp_primes.proofs.Exact.{cover_same, all_included_apart, are_primes}
use Rattle.kp_primes.proofs.Ranging.{all_included_passes}
use Rattle.kp_primes.proofs.Sorting.{permuted_cover, permuted_apart}
use Rattle.std.proofs.lemmas.List.Sorted.{list_any-IsPermutation}
use Rattle.kp_primes.proofs.Asking.{met_somewhere, within_denied}
use Rattle.kp_primes.proofs.Answered.{whole, whole_cover, store_is, never_over, all_sets}

-- ---- the clauses as a formula

satisfied : (m : State → Bool) (ps : List (List Lit)) → IsCover m ps → (s : State) → m s ≡ true → is_model (formula_of ps) s ≡ true
satisfied m ps cover s h = and_from (list_all (list_any (holds s)) ps) true (all_from (list_any (holds s)) ps (λ c n. (cover.each c n).sound s h)) refl

-- a clause that holds where the test does is true where the cover is
implied : (m : State → Bool) (ps : List (List Lit)) → IsCover m ps → (c : List Lit) → ((s : State) → m s ≡ true → list_any (holds s) c ≡ true) → (s : State) → list_all (list_any (holds s)) ps ≡ true → list_any (holds s) c ≡ true
implied m ps cover c follows s sat = go (is_tautology c) refl
  where
    go : (b : Bool) → is_tautology c ≡ b → list_any (holds s) c ≡ true
    go true is = tautology_true s c is
    go false proper =
        let e = any_member (λ e. is_within e c) ps (cover.covers c proper follows) in
        true_where_within s e.0 c e.2 (all_member (list_any (holds s)) ps e.0 e.1 sat)

models_back : (i : Initial) (ps : List (List Lit)) → IsCover (is_model i) ps → (s : State) → list_all (list_any (holds s)) ps ≡ true → is_model i s ≡ true
models_back i ps cover s sat =
    and_from (list_all (list_any (holds s)) i.clauses) (list_all (λ p. not (s p.0)) i.closed)
    (all_from (list_any (holds s)) i.clauses (λ c m. implied (is_model i) ps cover c (λ s h. all_member (list_any (holds s)) i.clauses c m (and_parts (list_all (list_any (holds s)) i.clauses) (list_all (λ p. not (s p.0)) i.closed) h).0) s sat))
    (all_from (λ p. not (s p.0)) i.closed (λ p m. elim (or_cases (not (s p.0)) false (implied (is_model i) ps cover (unit_of p) (λ s h. or_left (not (s p.0)) false (all_member (λ p. not (s p.0)) i.closed p m (and_parts (list_all (list_any (holds s)) i.clauses) (list_all (λ p. not (s p.0)) i.closed) h).1)) s sat)) [ inl e ↦ e | inr e ↦ absurd (false≢true e) ]))

same_models : (i : Initial) (ps : List (List Lit)) → IsCover (is_model i) ps → (s : State) → is_model (formula_of ps) s ≡ is_model i s
same_models i ps cover s = bool_same (is_model (formula_of ps) s) (is_model i s)
    (λ h. models_back i ps cover s (and_parts (list_all (list_any (holds s)) ps) true h).0)
    (satisfied (is_model i) ps cover s)

-- ---- a build that succeeds

units_pass : (n : ℕ) (ps : List AtomId) → list_all (λ p. nat_lt p.0 n) ps ≡ true → (c : List Lit) → Member (map unit_of ps) c → list_all (λ l. nat_lt l.atom.0 n) c ≡ true
units_pass n [] h c m = absurd m
units_pass n (p ∷ ps) h c m =
    let parts = and_parts (nat_lt p.0 n) (list_all (λ p. nat_lt p.0 n) ps) h in
    elim m [
      | inl e ↦ subst (λ z. list_all (λ (l : Lit). nat_lt l.atom.0 n) z ≡ true) e (and_from (nat_lt p.0 n) true parts.0 refl)
      | inr r ↦ units_pass n ps parts.1 c r
    ]

-- the clauses have no other atoms
whole_passes : (n : ℕ) (i : Initial) → IsOfAtoms n i → (c : List Lit) → Member (whole i) c → list_all (λ l. nat_lt l.atom.0 n) c ≡ true
whole_passes n i of_atoms =
    all_included_passes (λ l. nat_lt l.atom.0 n) (all_included [] i.clauses) (map unit_of i.closed)
    (all_included_passes (λ l. nat_lt l.atom.0 n) [] i.clauses (λ c m. absurd m) (λ c m. all_member (λ c. list_all (λ l. nat_lt l.atom.0 n) c) i.clauses c m of_atoms.clauses))
    (units_pass n i.closed of_atoms.closed)

-- without the empty clause the empty tag is not found to be inconsistent
empty_consistent : (ps : List (List Lit)) → subsumed ps [] ≡ false → inconsistent ps [] ≡ false
empty_consistent ps free = false_from_ne_true (inconsistent ps []) (λ h.
    let c = any_member (denied []) ps h in
    false≢true (sym free ∙ any_from (λ e. is_within e []) ps c.0 c.1 (within_denied [] c.0 c.2)))

-- what a build that succeeds owes
pub record IsFound (i : Initial) (limit : ℕ) (h : Held) : Type 0 where
  pub holds_primes : HoldsPrimes i h.atoms limit h
  pub whole_invariant : AreWhole h

pub is_found : (i : Initial) (atoms limit : ℕ) (ps qs rs : List (List Lit)) → IsOfAtoms atoms i → AreCounted i.clauses limit (length i.clauses) ps → qs ≡ all_included ps (map unit_of i.closed) → subsumed qs [] ≡ false → IsPermutation qs rs → IsSorted lits_cmp rs → IsFound i limit (record { atoms = atoms; clauses = rs })
is_found i atoms limit ps qs rs of_atoms counted is h perm order = record {
  holds_primes = record {
    atoms_are = refl;
    primes = record { primes = are_primes i rs cover apart; in_order = order };
    same_models = same_models i rs cover;
    has_model = record { state = found.0; model = models_back i rs cover found.0 found.1; all_true = refl };
    never_over = never_over i limit ps counted;
  };
  whole_invariant = record {
    of_atoms = record { clauses = range; closed = refl };
    primes = record { primes = are_primes (formula_of rs) rs own apart; in_order = order };
    covers = λ c imp. own.covers c imp.proper imp.holds_always;
    has_model = record { state = found.0; model = and_from (list_all (list_any (holds found.0)) rs) true found.1 refl; all_true = refl };
  };
}
  where
    so : qs ≡ whole i
    so = store_is i limit ps qs counted is

    before : IsCover (is_model i) qs
    before = subst (IsCover (is_model i)) (sym so) (whole_cover i (all_sets i limit ps counted))

    cover : IsCover (is_model i) rs
    cover = permuted_cover (is_model i) qs rs perm before

    own : IsCover (is_model (formula_of rs)) rs
    own = cover_same (is_model i) (is_model (formula_of rs)) rs (λ s g. same_models i rs cover s ∙ g) (λ s g. sym (same_models i rs cover s) ∙ g) cover

    apart : are_apart rs ≡ true
    apart = permuted_apart qs rs perm (subst (λ z. are_apart z ≡ true) (sym so) (all_included_apart (all_included [] i.clauses) (map unit_of i.closed) (all_included_apart [] i.clauses refl)))

    range : list_all (λ c. list_all (λ l. nat_lt l.atom.0 atoms) c) rs ≡ true
    range = all_from (λ c. list_all (λ l. nat_lt l.atom.0 atoms) c) rs (λ c m. whole_passes atoms i of_atoms c (subst (λ z. Member z c) so (permuted_member qs rs perm c m)))

    found : (s : State) × (list_all (list_any (holds s)) rs ≡ true) × (list_all (holds s) [] ≡ true)
    found = met_somewhere (is_model i) rs cover atoms range [] (empty_consistent rs (sym (list_any-IsPermutation (λ e. is_within e []) qs rs perm) ∙ h))
