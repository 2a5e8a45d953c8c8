-- The store holds just the prime implicates.
use Rattle.std.proofs.Common.{◌≡◌, ℕ, Bool, true, false, not, ◌||◌, ◌&&◌, List, [], ◌∷◌, refl, sym, ◌∙◌, ap, subst, inl, inr}
use Rattle.std.proofs.lemmas.Bool.{and_parts, and_from, or_left, false≢true, not-true}
use Rattle.std.specs.List.{list_any, list_all}
use Rattle.kp_base.specs.declared.lit.Lit.{Lit}
use Rattle.kp_base.specs.declared.ground.Initial.{Initial}
use Rattle.kp_base.specs.Planning.{Member, positive, negative, IsAscending, State, holds, is_model, is_tautology, IsImplicate, IsPrime, IsOnce, ListsPrimes}
use Rattle.kp_base.specs.Steps.{has}
use Rattle.kp_base.specs.Implicates.{is_within}
use Rattle.kp_base.proofs.Lists.{any_member, all_member}
use Rattle.kp_base.proofs.Lits.{has-member, member-has}
use Rattle.kp_base.proofs.Members.{ascending_same}
use Rattle.kp_clauses.specs.Stored.{are_apart}
use Rattle.kp_clauses.proofs.Public.{within_member, within_trans, within_self, tautology_from, stored_within_is_itself}
use Rattle.kp_primes.specs.Included.{included, all_included}
use Rattle.kp_primes.proofs.Cover.{IsCover, both, included_cover, included_apart}

-- no clauses cover the implicates of no clauses
pub empty_cover : IsCover (λ s. true) []
empty_cover = record {
  each = λ c m. absurd m;
  covers = λ d proper always.
      let s : State = λ p. has d (negative p) in
      let x = any_member (holds s) d (always s refl) in
      absurd (never d proper x.0.atom.0 x.0.positive x.1 x.2);
}
  where
    never : (d : List Lit) → is_tautology d ≡ false → (p : ℕ) (b : Bool) → Member d (record { atom = record { 0 = p }; positive = b }) → holds (λ p. has d (negative p)) (record { atom = record { 0 = p }; positive = b }) ≡ true → ⊥
    never d proper p true m h = false≢true (sym proper ∙ tautology_from d (positive p) m (member-has d (negative p) h))
    never d proper p false m h = false≢true (sym (ap not (has-member d (negative p) m)) ∙ h)

-- covers where the tests agree
pub cover_same : (m n : State → Bool) (ps : List (List Lit)) → ((s : State) → m s ≡ true → n s ≡ true) → ((s : State) → n s ≡ true → m s ≡ true) → IsCover m ps → IsCover n ps
cover_same m n ps f g cover = record {
  each = λ c i. let fit = cover.each c i in record { proper = fit.proper; set = fit.set; sound = λ s h. fit.sound s (g s h) };
  covers = λ d proper follows. cover.covers d proper (λ s h. follows s (f s h));
}

pub all_included_cover : (m : State → Bool) (ps cs : List (List Lit)) → ((c : List Lit) → Member cs c → IsAscending c) → IsCover m ps → IsCover (λ s. m s && list_all (list_any (holds s)) cs) (all_included ps cs)
all_included_cover m ps [] sets cover = cover_same m (λ s. m s && true) ps (λ s h. and_from (m s) true h refl) (λ s h. (and_parts (m s) true h).0) cover
all_included_cover m ps (c ∷ cs) sets cover =
    let rest = all_included_cover (both m c) (included ps c) cs (λ d i. sets d (inr i)) (included_cover m ps cover c (sets c (inl refl))) in
    cover_same (λ s. both m c s && list_all (list_any (holds s)) cs) (λ s. m s && list_all (list_any (holds s)) (c ∷ cs)) (all_included (included ps c) cs)
    (λ s h. let a = and_parts (both m c s) (list_all (list_any (holds s)) cs) h in let b = and_parts (m s) (list_any (holds s) c) a.0 in and_from (m s) (list_all (list_any (holds s)) (c ∷ cs)) b.0 (and_from (list_any (holds s) c) (list_all (list_any (holds s)) cs) b.1 a.1))
    (λ s h. let a = and_parts (m s) (list_all (list_any (holds s)) (c ∷ cs)) h in let b = and_parts (list_any (holds s) c) (list_all (list_any (holds s)) cs) a.1 in and_from (both m c s) (list_all (list_any (holds s)) cs) (and_from (m s) (list_any (holds s) c) a.0 b.0) b.1)
    rest

pub all_included_apart : (ps cs : List (List Lit)) → are_apart ps ≡ true → are_apart (all_included ps cs) ≡ true
all_included_apart ps [] h = h
all_included_apart ps (c ∷ cs) h = all_included_apart (included ps c) cs (included_apart ps c h)

pub once : (cs : List (List Lit)) → are_apart cs ≡ true → IsOnce cs
once [] h = tt
once (c ∷ cs) h =
    let parts = and_parts (list_all (λ d. not (is_within c d || is_within d c)) cs) (are_apart cs) h in (
      λ m. false≢true (sym (not-true (is_within c c || is_within c c) (all_member (λ d. not (is_within c d || is_within d c)) cs c m parts.0)) ∙ or_left (is_within c c) (is_within c c) (within_self c)),
      once cs parts.1,
    )

-- a cover of which no clause is within another has just the prime implicates
pub are_primes : (i : Initial) (ps : List (List Lit)) → IsCover (is_model i) ps → are_apart ps ≡ true → ListsPrimes i ps
are_primes i ps cover far = record { exact = λ c. (prime c, there c); once = once ps far }
  where
    implicate : (e : List Lit) → Member ps e → IsImplicate i e
    implicate e m = let f = cover.each e m in record { proper = f.proper; holds_always = f.sound }

    prime : (c : List Lit) → Member ps c → IsPrime i c
    prime c m = record {
      ascending = (cover.each c m).set;
      implicate = implicate c m;
      least = λ d imp sub.
          let e = any_member (λ e. is_within e d) ps (cover.covers d imp.proper imp.holds_always) in
          let same = stored_within_is_itself ps e.0 c far e.1 m (within_trans e.0 d c e.2 sub) in
          subst (λ (y : List Lit). is_within y d ≡ true) same e.2;
    }

    there : (c : List Lit) → IsPrime i c → Member ps c
    there c p =
        let e = any_member (λ e. is_within e c) ps (cover.covers c p.implicate.proper p.implicate.holds_always) in
        let back = p.least e.0 (implicate e.0 e.1) e.2 in
        subst (Member ps) (ascending_same e.0 c (cover.each e.0 e.1).set p.ascending (within_member e.0 c e.2) (within_member c e.0 back)) e.1
