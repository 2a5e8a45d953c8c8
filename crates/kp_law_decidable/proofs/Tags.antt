-- Which tags are consistent, what they entail, which tags clauses have, and whether tags meet clauses, is decided.
use Rattle.std.proofs.Common.{◌≡◌, ◌⊎◌, ◌≤◌, ◌+◌, ℕ, suc, Bool, true, false, not, nat_lt, List, [], ◌∷◌, filter, map, refl, sym, ap, ◌∙◌, inl, inr, arith, ltb-true, lt-ltb}
use Rattle.std.proofs.lemmas.Bool.{and_parts, and_from, false≢true}
use Rattle.std.specs.List.{list_all}
use Rattle.kp_base.specs.declared.lit.Lit.{Lit}
use Rattle.kp_base.specs.declared.ground.Initial.{Initial}
use Rattle.kp_base.specs.Planning.{Member, choices, each_once, negated, set_of, same_set, State, holds, is_model, Entails, IsConsistent, TellsConsistent, AreTagsOfClauses, Meets, AllMeet, are_below, IsOfAtoms}
use Rattle.kp_base.proofs.Lists.{all_weaker}
use Rattle.kp_base.proofs.Lits.{holds-negated}
use Rattle.kp_law_decidable.specs.Laws.{TagsAreDecided}
use Rattle.kp_law_decidable.proofs.Modelled.{consistent_or_not}
use Rattle.kp_law_decidable.proofs.Either.{IsEither, said, told, some_or_none, each_or_not, as_well}

-- ---- more atoms

pub below_more : (m n : ℕ) → m ≤ n → (ls : List Lit) → are_below m ls ≡ true → are_below n ls ≡ true
below_more m n le ls = all_weaker (λ (l : Lit). nat_lt l.atom.0 m) (λ (l : Lit). nat_lt l.atom.0 n) ls (λ l _ h. let lt = ltb-true l.atom.0 m h in lt-ltb l.atom.0 n (omega (arith, lt, le)))

pub over_more : (m n : ℕ) → m ≤ n → (i : Initial) → IsOfAtoms m i → IsOfAtoms n i
over_more m n le i over = record {
  clauses = all_weaker (are_below m) (are_below n) i.clauses (λ c _. below_more m n le c) over.clauses;
  closed = all_weaker (λ p. nat_lt p.0 m) (λ p. nat_lt p.0 n) i.closed (λ p _ h. let lt = ltb-true p.0 m h in lt-ltb p.0 n (omega (arith, lt, le))) over.closed;
}

-- at least n atoms, and those of these literals
pub record Room (n : ℕ) (ls : List Lit) : Type 0 where
  pub atoms : ℕ
  pub more : n ≤ atoms
  pub below : are_below atoms ls ≡ true

pub room : (n : ℕ) (ls : List Lit) → Room n ls
room n [] = record { atoms = n; more = omega arith; below = refl }
room n (l ∷ ls) = go (room n ls)
  where
    go : Room n ls → Room n (l ∷ ls)
    go r = record {
      atoms = r.atoms + suc l.atom.0;
      more = let le = r.more in omega (arith, le);
      below = and_from (nat_lt l.atom.0 (r.atoms + suc l.atom.0)) (are_below (r.atoms + suc l.atom.0) ls) (lt-ltb l.atom.0 (r.atoms + suc l.atom.0) (omega arith)) (below_more r.atoms (r.atoms + suc l.atom.0) (omega arith) ls r.below);
    }

-- ---- one tag

module _ (n : ℕ) (i : Initial) (over : IsOfAtoms n i) where
  pub consistent : (tag : List Lit) → IsEither (IsConsistent i tag)
  consistent tag = let r = room n tag in consistent_or_not r.atoms i (over_more n r.atoms r.more i over) tag r.below

  pub entails : (tag : List Lit) (l : Lit) → IsEither (Entails i tag l)
  entails tag l = go (consistent (negated l ∷ tag))
    where
      go : IsEither (IsConsistent i (negated l ∷ tag)) → IsEither (Entails i tag l)
      go (inl c) = inr (λ e.
          let parts = and_parts (holds c.state (negated l)) (list_all (holds c.state) tag) c.all_true in
          false≢true (sym (ap not (e c.state c.model parts.1)) ∙ (sym (holds-negated c.state l) ∙ parts.0)))
      go (inr none) = inl (λ s m all. by s m all (holds s l) refl)
        where
          by : (s : State) → is_model i s ≡ true → list_all (holds s) tag ≡ true → (b : Bool) → holds s l ≡ b → holds s l ≡ true
          by s m all true is = is
          by s m all false is = absurd (none (record { state = s; model = m; all_true = and_from (holds s (negated l)) (list_all (holds s) tag) (holds-negated s l ∙ ap not is) all }))

  pub meets : (tag c : List Lit) → IsEither (Meets i tag c)
  meets tag c = go (some_or_none (Entails i tag) c (λ l _. entails tag l))
    where
      go : ((l : Lit) × Member c l × Entails i tag l) ⊎ ((l : Lit) → Member c l → Entails i tag l → ⊥) → IsEither (Meets i tag c)
      go (inl (l, m, e)) = inl (record { lit = l; of_clause = m; entailed = e })
      go (inr none) = inr (λ r. none r.lit r.of_clause r.entailed)

  -- ---- tags and clauses

  pub test : List Lit → Bool
  test tag = said (consistent tag)

  pub tells : TellsConsistent i test
  unfolding test
  tells tag = told (consistent tag)

  pub cov : (clauses : List (List Lit)) → (tags : List (List Lit)) × AreTagsOfClauses i clauses tags
  cov clauses = (each_once same_set (filter test (map set_of (choices clauses))), record { test = test; tells = tells; are = refl })

  pub all_meet : (tags clauses : List (List Lit)) → IsEither (AllMeet i tags clauses)
  all_meet tags clauses =
      as_well (λ f tag c mt mc. f tag mt c mc) (λ f tag mt c mc. f tag c mt mc)
      (each_or_not (λ tag. (c : List Lit) → Member clauses c → Meets i tag c) tags
      (λ tag _. each_or_not (Meets i tag) clauses (λ c _. meets tag c)))

pub tags_decided : TagsAreDecided
tags_decided n i over = record { test = test n i over; tells = tells n i over; tags = cov n i over; meeting = all_meet n i over }
