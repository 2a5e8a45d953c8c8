-- Literals that may all be false are made false by a state in which each clause is true.
use Rattle.std.proofs.Common.{◌≡◌, ℕ, ◌<◌, Bool, true, false, not, ◌||◌, ◌⊎◌, List, ◌∷◌, refl, sym, ◌∙◌, ap, subst, inl, inr, nat_lt, zero, suc, arith, ltb-true}
use Rattle.std.proofs.lemmas.Bool.{or_cases, or_left, or_right, false≢true, true_from_ne_false, cases_eq, false_from_ne_true}
use Rattle.std.specs.List.{list_any, list_all}
use Rattle.kp_base.specs.declared.lit.Lit.{Lit}
use Rattle.kp_base.specs.Planning.{Member, positive, negative, State, holds, is_tautology}
use Rattle.kp_base.specs.Steps.{has}
use Rattle.kp_base.specs.Implicates.{is_within}
use Rattle.kp_base.proofs.Lists.{any_from, all_from, all_member}
use Rattle.kp_base.proofs.Lits.{has-member, member-has}
use Rattle.kp_clauses.specs.Stored.{subsumed}
use Rattle.kp_clauses.proofs.Within.{proper_more, tautology_from}

-- literals that may all be false: no clause is within them, and no two are opposed
pub record MayFail (cs : List (List Lit)) (F : List Lit) : Type 0 where
  pub free : subsumed cs F ≡ false
  pub proper : is_tautology F ≡ false

-- one literal of each atom may join them
abbrev pub MayJoin : List (List Lit) → Type 0
MayJoin cs = (F : List Lit) → MayFail cs F → (p : ℕ) → subsumed cs (positive p ∷ F) ≡ true → subsumed cs (negative p ∷ F) ≡ true → ⊥

-- all literals of the list are false, and each clause is true
pub record IsFailing (cs : List (List Lit)) (F : List Lit) (s : State) : Type 0 where
  pub all_false : (l : Lit) → Member F l → holds s l ≡ false
  pub clauses_true : list_all (list_any (holds s)) cs ≡ true

abbrev Extension : List (List Lit) → List Lit → ℕ → Type 0
Extension cs F p = (G : List Lit) × ((x : Lit) → Member F x → Member G x) × MayFail cs G × ((has G (positive p) || has G (negative p)) ≡ true)

extend : (cs : List (List Lit)) → MayJoin cs → (F : List Lit) → MayFail cs F → (p : ℕ) → Extension cs F p
extend cs join F may p = there (has F (positive p)) (has F (negative p)) refl refl
  where
    add : (b c : Bool) → has F (positive p) ≡ false → has F (negative p) ≡ false → subsumed cs (positive p ∷ F) ≡ b → subsumed cs (negative p ∷ F) ≡ c → Extension cs F p
    add false c no-p no-n h k = (positive p ∷ F, λ x m. inr m, record { free = h; proper = proper_more F (positive p) may.proper no-n }, or_left (has (positive p ∷ F) (positive p)) (has (positive p ∷ F) (negative p)) (has-member (positive p ∷ F) (positive p) (inl refl)))
    add true false no-p no-n h k = (negative p ∷ F, λ x m. inr m, record { free = k; proper = proper_more F (negative p) may.proper no-p }, or_right (has (negative p ∷ F) (positive p)) (has (negative p ∷ F) (negative p)) (has-member (negative p ∷ F) (negative p) (inl refl)))
    add true true no-p no-n h k = absurd (join F may p h k)

    there : (b c : Bool) → has F (positive p) ≡ b → has F (negative p) ≡ c → Extension cs F p
    there true c h k = (F, λ x m. m, may, or_left (has F (positive p)) (has F (negative p)) h)
    there false true h k = (F, λ x m. m, may, or_right (has F (positive p)) (has F (negative p)) k)
    there false false h k = add (subsumed cs (positive p ∷ F)) (subsumed cs (negative p ∷ F)) h k refl refl

-- a value for each atom below n
extend_all : (cs : List (List Lit)) → MayJoin cs → (n : ℕ) (F : List Lit) → MayFail cs F → (G : List Lit) × ((x : Lit) → Member F x → Member G x) × MayFail cs G × ((p : ℕ) → p < n → Member G (positive p) ⊎ Member G (negative p))
extend_all cs join zero F may = (F, λ x m. m, may, λ p h. absurd (omega arith))
extend_all cs join (suc n) F may =
    let r = extend_all cs join n F may in
    let e = extend cs join r.0 r.2 n in (
      e.0,
      λ x m. e.1 x (r.1 x m),
      e.2,
      λ p h. elim (cases_eq n p) [
        | inl same ↦ elim (or_cases (has e.0 (positive n)) (has e.0 (negative n)) e.3) [
          | inl t ↦ inl (subst (λ q. Member e.0 (positive q)) same (member-has e.0 (positive n) t))
          | inr t ↦ inr (subst (λ q. Member e.0 (negative q)) same (member-has e.0 (negative n) t))
        ]
        | inr ne ↦ elim (r.3 p (omega arith)) [ inl t ↦ inl (e.1 (positive p) t) | inr t ↦ inr (e.1 (negative p) t) ]
      ],
    )

-- the state in which all of G are false
abbrev failing : List Lit → State
failing G p = has G (negative p)

failing_false : (cs : List (List Lit)) (G : List Lit) → MayFail cs G → (l : Lit) → Member G l → holds (failing G) l ≡ false
failing_false cs G may l m = sign l.atom.0 l.positive m
  where
    sign : (p : ℕ) (b : Bool) → Member G (record { atom = record { 0 = p }; positive = b }) → holds (failing G) (record { atom = record { 0 = p }; positive = b }) ≡ false
    sign p true m = false_from_ne_true (has G (negative p)) (λ h. false≢true (sym may.proper ∙ tautology_from G (positive p) m (member-has G (negative p) h)))
    sign p false m = ap not (has-member G (negative p) m)

failing_true : (cs : List (List Lit)) (G : List Lit) (n : ℕ) → MayFail cs G → ((p : ℕ) → p < n → Member G (positive p) ⊎ Member G (negative p)) → (l : Lit) → nat_lt l.atom.0 n ≡ true → has G l ≡ false → holds (failing G) l ≡ true
failing_true cs G n may all l here out = sign l.atom.0 l.positive here out
  where
    sign : (p : ℕ) (b : Bool) → nat_lt p n ≡ true → has G (record { atom = record { 0 = p }; positive = b }) ≡ false → holds (failing G) (record { atom = record { 0 = p }; positive = b }) ≡ true
    sign p true lt out = elim (all p (ltb-true p n lt)) [ inl m ↦ absurd (false≢true (sym out ∙ has-member G (positive p) m)) | inr m ↦ has-member G (negative p) m ]
    sign p false lt out = ap not out

-- the state that makes them false
pub fails : (n : ℕ) (cs : List (List Lit)) → list_all (λ c. list_all (λ l. nat_lt l.atom.0 n) c) cs ≡ true → MayJoin cs → (F : List Lit) → MayFail cs F → (s : State) × IsFailing cs F s
fails n cs range join F may =
    let r = extend_all cs join n F may in
    let G = r.0 in (
      failing G,
      record {
        all_false = λ l m. failing_false cs G r.2 l (r.1 l m);
        clauses_true = all_from (list_any (holds (failing G))) cs (λ e m.
            true_from_ne_false (list_any (holds (failing G)) e) (λ none.
            false≢true (sym r.2.free ∙ any_from (λ e. is_within e G) cs e m (all_from (has G) e (λ l in-l.
            true_from_ne_false (has G l) (λ out. false≢true (sym none ∙ any_from (holds (failing G)) e l in-l
            (failing_true cs G n r.2 r.3 l (all_member (λ l. nat_lt l.atom.0 n) e l in-l (all_member (λ c. list_all (λ l. nat_lt l.atom.0 n) c) cs e m range)) out))))))));
      },
    )
