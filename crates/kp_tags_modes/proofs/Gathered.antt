-- The atoms of clauses, gathered one by one.
use Rattle.std.proofs.Common.{◌≡◌, ◌⊎◌, ℕ, true, List, [], ◌∷◌, fold, map, refl, sym, ap, subst, ◌∙◌, inl, inr}
use Rattle.std.proofs.lemmas.Bool.{or_cases, or_left, or_right}
use Rattle.kp_base.specs.declared.lit.Lit.{Lit}
use Rattle.kp_base.specs.declared.ground.Initial.{Initial}
use Rattle.kp_base.specs.Planning.{Member, positive, same_lit, IsAscending, with_lit, either_value, AreTagsOfClauses}
use Rattle.kp_base.specs.Lit.{has}
use Rattle.kp_base.proofs.Lists.{map_map, member_map, map_member}
use Rattle.kp_base.proofs.Lits.{same_lit-true, same_lit-refl, has-member, member-has}
use Rattle.kp_base.proofs.Sets.{any-with_lit}
use Rattle.kp_base.proofs.Ascending.{IsAscending-with_lit}
use Rattle.kp_tags_modes.specs.Assignments.{HasAtom, AreAtomsOf}
use Rattle.kp_tags_modes.specs.Modes.{AreOtherwise}
use Rattle.kp_tags_modes.specs.Added.{with_atoms, atoms_in, IsOver}

-- ---- a set with one literal more

in-with : (l : Lit) (ls : List Lit) (x : Lit) → Member (with_lit l ls) x → Member ls x ⊎ (x ≡ l)
in-with l ls x m = elim (or_cases (has ls x) (same_lit x l) (sym (any-with_lit (same_lit x) l ls) ∙ has-member (with_lit l ls) x m)) [
  | inl e ↦ inl (member-has ls x e)
  | inr e ↦ inr (same_lit-true x l e)
]

with-old : (l : Lit) (ls : List Lit) (x : Lit) → Member ls x → Member (with_lit l ls) x
with-old l ls x m = member-has (with_lit l ls) x (any-with_lit (same_lit x) l ls ∙ or_left (has ls x) (same_lit x l) (has-member ls x m))

with-new : (l : Lit) (ls : List Lit) → Member (with_lit l ls) l
with-new l ls = member-has (with_lit l ls) l (any-with_lit (same_lit l) l ls ∙ or_right (has ls l) (same_lit l l) (same_lit-refl l))

-- ---- the atoms of a clause

record IsOf (c : List Lit) (x : Lit) : Type 0 where
  lit : Lit
  lit_in : Member c lit
  is : x ≡ positive lit.atom.0

of-rest : (d : Lit) (c : List Lit) (x : Lit) → IsOf c x → IsOf (d ∷ c) x
of-rest d c x h = record { lit = h.lit; lit_in = inr h.lit_in; is = h.is }

in-atoms : (c set : List Lit) (x : Lit) → Member (with_atoms set c) x → Member set x ⊎ IsOf c x
in-atoms [] set x m = inl m
in-atoms (l ∷ c) set x m = elim (in-atoms c (with_lit (positive l.atom.0) set) x m) [
  | inl k ↦ elim (in-with (positive l.atom.0) set x k) [ inl old ↦ inl old | inr e ↦ inr (record { lit = l; lit_in = inl refl; is = e }) ]
  | inr h ↦ inr (of-rest l c x h)
]

atoms-old : (c set : List Lit) (x : Lit) → Member set x → Member (with_atoms set c) x
atoms-old [] set x m = m
atoms-old (l ∷ c) set x m = atoms-old c (with_lit (positive l.atom.0) set) x (with-old (positive l.atom.0) set x m)

atoms-new : (c set : List Lit) (l : Lit) → Member c l → Member (with_atoms set c) (positive l.atom.0)
atoms-new [] set l m = absurd m
atoms-new (d ∷ c) set l m = elim m [
  | inl e ↦ subst (λ (z : Lit). Member (with_atoms set (d ∷ c)) (positive z.atom.0)) e (atoms-old c (with_lit (positive d.atom.0) set) (positive d.atom.0) (with-new (positive d.atom.0) set))
  | inr r ↦ atoms-new c (with_lit (positive d.atom.0) set) l r
]

atoms-ascend : (c set : List Lit) → IsAscending set → IsAscending (with_atoms set c)
atoms-ascend [] set a = a
atoms-ascend (l ∷ c) set a = atoms-ascend c (with_lit (positive l.atom.0) set) (IsAscending-with_lit set (positive l.atom.0) a)

-- ---- the atoms of clauses

record IsOfSome (cs : List (List Lit)) (x : Lit) : Type 0 where
  atom : ℕ
  has_atom : HasAtom cs atom
  is : x ≡ positive atom

of-more : (c : List Lit) (cs : List (List Lit)) (x : Lit) → IsOfSome cs x → IsOfSome (c ∷ cs) x
of-more c cs x h = record { atom = h.atom; has_atom = record { clause = h.has_atom.clause; lit = h.has_atom.lit; clause_in = inr h.has_atom.clause_in; lit_in = h.has_atom.lit_in; of_atom = h.has_atom.of_atom }; is = h.is }

in-all : (cs : List (List Lit)) (set : List Lit) (x : Lit) → Member (fold with_atoms set cs) x → Member set x ⊎ IsOfSome cs x
in-all [] set x m = inl m
in-all (c ∷ cs) set x m = elim (in-all cs (with_atoms set c) x m) [
  | inl k ↦ elim (in-atoms c set x k) [
    | inl old ↦ inl old
    | inr h ↦ inr (record { atom = h.lit.atom.0; has_atom = record { clause = c; lit = h.lit; clause_in = inl refl; lit_in = h.lit_in; of_atom = refl }; is = h.is })
  ]
  | inr h ↦ inr (of-more c cs x h)
]

all-old : (cs : List (List Lit)) (set : List Lit) (x : Lit) → Member set x → Member (fold with_atoms set cs) x
all-old [] set x m = m
all-old (c ∷ cs) set x m = all-old cs (with_atoms set c) x (atoms-old c set x m)

all-new : (cs : List (List Lit)) (set c : List Lit) (l : Lit) → Member cs c → Member c l → Member (fold with_atoms set cs) (positive l.atom.0)
all-new [] set c l mc ml = absurd mc
all-new (d ∷ cs) set c l mc ml = elim mc [
  | inl e ↦ all-old cs (with_atoms set d) (positive l.atom.0) (atoms-new d set l (subst (λ (z : List Lit). Member z l) (sym e) ml))
  | inr r ↦ all-new cs (with_atoms set d) c l r ml
]

all-ascend : (cs : List (List Lit)) (set : List Lit) → IsAscending set → IsAscending (fold with_atoms set cs)
all-ascend [] set a = a
all-ascend (c ∷ cs) set a = all-ascend cs (with_atoms set c) (atoms-ascend c set a)

-- ---- as numbers

abbrev pub numbers : List (List Lit) → List ℕ
numbers cs = map (λ l. l.atom.0) (atoms_in cs)

same-each : (ls : List Lit) → ((l : Lit) → Member ls l → l ≡ positive l.atom.0) → map positive (map (λ l. l.atom.0) ls) ≡ ls
same-each [] h = refl
same-each (l ∷ ls) h = ap (λ z. z ∷ map positive (map (λ l. l.atom.0) ls)) (sym (h l (inl refl))) ∙ ap (λ zs. l ∷ zs) (same-each ls (λ x m. h x (inr m)))

positive-each : (cs : List (List Lit)) (x : Lit) → Member (atoms_in cs) x → x ≡ positive x.atom.0
positive-each cs x m = elim (in-all cs [] x m) [ inl bad ↦ absurd bad | inr h ↦ h.is ∙ ap (λ (y : Lit). positive y.atom.0) (sym h.is) ]

pub atoms_are : (cs : List (List Lit)) → AreAtomsOf cs (numbers cs)
atoms_are cs = record {
  exact = λ p. (
    λ m. let q = map_member (λ (l : Lit). l.atom.0) (atoms_in cs) p m in
        elim (in-all cs [] q.0 q.1) [
          | inl bad ↦ absurd bad
          | inr h ↦ record { clause = h.has_atom.clause; lit = h.has_atom.lit; clause_in = h.has_atom.clause_in; lit_in = h.has_atom.lit_in; of_atom = h.has_atom.of_atom ∙ (ap (λ (y : Lit). y.atom.0) (sym h.is) ∙ q.2) }
        ],
    λ a. subst (λ (n : ℕ). Member (numbers cs) n) a.of_atom (member_map (λ (l : Lit). l.atom.0) (atoms_in cs) (positive a.lit.atom.0) (all-new cs [] a.clause a.lit a.clause_in a.lit_in)),
  );
  ascending = subst IsAscending (sym (same-each (atoms_in cs) (positive-each cs))) (all-ascend cs [] tt);
}

-- the merge over all atoms' values is that of the assignments
pub are_assignments : (i : Initial) (cs either : List (List Lit)) → either ≡ map (λ l. either_value l.atom.0) (atoms_in cs) → (lists : List (List (List Lit))) → IsOver i either lists → AreOtherwise i cs true lists
are_assignments i cs either e _ (IsOver.one tags is) = AreOtherwise.by_models tags (record {
  atoms = numbers cs;
  are_atoms = atoms_are cs;
  are = subst (λ (z : List (List Lit)). AreTagsOfClauses i z tags) (e ∙ sym (map_map (λ (l : Lit). l.atom.0) either_value (λ l. either_value l.atom.0) (atoms_in cs) (λ l. refl))) is;
})
