-- Atoms by number: their order, their numbers, and that two ascending lists of the same atoms are one list.
use Rattle.std.proofs.Common.{◌≡◌, ℕ, Bool, true, false, not, ◌&&◌, cond, List, [], ◌∷◌, Some, refl, sym, ap, subst, ◌∙◌, inl, inr, nat_eq, nat_lt, zero, suc, ◌+◌, arith, eqb-true, eq-eqb, slice_get, bytes_eq}
use Rattle.std.specs.Cmp.{IsEquivalence, on_equiv, and_equiv, nat_eq_equiv}
use Rattle.std.specs.Cmp.Lexicographic.{lists_equiv}
use Rattle.std.proofs.lemmas.Bool.{and_parts, and_from, or_parts, or_cases, or_left, or_right, false≢true, both_ways, lt-ltb, ltb-true, cases_order, false_from_ne_true}
use Rattle.kp_base.specs.Lists.{Member}
use Rattle.kp_base.specs.Atoms.{Atom, list_before, atom_before, same_atom, has_atom, number_of, AtomsAscend}
use Rattle.kp_base.proofs.Lists.{all_member, member_at, same_member, any_from, bool_same, same-true, same-refl}

pub same_atoms : IsEquivalence same_atom
same_atoms = and_equiv (on_equiv (λ (a : Atom). a.pred) nat_eq_equiv) (on_equiv (λ (a : Atom). a.objects) (lists_equiv nat_eq_equiv))

-- ---- the order

before_irreflexive : (xs : List ℕ) → list_before xs xs ≡ true → ⊥
before_irreflexive [] h = false≢true h
before_irreflexive (x ∷ xs) h =
    elim (or_cases (nat_lt x x) (nat_eq x x && list_before xs xs) h) [
      | inl e ↦ let lt = ltb-true x x e in let no : ⊥ = absurd (omega arith) in no
      | inr e ↦ before_irreflexive xs (and_parts (nat_eq x x) (list_before xs xs) e).1
    ]

before_transitive : (xs ys zs : List ℕ) → list_before xs ys ≡ true → list_before ys zs ≡ true → list_before xs zs ≡ true
before_transitive xs ys [] h g = absurd (false≢true g)
before_transitive xs [] (z ∷ zs) h g = absurd (false≢true h)
before_transitive [] (y ∷ ys) (z ∷ zs) h g = refl
before_transitive (x ∷ xs) (y ∷ ys) (z ∷ zs) h g =
    elim (or_cases (nat_lt x y) (nat_eq x y && list_before xs ys) h) [
      | inl e ↦
          let xy = ltb-true x y e in
          or_left (nat_lt x z) (nat_eq x z && list_before xs zs)
          (elim (or_cases (nat_lt y z) (nat_eq y z && list_before ys zs) g) [
            | inl f ↦ let yz = ltb-true y z f in lt-ltb x z (omega arith)
            | inr f ↦ let yz = eqb-true y z (and_parts (nat_eq y z) (list_before ys zs) f).0 in lt-ltb x z (omega arith)
          ])
      | inr e ↦
          let es = and_parts (nat_eq x y) (list_before xs ys) e in
          let xy = eqb-true x y es.0 in
          elim (or_cases (nat_lt y z) (nat_eq y z && list_before ys zs) g) [
            | inl f ↦ let yz = ltb-true y z f in or_left (nat_lt x z) (nat_eq x z && list_before xs zs) (lt-ltb x z (omega arith))
            | inr f ↦
                let fs = and_parts (nat_eq y z) (list_before ys zs) f in
                or_right (nat_lt x z) (nat_eq x z && list_before xs zs) (and_from (nat_eq x z) (list_before xs zs) (subst (λ k. nat_eq k z ≡ true) (sym xy) fs.0) (before_transitive xs ys zs es.1 fs.1))
          ]
    ]

before_total : (xs ys : List ℕ) → list_before xs ys ≡ false → bytes_eq xs ys ≡ false → list_before ys xs ≡ true
before_total [] [] h g = absurd (false≢true (sym g))
before_total (x ∷ xs) [] h g = refl
before_total [] (y ∷ ys) h g = absurd (false≢true (sym h))
before_total (x ∷ xs) (y ∷ ys) h g =
    let hs = or_parts (nat_lt x y) (nat_eq x y && list_before xs ys) h in
    elim (cases_order x y) [
      | inl e ↦
          let yes : nat_eq x y ≡ true = eq-eqb x y e in
          let h' : list_before xs ys ≡ false = sym (ap (λ t. t && list_before xs ys) yes) ∙ hs.1 in
          let g' : bytes_eq xs ys ≡ false = sym (ap (λ t. t && bytes_eq xs ys) yes) ∙ g in
          or_right (nat_lt y x) (nat_eq y x && list_before ys xs) (and_from (nat_eq y x) (list_before ys xs) (eq-eqb y x (sym e)) (before_total xs ys h' g'))
      | inr o ↦ elim o [
        | inl lt ↦ absurd (both_ways (nat_lt x y) hs.0 (lt-ltb x y lt))
        | inr gt ↦ or_left (nat_lt y x) (nat_eq y x && list_before ys xs) (lt-ltb y x gt)
      ]
    ]

pub atom_never_before_itself : (a : Atom) → atom_before a a ≡ true → ⊥
atom_never_before_itself a h = before_irreflexive (a.pred ∷ a.objects) h

pub atom_before_transitive : (a b c : Atom) → atom_before a b ≡ true → atom_before b c ≡ true → atom_before a c ≡ true
atom_before_transitive a b c = before_transitive (a.pred ∷ a.objects) (b.pred ∷ b.objects) (c.pred ∷ c.objects)

pub atom_before_total : (a b : Atom) → atom_before a b ≡ false → same_atom a b ≡ false → atom_before b a ≡ true
atom_before_total a b = before_total (a.pred ∷ a.objects) (b.pred ∷ b.objects)

pub same_atom-true : (a b : Atom) → same_atom a b ≡ true → a ≡ b
same_atom-true a b h =
    let parts = and_parts (nat_eq a.pred b.pred) (bytes_eq a.objects b.objects) h in
    equal a.pred b.pred a.objects b.objects (eqb-true a.pred b.pred parts.0) (same-true a.objects b.objects parts.1)
  where
    equal : (p q : ℕ) (os us : List ℕ) → p ≡ q → os ≡ us → (let x : Atom = record { pred = p; objects = os } in x) ≡ record { pred = q; objects = us }
    equal p q os us e f = cc

pub same_atom-refl : (a : Atom) → same_atom a a ≡ true
same_atom-refl a = and_from (nat_eq a.pred a.pred) (bytes_eq a.objects a.objects) (eq-eqb a.pred a.pred refl) (same-refl a.objects)

-- ---- ascending lists

pub member_has_atom : (atoms : List Atom) (a : Atom) → Member atoms a → has_atom atoms a ≡ true
member_has_atom atoms a m = any_from (same_atom a) atoms a m (same_atom-refl a)

pub has_atom_member : (atoms : List Atom) (a : Atom) → has_atom atoms a ≡ true → Member atoms a
has_atom_member = same_member same_atom same_atom-true

first-has : (x : Atom) (xs : List Atom) → has_atom (x ∷ xs) x ≡ true
first-has x xs = or_left (same_atom x x) (has_atom xs x) (same_atom-refl x)

-- what stands behind an atom comes after it
behind : (x : Atom) (xs : List Atom) → AtomsAscend (x ∷ xs) → (a : Atom) → has_atom xs a ≡ true → atom_before x a ≡ true
behind x xs s a h = all_member (atom_before x) xs a (has_atom_member xs a h) s.0

not_again : (x : Atom) (xs : List Atom) → AtomsAscend (x ∷ xs) → has_atom xs x ≡ true → ⊥
not_again x xs s h = atom_never_before_itself x (behind x xs s x h)

-- the first atoms of two lists of the same atoms are one
firsts : (x y : Atom) (xs ys : List Atom) → AtomsAscend (x ∷ xs) → AtomsAscend (y ∷ ys) → has_atom (y ∷ ys) x ≡ true → has_atom (x ∷ xs) y ≡ true → x ≡ y
firsts x y xs ys s t h g = elim (or_cases (same_atom x y) (has_atom ys x) h) [
  | inl e ↦ same_atom-true x y e
  | inr e ↦ elim (or_cases (same_atom y x) (has_atom xs y) g) [
    | inl f ↦ sym (same_atom-true y x f)
    | inr f ↦ absurd (atom_never_before_itself x (atom_before_transitive x y x (behind x xs s y f) (behind y ys t x e)))
  ]
]

-- what is behind the one first atom in the one list is so in the other
rests : (x : Atom) (xs ys : List Atom) → AtomsAscend (x ∷ xs) → ((a : Atom) → has_atom (x ∷ xs) a ≡ has_atom (x ∷ ys) a) → (a : Atom) → has_atom xs a ≡ true → has_atom ys a ≡ true
rests x xs ys s h a in_xs = elim (or_cases (same_atom a x) (has_atom ys a) (sym (h a) ∙ or_right (same_atom a x) (has_atom xs a) in_xs)) [
  | inl e ↦ absurd (not_again x xs s (subst (λ z. has_atom xs z ≡ true) (same_atom-true a x e) in_xs))
  | inr e ↦ e
]

pub ascending_atoms_same : (xs ys : List Atom) → AtomsAscend xs → AtomsAscend ys → ((a : Atom) → has_atom xs a ≡ has_atom ys a) → xs ≡ ys
ascending_atoms_same [] [] s t h = refl
ascending_atoms_same [] (y ∷ ys) s t h = absurd (false≢true (h y ∙ first-has y ys))
ascending_atoms_same (x ∷ xs) [] s t h = absurd (false≢true (sym (h x) ∙ first-has x xs))
ascending_atoms_same (x ∷ xs) (y ∷ ys) s t h =
    let first : x ≡ y = firsts x y xs ys s t (sym (h x) ∙ first-has x xs) (h y ∙ first-has y ys) in
    let t' : AtomsAscend (x ∷ ys) = subst (λ z. AtomsAscend (z ∷ ys)) (sym first) t in
    let h' : (a : Atom) → has_atom (x ∷ xs) a ≡ has_atom (x ∷ ys) a = subst (λ z. (a : Atom) → has_atom (x ∷ xs) a ≡ has_atom (z ∷ ys) a) (sym first) h in
    let rest : xs ≡ ys = ascending_atoms_same xs ys s.1 t.1 (λ a. bool_same (has_atom xs a) (has_atom ys a) (rests x xs ys s h' a) (rests x ys xs t' (λ b. sym (h' b)) a)) in
    cc (first, rest)

-- ---- numbers

pub next_place : (n : ℕ) → 1 + n ≡ suc n
next_place n = omega arith

pub atom_at_its_number : (atoms : List Atom) (a : Atom) → Member atoms a → slice_get atoms (number_of atoms a) ≡ Some a
atom_at_its_number [] a m = absurd m
atom_at_its_number (b ∷ more) a m = pick (same_atom a b) refl (λ r. atom_at_its_number more a r)
  where
    pick : (t : Bool) → same_atom a b ≡ t → (Member more a → slice_get more (number_of more a) ≡ Some a) → slice_get (b ∷ more) (cond (not t) (1 + number_of more a) 0) ≡ Some a
    pick true is rest = ap Some (sym (same_atom-true a b is))
    pick false is rest = elim m [
      | inl e ↦ absurd (both_ways (same_atom a b) is (subst (λ z. same_atom a z ≡ true) (sym e) (same_atom-refl a)))
      | inr r ↦ ap (slice_get (b ∷ more)) (next_place (number_of more a)) ∙ rest r
    ]

pub number_once : (atoms : List Atom) → AtomsAscend atoms → (n : ℕ) (a : Atom) → slice_get atoms n ≡ Some a → number_of atoms a ≡ n
number_once [] h n a g = cc
number_once (b ∷ more) h zero a g =
    let e : b ≡ a = cc in
    ap (λ t. cond (not t) (1 + number_of more a) 0) (subst (λ z. same_atom a z ≡ true) (sym e) (same_atom-refl a))
number_once (b ∷ more) h (suc n) a g =
    let before = all_member (atom_before b) more a (member_at more n a g) h.0 in
    let differs = false_from_ne_true (same_atom a b) (λ e. atom_never_before_itself b (subst (λ z. atom_before b z ≡ true) (same_atom-true a b e) before)) in
    ap (λ t. cond (not t) (1 + number_of more a) 0) differs ∙ (next_place (number_of more a) ∙ ap suc (number_once more h.1 n a g))
