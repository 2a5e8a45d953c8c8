-- The first clash of an action is a clash, and no clash comes before it.
use Rattle.std.proofs.Common.{◌≡◌, ◌⊎◌, ◌<◌, ◌≤◌, ◌+◌, ℕ, suc, Bool, true, false, not, if◌then◌else◌, List, [], ◌∷◌, Option, Some, None, option_map, length, nat_lt, slice_get, inl, inr, refl, sym, ap, subst, ◌∙◌, arith}
use Rattle.std.proofs.lemmas.Bool.{and_parts, and_from, both_ways, ltb-true, ltb-false}
use Rattle.std.specs.List.{position_from}
use Rattle.std.proofs.lemmas.Option.{slice_get_within}
use Rattle.kp_base.specs.declared.lit.Lit.{Lit}
use Rattle.kp_base.specs.declared.ground.Effect.{Effect}
use Rattle.kp_base.specs.declared.ground.Action.{Action}
use Rattle.kp_base.specs.declared.refused.ClashAt.{ClashAt}
use Rattle.kp_base.specs.Lit.{positive, negative, negated, same_lit}
use Rattle.kp_base.specs.Clashes.{Pairs, compatible_effects, Clashes}
use Rattle.kp_base.proofs.Lits.{same_lit-true, same_lit-refl}
use Rattle.kp_clash.specs.Searching.{clash_together, clash_at, found_at, keep, best_from}
use Rattle.kp_clash.proofs.Places.{IsPlace, place_found, place_none}

-- the clash stands before this one, or is it
abbrev pub Before : ClashAt → ℕ → ℕ → ℕ → Type 0
Before c p i j = (c.atom.0 < p) ⊎ ((c.atom.0 ≡ p) × ((c.add < i) ⊎ ((c.add ≡ i) × (c.delete ≤ j))))

-- a clash of the action n among its first adds, and no clash among these comes before it
pub record Least (pairs : Pairs) (n : ℕ) (a : Action) (i : ℕ) (c : ClashAt) : Type 0 where
  pub action : c.action ≡ n
  pub clashes : Clashes pairs a c.atom.0 c.add c.delete
  pub within : c.add < i
  pub least : (p k j : ℕ) → k < i → Clashes pairs a p k j → Before c p k j

-- what was found among the first adds
abbrev pub IsBest : Pairs → ℕ → Action → ℕ → Option ClashAt → Type 0
IsBest pairs n a i None = (p k j : ℕ) → k < i → Clashes pairs a p k j → ⊥
IsBest pairs n a i (Some c) = Least pairs n a i c

-- ---- one add

-- an add and a delete that are found clash
pub are_clash : (pairs : Pairs) (a : Action) (e f : Effect) (i j : ℕ) → e.result.positive ≡ true → slice_get a.effects i ≡ Some e → slice_get a.effects j ≡ Some f → clash_together pairs a e f ≡ true → Clashes pairs a e.result.atom.0 i j
are_clash pairs a e f i j sign at there h =
    let parts = and_parts (same_lit (negated e.result) f.result) (compatible_effects pairs a e f) h in
    let same = same_lit-true (negated e.result) f.result parts.0 in
    record { adding = e; deleting = f; add_at = at; delete_at = there; adds = added e.result sign; deletes = sym same ∙ denied e.result sign; compatible = parts.1 }
  where
    added : (l : Lit) → l.positive ≡ true → l ≡ positive l.atom.0
    added l is = ap (λ b. let m : Lit = record { atom = l.atom; positive = b } in m) is

    denied : (l : Lit) → l.positive ≡ true → negated l ≡ negative l.atom.0
    denied l is = ap (λ b. let m : Lit = record { atom = l.atom; positive = not b } in m) is

-- a clash has such an add and delete
pub together : (pairs : Pairs) (a : Action) (p i j : ℕ) (c : Clashes pairs a p i j) → (c.adding.result.positive ≡ true) × (c.adding.result.atom.0 ≡ p) × (clash_together pairs a c.adding c.deleting ≡ true)
together pairs a p i j c = (
  ap (λ (l : Lit). l.positive) c.adds,
  ap (λ (l : Lit). l.atom.0) c.adds,
  and_from (same_lit (negated c.adding.result) c.deleting.result) (compatible_effects pairs a c.adding c.deleting) (rw (c.adds, c.deletes) (same_lit-refl (negative p))) c.compatible,
)

-- what is said of one add: no clash, or its first one
abbrev pub IsOfAdd : Pairs → ℕ → Action → ℕ → Option ClashAt → Type 0
IsOfAdd pairs n a i None = (p j : ℕ) → Clashes pairs a p i j → ⊥
IsOfAdd pairs n a i (Some d) = (d.action ≡ n) × (d.add ≡ i) × Clashes pairs a d.atom.0 i d.delete × ((p j : ℕ) → Clashes pairs a p i j → (p ≡ d.atom.0) × (d.delete ≤ j))

of_add : (pairs : Pairs) (n : ℕ) (a : Action) (i : ℕ) (e : Effect) → slice_get a.effects i ≡ Some e → IsOfAdd pairs n a i (found_at pairs n a i e)
of_add pairs n a i e at = by e.result.positive refl
  where
    same_adding : (p j : ℕ) (c : Clashes pairs a p i j) → c.adding ≡ e
    same_adding p j c = let h = c.add_at in cc

    place_of : (o : Option ℕ) → position_from (clash_together pairs a e) 0 a.effects ≡ o → e.result.positive ≡ true → IsOfAdd pairs n a i (option_map (clash_at n i e) o)
    place_of None is sign = λ p j c.
        let t = together pairs a p i j c in
        both_ways (clash_together pairs a e c.deleting) (place_none (clash_together pairs a e) 0 a.effects is j c.deleting c.delete_at) (subst (λ (x : Effect). clash_together pairs a x c.deleting ≡ true) (same_adding p j c) t.2)
    place_of (Some k) is sign =
        let r = place_found (clash_together pairs a e) 0 a.effects k is in
        let k_is : r.place ≡ k = omega (arith, r.is) in (
          refl,
          refl,
          are_clash pairs a e r.item i k sign at (subst (λ m. slice_get a.effects m ≡ Some r.item) k_is r.item_at) r.passes,
          λ p j c. let t = together pairs a p i j c in (
            sym t.1 ∙ ap (λ (x : Effect). x.result.atom.0) (same_adding p j c),
            not_before r k_is j c.deleting c.delete_at (subst (λ (x : Effect). clash_together pairs a x c.deleting ≡ true) (same_adding p j c) t.2),
          ),
        )
      where
        not_before : (r : IsPlace (clash_together pairs a e) 0 a.effects k) → r.place ≡ k → (j : ℕ) (f : Effect) → slice_get a.effects j ≡ Some f → clash_together pairs a e f ≡ true → k ≤ j
        not_before r k_is j f g h = go (nat_lt j k) refl
          where
            go : (t : Bool) → nat_lt j k ≡ t → k ≤ j
            go false lt = ltb-false j k lt
            go true lt = absurd (both_ways (clash_together pairs a e f) (r.before j f (let m = ltb-true j k lt in omega (arith, m, k_is)) g) h)

    denied : e.result.positive ≡ false → IsOfAdd pairs n a i None
    denied is p j c = let t = together pairs a p i j c in absurd (both_ways e.result.positive is (subst (λ (x : Effect). x.result.positive ≡ true) (same_adding p j c) t.0))

    by : (t : Bool) → e.result.positive ≡ t → IsOfAdd pairs n a i (if t then option_map (clash_at n i e) (position_from (clash_together pairs a e) 0 a.effects) else None)
    by true is = place_of (position_from (clash_together pairs a e) 0 a.effects) refl is
    by false is = denied is

-- ---- one add more

keep_best : (pairs : Pairs) (n : ℕ) (a : Action) (i : ℕ) (first found : Option ClashAt) → IsBest pairs n a i first → IsOfAdd pairs n a i found → IsBest pairs n a (suc i) (keep first found)
keep_best pairs n a i None None best of_i = λ p k j lt c. go p k j lt c (nat_lt k i) refl
  where
    go : (p k j : ℕ) → k < suc i → Clashes pairs a p k j → (t : Bool) → nat_lt k i ≡ t → ⊥
    go p k j lt c true l = best p k j (ltb-true k i l) c
    go p k j lt c false l = let m = ltb-false k i l in let e : k ≡ i = omega (arith, lt, m) in of_i p j (subst (λ x. Clashes pairs a p x j) e c)
keep_best pairs n a i (Some b) None best of_i = record { action = best.action; clashes = best.clashes; within = let w = best.within in omega (arith, w); least = λ p k j lt c. go p k j lt c (nat_lt k i) refl }
  where
    go : (p k j : ℕ) → k < suc i → Clashes pairs a p k j → (t : Bool) → nat_lt k i ≡ t → Before b p k j
    go p k j lt c true l = best.least p k j (ltb-true k i l) c
    go p k j lt c false l = let m = ltb-false k i l in let e : k ≡ i = omega (arith, lt, m) in absurd (of_i p j (subst (λ x. Clashes pairs a p x j) e c))
keep_best pairs n a i None (Some d) best of_i = record { action = of_i.0; clashes = subst (λ x. Clashes pairs a d.atom.0 x d.delete) (sym of_i.1) of_i.2; within = let e = of_i.1 in omega (arith, e); least = λ p k j lt c. go p k j lt c (nat_lt k i) refl }
  where
    go : (p k j : ℕ) → k < suc i → Clashes pairs a p k j → (t : Bool) → nat_lt k i ≡ t → Before d p k j
    go p k j lt c true l = absurd (best p k j (ltb-true k i l) c)
    go p k j lt c false l =
        let m = ltb-false k i l in
        let e : k ≡ i = omega (arith, lt, m) in
        let h = of_i.3 p j (subst (λ x. Clashes pairs a p x j) e c) in
        inr (sym h.0, inr (of_i.1 ∙ sym e, h.1))
keep_best pairs n a i (Some b) (Some d) best of_i = pick (nat_lt d.atom.0 b.atom.0) refl
  where
    at_i : (p k j : ℕ) → k < suc i → nat_lt k i ≡ false → Clashes pairs a p k j → (k ≡ i) × (p ≡ d.atom.0) × (d.delete ≤ j)
    at_i p k j lt l c =
        let m = ltb-false k i l in
        let e : k ≡ i = omega (arith, lt, m) in
        let h = of_i.3 p j (subst (λ x. Clashes pairs a p x j) e c) in
        (e, h.0, h.1)

    new_first : nat_lt d.atom.0 b.atom.0 ≡ true → (p k j : ℕ) → k < suc i → Clashes pairs a p k j → (t : Bool) → nat_lt k i ≡ t → Before d p k j
    new_first less p k j lt c false l = let h = at_i p k j lt l c in inr (sym h.1, inr (of_i.1 ∙ sym h.0, h.2))
    new_first less p k j lt c true l = go (best.least p k j (ltb-true k i l) c)
      where
        go : Before b p k j → Before d p k j
        go (inl x) = let y = ltb-true d.atom.0 b.atom.0 less in inl (omega (arith, x, y))
        go (inr x) = let y = ltb-true d.atom.0 b.atom.0 less in let z = x.0 in inl (omega (arith, y, z))

    old_first : nat_lt d.atom.0 b.atom.0 ≡ false → (p k j : ℕ) → k < suc i → Clashes pairs a p k j → (t : Bool) → nat_lt k i ≡ t → Before b p k j
    old_first less p k j lt c true l = best.least p k j (ltb-true k i l) c
    old_first less p k j lt c false l = go (nat_lt b.atom.0 p) refl
      where
        h : (k ≡ i) × (p ≡ d.atom.0) × (d.delete ≤ j)
        h = at_i p k j lt l c

        go : (t : Bool) → nat_lt b.atom.0 p ≡ t → Before b p k j
        go true is = inl (ltb-true b.atom.0 p is)
        go false is =
            let x = ltb-false b.atom.0 p is in
            let y = ltb-false d.atom.0 b.atom.0 less in
            let z = h.1 in
            let w = best.within in
            let e = h.0 in
            inr (omega (arith, x, y, z), inl (omega (arith, w, e)))

    pick : (t : Bool) → nat_lt d.atom.0 b.atom.0 ≡ t → Least pairs n a (suc i) (if t then d else b)
    pick true less = record { action = of_i.0; clashes = subst (λ x. Clashes pairs a d.atom.0 x d.delete) (sym of_i.1) of_i.2; within = let e = of_i.1 in omega (arith, e); least = λ p k j lt c. new_first less p k j lt c (nat_lt k i) refl }
    pick false less = record { action = best.action; clashes = best.clashes; within = let w = best.within in omega (arith, w); least = λ p k j lt c. old_first less p k j lt c (nat_lt k i) refl }

-- ---- all adds of an action

best_is : (pairs : Pairs) (n : ℕ) (a : Action) (i : ℕ) (es : List Effect) (first : Option ClashAt) → ((m : ℕ) → slice_get es m ≡ slice_get a.effects (i + m)) → IsBest pairs n a i first → IsBest pairs n a (i + length es) (best_from pairs n a i es first)
best_is pairs n a i [] first same h = let e : i ≡ i + 0 = omega arith in subst (λ x. IsBest pairs n a x first) e h
best_is pairs n a i (e ∷ es) first same h =
    let here : slice_get a.effects i ≡ Some e = (let z : i + 0 ≡ i = omega arith in ap (slice_get a.effects) (sym z)) ∙ sym (same 0) in
    let rest = best_is pairs n a (suc i) es (keep first (found_at pairs n a i e)) (λ m. same (suc m) ∙ (let z : i + suc m ≡ suc i + m = omega arith in ap (slice_get a.effects) z)) (keep_best pairs n a i first (found_at pairs n a i e) h (of_add pairs n a i e here)) in
    let many : suc i + length es ≡ i + suc (length es) = omega arith in
    subst (λ x. IsBest pairs n a x (best_from pairs n a (suc i) es (keep first (found_at pairs n a i e)))) many rest

-- the first clash of an action, where all of its effects are looked at
pub best_of : (pairs : Pairs) (n : ℕ) (a : Action) → IsBest pairs n a (length a.effects) (best_from pairs n a 0 a.effects None)
best_of pairs n a = subst (λ x. IsBest pairs n a x (best_from pairs n a 0 a.effects None)) (let e : 0 + length a.effects ≡ length a.effects = omega arith in e) (best_is pairs n a 0 a.effects None same (λ p k j lt c. absurd (omega (arith, lt))))
  where
    same : (m : ℕ) → slice_get a.effects m ≡ slice_get a.effects (0 + m)
    same m = let e : m ≡ 0 + m = omega arith in ap (slice_get a.effects) e

-- each clash is of an add within
pub add_within : (pairs : Pairs) (a : Action) (p k j : ℕ) → Clashes pairs a p k j → k < length a.effects
add_within pairs a p k j c = slice_get_within a.effects k c.adding c.add_at
