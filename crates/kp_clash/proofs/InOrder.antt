-- The clash of the first action that has one is the first clash.
use Rattle.std.proofs.Common.{◌≡◌, ◌≢◌, ◌<◌, ◌≤◌, ◌+◌, ◌==◌, ℕ, zero, suc, Bool, true, false, cond, List, [], ◌∷◌, Option, Some, None, IfSome, IfNone, length, nat_lt, slice_get, inl, inr, refl, sym, subst, ◌∙◌, arith}
use Rattle.std.proofs.lemmas.Bool.{both_ways, ltb-true, ltb-false, eq-eqb}
use Rattle.std.specs.declared.cmp.Ordering.{Ordering}
use Rattle.std.specs.declared.cmp.Ordering.TheVariants.{Less, Equal, Greater}
use Rattle.std.specs.Ordering.{nat_cmp, ordering_then}
use Rattle.std.specs.Cmp.Lexicographic.{slice_cmp}
use Rattle.kp_base.specs.declared.ground.Action.{Action}
use Rattle.kp_base.specs.declared.ground.Ground.{Ground}
use Rattle.kp_base.specs.declared.refused.ClashAt.{ClashAt}
use Rattle.kp_base.specs.Clashes.{Pairs, Clashes, IsClash, HasNoClash, clash_place, IsFirstClash}
use Rattle.kp_clash.specs.Searching.{best_from, or_later, first_from}
use Rattle.kp_clash.proofs.Best.{Before, Least, IsBest, best_of, add_within}

-- what was found in actions, the first of which has the number n
pub record FoundIn (pairs : Pairs) (n : ℕ) (as' : List Action) (c : ClashAt) : Type 0 where
  pub place : ℕ
  pub number : c.action ≡ n + place
  pub action : Action
  pub action_at : slice_get as' place ≡ Some action
  pub least : Least pairs c.action action (length action.effects) c
  pub before : (m : ℕ) (a : Action) (p k j : ℕ) → m < place → slice_get as' m ≡ Some a → Clashes pairs a p k j → ⊥

abbrev pub IsFound : Pairs → ℕ → List Action → Option ClashAt → Type 0
IsFound pairs n as' None = (m : ℕ) (a : Action) (p k j : ℕ) → slice_get as' m ≡ Some a → Clashes pairs a p k j → ⊥
IsFound pairs n as' (Some c) = FoundIn pairs n as' c

pub found_in : (pairs : Pairs) (n : ℕ) (as' : List Action) → IsFound pairs n as' (first_from pairs n as')
found_in pairs n [] = λ m a p k j at c. absurd cc
found_in pairs n (a ∷ as') = by (best_from pairs n a 0 a.effects None) (first_from pairs (suc n) as') (best_of pairs n a) (found_in pairs (suc n) as')
  where
    by : (o later : Option ClashAt) → IsBest pairs n a (length a.effects) o → IsFound pairs (suc n) as' later → IsFound pairs n (a ∷ as') (or_later o later)
    by (Some c) later best rest =
        record { place = zero; number = (let e = best.action in omega (arith, e)); action = a; action_at = refl; least = subst (λ x. Least pairs x a (length a.effects) c) (sym best.action) best; before = λ m b p k j lt. absurd (omega (arith, lt)) }
    by None (Some c) best rest =
        record { place = suc rest.place; number = (let e = rest.number in omega (arith, e)); action = rest.action; action_at = rest.action_at; least = rest.least; before = before }
      where
        before : (m : ℕ) (b : Action) (p k j : ℕ) → m < suc rest.place → slice_get (a ∷ as') m ≡ Some b → Clashes pairs b p k j → ⊥
        before zero b p k j lt at c = let e : a ≡ b = cc in let d = subst (λ (x : Action). Clashes pairs x p k j) (sym e) c in best p k j (add_within pairs a p k j d) d
        before (suc m) b p k j lt at c = rest.before m b p k j (omega (arith, lt)) at c
    by None None best rest = none
      where
        none : (m : ℕ) (b : Action) (p k j : ℕ) → slice_get (a ∷ as') m ≡ Some b → Clashes pairs b p k j → ⊥
        none zero b p k j at c = let e : a ≡ b = cc in let d = subst (λ (x : Action). Clashes pairs x p k j) (sym e) c in best p k j (add_within pairs a p k j d) d
        none (suc m) b p k j at c = rest m b p k j at c

-- ---- the order

-- a number that isn't greater, and what follows isn't where they are the same
not_greater : (x y : ℕ) (rest : Ordering) → x ≤ y → (x ≡ y → rest ≢ Greater) → ordering_then (nat_cmp x y) rest ≢ Greater
not_greater x y rest le tie = by (nat_lt x y) refl (x == y) refl
  where
    by : (t : Bool) → nat_lt x y ≡ t → (u : Bool) → (x == y) ≡ u → ordering_then (cond t Less (cond u Equal Greater)) rest ≢ Greater
    by true l u e g = absurd cc
    by false l true e g = tie (let m = ltb-false x y l in omega (arith, le, m)) g
    by false l false e g = let m = ltb-false x y l in absurd (both_ways (x == y) e (eq-eqb x y (omega (arith, le, m))))

equal_not_greater : Equal ≢ Greater
equal_not_greater e = absurd cc

after_action : (c d : ClashAt) → Before c d.atom.0 d.add d.delete → slice_cmp nat_cmp (c.atom.0 ∷ c.add ∷ c.delete ∷ []) (d.atom.0 ∷ d.add ∷ d.delete ∷ []) ≢ Greater
after_action c d (inl lt) = not_greater c.atom.0 d.atom.0 _ (omega (arith, lt)) (λ e. absurd (omega (arith, lt, e)))
after_action c d (inr (same, inl lt)) = not_greater c.atom.0 d.atom.0 _ (omega (arith, same)) (λ e. not_greater c.add d.add _ (omega (arith, lt)) (λ f. absurd (omega (arith, lt, f))))
after_action c d (inr (same, inr (also, le))) = not_greater c.atom.0 d.atom.0 _ (omega (arith, same)) (λ e. not_greater c.add d.add _ (omega (arith, also)) (λ f. not_greater c.delete d.delete _ le (λ g. equal_not_greater)))

-- ---- what is promised

pub is_first : (pairs : Pairs) (g : Ground) (c : ClashAt) → FoundIn pairs 0 g.actions c → IsFirstClash pairs g c
is_first pairs g c f = record {
  clash = record { action = f.action; action_at = subst (λ n. slice_get g.actions n ≡ Some f.action) place_is f.action_at; clashes = f.least.clashes };
  first = first;
}
  where
    place_is : f.place ≡ c.action
    place_is = let e = f.number in omega (arith, e)

    first : (d : ClashAt) → IsClash pairs g d → slice_cmp nat_cmp (clash_place c) (clash_place d) ≢ Greater
    first d k = go (nat_lt d.action c.action) refl
      where
        go : (t : Bool) → nat_lt d.action c.action ≡ t → slice_cmp nat_cmp (clash_place c) (clash_place d) ≢ Greater
        go true lt = absurd (f.before d.action k.action d.atom.0 d.add d.delete (let m = ltb-true d.action c.action lt in omega (arith, m, place_is)) k.action_at k.clashes)
        go false ge = not_greater c.action d.action _ (ltb-false d.action c.action ge) (λ same. after_action c d (least_of same))
          where
            least_of : c.action ≡ d.action → Before c d.atom.0 d.add d.delete
            least_of same =
                let here : slice_get g.actions d.action ≡ Some f.action = subst (λ n. slice_get g.actions n ≡ Some f.action) (place_is ∙ same) f.action_at in
                let one : k.action ≡ f.action = (let there = k.action_at in cc) in
                let clashes = subst (λ (a : Action). Clashes pairs a d.atom.0 d.add d.delete) one k.clashes in
                f.least.least d.atom.0 d.add d.delete (add_within pairs f.action d.atom.0 d.add d.delete clashes) clashes

pub some_first : (pairs : Pairs) (g : Ground) (o : Option ClashAt) → IsFound pairs 0 g.actions o → IfSome o (IsFirstClash pairs g)
some_first pairs g (Some c) f = is_first pairs g c f
some_first pairs g None f = tt

pub none_clashes : (pairs : Pairs) (g : Ground) (o : Option ClashAt) → IsFound pairs 0 g.actions o → IfNone o (HasNoClash pairs g)
none_clashes pairs g (Some c) f = tt
none_clashes pairs g None f = λ n p k j a at c. f n a p k j at c

-- ---- of an answer

pub first_is : (pairs : Pairs) (g : Ground) (o : Option ClashAt) → o ≡ first_from pairs 0 g.actions → IfSome o (IsFirstClash pairs g)
first_is pairs g o is = some_first pairs g o (subst (IsFound pairs 0 g.actions) (sym is) (found_in pairs 0 g.actions))

pub none_is : (pairs : Pairs) (g : Ground) (o : Option ClashAt) → o ≡ first_from pairs 0 g.actions → IfNone o (HasNoClash pairs g)
none_is pairs g o is = none_clashes pairs g o (subst (IsFound pairs 0 g.actions) (sym is) (found_in pairs 0 g.actions))
