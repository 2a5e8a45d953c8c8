-- The new clauses don't get fewer while a clause is worked in, literal by literal.
use Rattle.std.proofs.Common.{◌≡◌, ℕ, ◌<◌, ◌≤◌, ◌+◌, true, false, not, ◌||◌, cond, List, [], ◌∷◌, refl, sym, ◌∙◌, ap, subst, inl, inr, length, filter, drop, get_or, arith}
use Rattle.std.proofs.lemmas.Bool.{or_left, or_right, false≢true, false_from_ne_true}
use Rattle.std.proofs.lemmas.List.{drop_more, length-append}
use Rattle.kp_base.specs.declared.lit.Lit.{Lit}
use Rattle.kp_base.specs.Planning.{Member, same_lit, IsAscending, is_tautology}
use Rattle.kp_base.specs.Steps.{has}
use Rattle.kp_base.specs.Implicates.{is_within}
use Rattle.kp_base.proofs.Lists.{any_member, any_from}
use Rattle.kp_base.proofs.Lits.{has-member, same_lit-refl}
use Rattle.kp_clauses.specs.Resolved.{resolved}
use Rattle.kp_clauses.specs.Stored.{subsumed, with_all}
use Rattle.kp_clauses.proofs.Public.{within_member, within_from, within_self, within_resolved, with_all_member, with_all_new, with_all_apart, stored_within_is_itself, merged_is_with_all}
use Rattle.kp_primes.specs.Included.{met_all, spread, stepped, walked, AreNew, idle}
use Rattle.kp_base.proofs.Ascending.{tail_ascends}
use Rattle.kp_primes.proofs.Rising.{first_once}
use Rattle.kp_primes.proofs.Spreading.{least_parts, stepped_old, stepped_keeps, spread_length, spread_apart, spread_free}
use Rattle.kp_primes.proofs.Exact.{once}
use Rattle.kp_primes.proofs.Lengths.{each_length}

-- ---- one literal

module _ (ps : List (List Lit)) where
  module _ (l : Lit) (rest : List Lit) (es : List (List Lit)) (new : AreNew ps (l ∷ rest) es) where
    -- each clause after it comes of a clause before
    comes_of : (x : List Lit) → Member (stepped ps l es) x → (e : List Lit) × Member es e × (is_within e (l ∷ x) ≡ true)
    comes_of =
        stepped_keeps ps l (λ x. (e : List Lit) × Member es e × (is_within e (l ∷ x) ≡ true)) es
        (λ e p in-e _ _. (e, in-e, (within_resolved e p l).0))
        (λ x m. (x, m, within_from x (l ∷ x) (λ y n. inr n)))

    -- which alone it can be within
    comes_of_it : (x e : List Lit) (m : Member (stepped ps l es) x) → Member es e → is_within x e ≡ true → (comes_of x m).0 ≡ e
    comes_of_it x e m in-e inside =
        let from = comes_of x m in
        stored_within_is_itself es from.0 e new.apart from.1 in-e (within_from from.0 e (λ y n. elim (within_member from.0 (l ∷ x) from.2 y n) [
          | inl same ↦ within_member (l ∷ rest) e (new.rest_in e in-e) y (inl same)
          | inr r ↦ within_member x e inside y r
        ]))

    -- so each clause before has one after of its own
    step_grows : length es ≤ length (stepped ps l es)
    step_grows =
        each_length (λ x e. is_within x e ≡ true) es (stepped ps l es) (once es new.apart)
        (λ e m. any_member (λ x. is_within x e) (stepped ps l es) (stepped_old ps l es e (any_from (λ x. is_within x e) es e m (within_self e))))
        (λ x a b m in-a in-b h k. sym (comes_of_it x a m in-a h) ∙ comes_of_it x b m in-b k)

    -- each has the literal
    pub each_has : (e : List Lit) → Member es e → has e l ≡ true
    each_has e m = has-member e l (within_member (l ∷ rest) e (new.rest_in e m) l (inl refl))

    step_new : AreNew ps rest (stepped ps l es)
    step_new = record {
      rising = tail_ascends l rest new.rising;
      apart = with_all_apart es (spread ps es l es []) new.apart;
      rest_in = λ x m. let from = comes_of x m in within_from rest x (λ y n. elim (within_member from.0 (l ∷ x) from.2 y (within_member (l ∷ rest) from.0 (new.rest_in from.0 from.1) y (inr n))) [
        | inl same ↦ absurd (first_once l rest new.rising (subst (Member rest) (sym same) n))
        | inr r ↦ r
      ]);
      free = stepped_keeps ps l (λ x. subsumed ps x ≡ false) es (λ e p _ _ least. (least_parts ps es l (resolved e p l) least).free) new.free;
    }

  -- ---- all of them

  -- all new clauses come in at the end
  put_grows : (es : List (List Lit)) → AreNew ps [] es → length es ≤ length (with_all ps es)
  put_grows es new =
      each_length (λ x e. is_within x e ≡ true) es (with_all ps es) (once es new.apart)
      (λ e m. any_member (λ x. is_within x e) (with_all ps es) (with_all_new ps es e (any_from (λ x. is_within x e) es e m (within_self e))))
      (λ x a b m in-a in-b h k. sym (same x a m in-a h) ∙ same x b m in-b k)
    where
      same : (x e : List Lit) → Member (with_all ps es) x → Member es e → is_within x e ≡ true → x ≡ e
      same x e m in-e h = elim (with_all_member ps es x m) [
        | inl r ↦ absurd (false≢true (sym (new.free e in-e) ∙ any_from (λ d. is_within d e) ps x r h))
        | inr r ↦ stored_within_is_itself es x e new.apart r in-e h
      ]

  walk_grows : (rest : List Lit) (es : List (List Lit)) → AreNew ps rest es → length es ≤ length (with_all ps (walked ps rest es))
  walk_grows [] es new = put_grows es new
  walk_grows (l ∷ rest) es new =
      let a = step_grows l rest es new in
      let b = walk_grows rest (stepped ps l es) (step_new l rest es new) in
      omega arith

  pub walked_new : (rest : List Lit) (es : List (List Lit)) → AreNew ps rest es → AreNew ps [] (walked ps rest es)
  walked_new [] es new = new
  walked_new (l ∷ rest) es new = walked_new rest (stepped ps l es) (step_new l rest es new)

  -- a clause that isn't idle
  pub start_new : (c : List Lit) → IsAscending c → idle ps c ≡ false → AreNew ps c (c ∷ [])
  start_new c asc not_idle = record {
    rising = asc;
    apart = refl;
    rest_in = λ e m. elim m [ inl same ↦ subst (λ (y : List Lit). is_within c y ≡ true) same (within_self c) | inr bad ↦ absurd bad ];
    free = λ e m. elim m [ inl same ↦ subst (λ (y : List Lit). subsumed ps y ≡ false) same (false_from_ne_true (subsumed ps c) (λ h. false≢true (sym not_idle ∙ or_right (is_tautology c) (subsumed ps c) h))) | inr bad ↦ absurd bad ];
  }

-- no prime implicate is within a clause that comes of one literal
pub unit_free : (ps : List (List Lit)) (l : Lit) → idle ps (l ∷ []) ≡ false → (c : List Lit) → Member (stepped ps l ((l ∷ []) ∷ [])) c → subsumed ps c ≡ false
unit_free ps l not_idle = (walked_new ps (l ∷ []) ((l ∷ []) ∷ []) (start_new ps (l ∷ []) tt not_idle)).free

-- nor within one that comes of any new clause
pub walked_free : (ps : List (List Lit)) (c : List Lit) → IsAscending c → idle ps c ≡ false → (d : List Lit) → Member (walked ps c (c ∷ [])) d → subsumed ps d ≡ false
walked_free ps c asc not_idle = (walked_new ps c (c ∷ []) (start_new ps c asc not_idle)).free

-- ---- a step

-- a clause of one literal has it
pub unit_spread : (ps : List (List Lit)) (l : Lit) → met_all ps ((l ∷ []) ∷ []) (l ∷ []) l ps [] ≡ spread ps ((l ∷ []) ∷ []) l ((l ∷ []) ∷ []) []
unit_spread ps l = sym (ap (λ b. cond (b || false) (met_all ps ((l ∷ []) ∷ []) (l ∷ []) l ps []) []) (same_lit-refl l))

pub unit_has : (l : Lit) (e : List Lit) → Member ((l ∷ []) ∷ []) e → has e l ≡ true
unit_has l e m = elim m [ inl same ↦ subst (λ (x : List Lit). has x l ≡ true) same (or_left (same_lit l l) false (same_lit-refl l)) | inr bad ↦ absurd bad ]

-- what comes of a literal is put behind those that hold none of it
pub fresh_over : (ps es : List (List Lit)) (l : Lit) (limit : ℕ) → ((e : List Lit) → Member es e → has e l ≡ true) → limit < length (spread ps es l es []) → limit < length (stepped ps l es)
fresh_over ps es l limit each over =
    let fresh = spread ps es l es [] in
    let is = ap length (merged_is_with_all es fresh (spread_apart ps es l) (spread_free ps es l each)) in
    let more = length-append (filter (λ e. not (subsumed fresh e)) es) fresh in
    omega arith

-- where there are too many so far, there are too many in the end
pub spread_over : (ps es : List (List Lit)) (l : Lit) (i : ℕ) (fs gs : List (List Lit)) (limit : ℕ) → spread ps es l (drop i es) fs ≡ spread ps es l es gs → limit < length fs → limit < length (spread ps es l es gs)
spread_over ps es l i fs gs limit is over =
    let more = spread_length ps es l (drop i es) fs in
    subst (λ (z : List (List Lit)). limit < length z) is (omega arith)

-- ---- the walk

-- new clauses with some literals still to come, which lead to these
pub record LeadsTo (ps : List (List Lit)) (rest : List Lit) (fs ends : List (List Lit)) : Type 0 where
  pub goes_on : walked ps rest fs ≡ ends
  pub new : AreNew ps rest fs

-- each of the new clauses has the next literal
pub walk_has : (ps : List (List Lit)) (ls : List Lit) (i : ℕ) (d : Lit) (es ends : List (List Lit)) → i < length ls → LeadsTo ps (drop i ls) es ends → (e : List Lit) → Member es e → has e (get_or ls i d) ≡ true
walk_has ps ls i d es ends lt h = each_has ps (get_or ls i d) (drop (i + 1) ls) es (subst (λ z. AreNew ps z es) (drop_more ls i d lt) h.new)

-- one literal more
pub walk_next : (ps : List (List Lit)) (ls : List Lit) (i : ℕ) (d : Lit) (es fs ends : List (List Lit)) → i < length ls → fs ≡ stepped ps (get_or ls i d) es → LeadsTo ps (drop i ls) es ends → LeadsTo ps (drop (i + 1) ls) fs ends
walk_next ps ls i d es fs ends lt is h =
    let more = drop_more ls i d lt in
    record {
      goes_on = ap (walked ps (drop (i + 1) ls)) is ∙ (sym (ap (λ z. walked ps z es) more) ∙ h.goes_on);
      new = subst (AreNew ps (drop (i + 1) ls)) (sym is) (step_new ps (get_or ls i d) (drop (i + 1) ls) es (subst (λ z. AreNew ps z es) more h.new));
    }

-- where there are too many new clauses, there are too many in the end
pub walk_over : (ps : List (List Lit)) (rest : List Lit) (fs ends : List (List Lit)) (limit : ℕ) → LeadsTo ps rest fs ends → limit < length fs → limit < length (with_all ps ends)
walk_over ps rest fs ends limit h over =
    let a = walk_grows ps rest fs h.new in
    subst (λ z. limit < length (with_all ps z)) h.goes_on (omega arith)
