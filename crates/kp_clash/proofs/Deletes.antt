-- Where the slot of its atom isn't marked, an add has no delete that clashes with it.
use Rattle.std.proofs.Common.{◌≡◌, ◌<◌, ◌+◌, ◌%◌, ℕ, suc, Bool, true, false, not, ◌&&◌, ◌||◌, if◌then◌else◌, List, [], ◌∷◌, None, option_map, length, take, get_or, replicate, slice_index_or, inl, inr, refl, sym, ap, ◌∙◌, arith}
use Rattle.std.proofs.lemmas.Bool.{and_from, or_left, or_right, both_ways}
use Rattle.std.proofs.lemmas.List.{get_or-replicate}
use Rattle.std.proofs.lemmas.List.Folds.{list_all_more}
use Rattle.std.specs.List.{list_any, position_from}
use Rattle.kp_base.specs.declared.lit.Lit.{Lit}
use Rattle.kp_base.specs.declared.ground.Effect.{Effect}
use Rattle.kp_base.specs.declared.ground.Action.{Action}
use Rattle.kp_base.specs.Lists.{Member}
use Rattle.kp_base.specs.Lit.{negated, same_lit}
use Rattle.kp_base.specs.Clashes.{Pairs, compatible_effects}
use Rattle.kp_base.proofs.Lists.{all_member, all_from, any_from, all_weaker}
use Rattle.kp_base.proofs.Lits.{same_lit-true}
use Rattle.kp_clash.specs.Searching.{may_be_deleted, is_noted, all_noted, KeepsMarks, clash_together, clash_at, found_at, best_from}

-- what was noted is noted still
pub stay_noted : (old new : List Bool) (es : List Effect) → KeepsMarks old new → all_noted old es ≡ true → all_noted new es ≡ true
stay_noted old new es keeps = all_weaker (is_noted old) (is_noted new) es (λ e _. by (e.result.atom.0 % 4096) e.result.positive)
  where
    by : (k : ℕ) (t : Bool) → (t || slice_index_or old k false) ≡ true → (t || slice_index_or new k false) ≡ true
    by k true h = refl
    by k false h = keeps k h

pub one_more : (old new : List Bool) (es : List Effect) (i : ℕ) (d : Effect) → i < length es → KeepsMarks old new → is_noted new (get_or es i d) ≡ true → all_noted old (take i es) ≡ true → all_noted new (take (i + 1) es) ≡ true
one_more old new es i d below keeps here h = rw (list_all_more (is_noted new) es i d below) (and_from (all_noted new (take i es)) (is_noted new (get_or es i d)) (stay_noted old new (take i es) keeps h) here)

module _ (pairs : Pairs) (slots : List Bool) (a : Action) (e : Effect) (noted : all_noted slots a.effects ≡ true) (free : may_be_deleted slots e.result.atom.0 ≡ false) where
  no_delete : e.result.positive ≡ true → (f : Effect) → Member a.effects f → clash_together pairs a e f ≡ false
  no_delete sign f m = by (same_lit (negated e.result) f.result) refl
    where
      by : (t : Bool) → same_lit (negated e.result) f.result ≡ t → (t && compatible_effects pairs a e f) ≡ false
      by false is = refl
      by true is =
          let same = same_lit-true (negated e.result) f.result is in
          let denied : f.result.positive ≡ false = ap (λ (l : Lit). l.positive) (sym same) ∙ ap not sign in
          let one : e.result.atom.0 ≡ f.result.atom.0 = ap (λ (l : Lit). l.atom.0) same in
          let marked : may_be_deleted slots f.result.atom.0 ≡ true = sym (ap (λ (t : Bool). t || may_be_deleted slots f.result.atom.0) denied) ∙ all_member (is_noted slots) a.effects f m noted in
          absurd (both_ways (may_be_deleted slots e.result.atom.0) free (ap (may_be_deleted slots) one ∙ marked))

  no_place : e.result.positive ≡ true → (n : ℕ) (fs : List Effect) → ((f : Effect) → Member fs f → Member a.effects f) → position_from (clash_together pairs a e) n fs ≡ None
  no_place sign n [] h = refl
  no_place sign n (f ∷ fs) h = rw (no_delete sign f (h f (inl refl))) (no_place sign (n + 1) fs (λ g m. h g (inr m)))

  pub nothing_found : (n i : ℕ) → None ≡ found_at pairs n a i e
  nothing_found n i = by e.result.positive refl
    where
      by : (t : Bool) → e.result.positive ≡ t → None ≡ (if t then option_map (clash_at n i e) (position_from (clash_together pairs a e) 0 a.effects) else None)
      by true sign = ap (option_map (clash_at n i e)) (sym (no_place sign 0 a.effects (λ f m. m)))
      by false sign = refl

-- an action that deletes nothing has no clash
pub nothing_best : (pairs : Pairs) (n : ℕ) (a : Action) → list_any (λ e. not e.result.positive) a.effects ≡ false → (i : ℕ) (es : List Effect) → best_from pairs n a i es None ≡ None
nothing_best pairs n a none i [] = refl
nothing_best pairs n a none i (e ∷ es) = rw (sym (nothing_found pairs [] a e noted refl n i)) (nothing_best pairs n a none (suc i) es)
  where
    noted : all_noted [] a.effects ≡ true
    noted = all_from (is_noted []) a.effects (λ d m. or_left d.result.positive (may_be_deleted [] d.result.atom.0) (adds d m d.result.positive refl))
      where
        adds : (d : Effect) → Member a.effects d → (b : Bool) → d.result.positive ≡ b → d.result.positive ≡ true
        adds d m true is = is
        adds d m false is = absurd (both_ways (list_any (λ e. not e.result.positive) a.effects) none (any_from (λ e. not e.result.positive) a.effects d m (ap not is)))

-- where all slots are marked, each effect is noted
pub all_marked : (es : List Effect) → all_noted (replicate 4096 true) es ≡ true
all_marked es = all_from (is_noted (replicate 4096 true)) es (λ e _. or_right e.result.positive (may_be_deleted (replicate 4096 true) e.result.atom.0) (get_or-replicate 4096 (e.result.atom.0 % 4096) true false (omega arith)))
