-- Whether tags are valid, where they may be of any atoms, and whether a merge is.
use Rattle.std.proofs.Common.{◌≡◌, ◌↔◌, ◌||◌, ◌++◌, ℕ, Bool, IsTrue, true, false, not, List, [], ◌∷◌, Option, Some, None, slice_get, refl, sym, ap, ◌∙◌, inl, inr}
use Rattle.std.proofs.lemmas.Bool.{false≢true, and_parts, and_from, or_cases, or_left, or_right, true_from_ne_false}
use Rattle.std.specs.List.{list_any, list_all}
use Rattle.kp_base.specs.declared.lit.Lit.{Lit}
use Rattle.kp_base.specs.declared.lit.AtomId.{AtomId}
use Rattle.kp_base.specs.declared.ground.Initial.{Initial}
use Rattle.kp_base.specs.declared.ground.TagRow.{TagRow}
use Rattle.kp_base.specs.declared.ground.TagTable.{TagTable}
use Rattle.kp_base.specs.declared.ground.Merge.{Merge}
use Rattle.kp_base.specs.Planning.{Member, negated, with_lit, State, holds, is_model, tag_holds, IsValid, IsClosure}
use Rattle.kp_base.specs.Lit.{has}
use Rattle.kp_base.specs.LitSet.{is_within}
use Rattle.kp_base.proofs.Lists.{all_member, all_from, any_member, any_from}
use Rattle.kp_base.proofs.Lits.{holds-negated}
use Rattle.kp_base.proofs.Sets.{all-with_lit}
use Rattle.kp_primes.specs.Held.{Held, formula, AreWhole}
use Rattle.kp_primes.proofs.Public.{consistent_exact}
use Rattle.kp_primes_first_model.specs.Ordered.{state_of_atoms, AreFirst}
use Rattle.kp_cover.specs.Grown.{is_fine}
use Rattle.kp_cover.specs.Covered.{found, tags_found, all_inside, says_valid}
use Rattle.kp_cover.specs.Valid.{satisfies_one, AreValidTags, is_outside, AnswersValid}
use Rattle.kp_cover.specs.declared.tags.Validity.{Validity}
use Rattle.kp_cover.specs.declared.tags.Validity.TheVariants.{Valid, Invalid}

-- a literal that is denied may be known to be so
pub with_denied : (s : State) (known : List Lit) (l : Lit) → list_all (holds s) known ≡ true → holds s l ≡ false → list_all (holds s) (with_lit (negated l) known) ≡ true
with_denied s known l k no_l = all-with_lit (holds s) (negated l) known ∙ and_from (list_all (holds s) known) (holds s (negated l)) k (holds-negated s l ∙ ap not no_l)

-- ---- tags of any atoms

module _ (h : Held) (whole : AreWhole h) where
  -- each model in which the known literals are true satisfies one of the tags
  abbrev Inside : List Lit → List (List Lit) → Type 0
  Inside known tags = (s : State) → is_model (formula h) s ≡ true → list_all (holds s) known ≡ true → satisfies_one tags s ≡ true

  pub inside : (tags : List (List Lit)) (known : List Lit) → all_inside h.clauses known tags ≡ true → Inside known tags
  inside [] known e s m k = absurd (false≢true e)
  inside (t ∷ tags) known e s m k = true_from_ne_false (satisfies_one (t ∷ tags) s) (λ off. false≢true (sym off ∙ or_left (list_all (holds s) t) (satisfies_one tags s) (all_from (holds s) t (λ l at. true_from_ne_false (holds s l) (λ denied.
      let more = with_denied s known l k denied in
      let fine : is_fine h.clauses (with_lit (negated l) known) ≡ true = (consistent_exact h whole (with_lit (negated l) known)).1 (record { state = s; model = m; all_true = more }) in
      let goes : all_inside h.clauses (with_lit (negated l) known) tags ≡ true = ap (λ b. not b || all_inside h.clauses (with_lit (negated l) known) tags) (sym fine) ∙ all_member (λ l. not (is_fine h.clauses (with_lit (negated l) known)) || all_inside h.clauses (with_lit (negated l) known) tags) t l at e in
      false≢true (sym off ∙ or_right (list_all (holds s) t) (satisfies_one tags s) (inside tags (with_lit (negated l) known) goes s m more)))))))

  pub found_inside : (tags : List (List Lit)) (known : List Lit) → is_fine h.clauses known ≡ true → Inside known tags → all_inside h.clauses known tags ≡ true
  found_inside [] known fine f = let met = (consistent_exact h whole known).0 fine in absurd (false≢true (f met.state met.model met.all_true))
  found_inside (t ∷ tags) known fine f = all_from (λ l. not (is_fine h.clauses (with_lit (negated l) known)) || all_inside h.clauses (with_lit (negated l) known) tags) t (λ l at. pick l at (is_fine h.clauses (with_lit (negated l) known)) refl (λ more. found_inside tags (with_lit (negated l) known) more (rest l at)))
    where
      rest : (l : Lit) → Member t l → Inside (with_lit (negated l) known) tags
      rest l at s m more =
          let parts = and_parts (list_all (holds s) known) (holds s (negated l)) (sym (all-with_lit (holds s) (negated l) known) ∙ more) in
          elim (or_cases (list_all (holds s) t) (satisfies_one tags s) (f s m parts.0)) [
            | inl all ↦ absurd (false≢true (sym (ap not (all_member (holds s) t l at all)) ∙ (sym (holds-negated s l) ∙ parts.1)))
            | inr one ↦ one
          ]

      pick : (l : Lit) → Member t l → (b : Bool) → is_fine h.clauses (with_lit (negated l) known) ≡ b → (is_fine h.clauses (with_lit (negated l) known) ≡ true → all_inside h.clauses (with_lit (negated l) known) tags ≡ true) → (not (is_fine h.clauses (with_lit (negated l) known)) || all_inside h.clauses (with_lit (negated l) known) tags) ≡ true
      pick l at true is more = ap (λ b. not b || all_inside h.clauses (with_lit (negated l) known) tags) is ∙ more is
      pick l at false is more = ap (λ b. not b || all_inside h.clauses (with_lit (negated l) known) tags) is

  pub all_inside_is : (tags : List (List Lit)) (b : Bool) → b ≡ all_inside h.clauses [] tags → IsTrue b ↔ AreValidTags (formula h) tags
  all_inside_is tags b is = (
    λ e s m. inside tags [] (sym is ∙ e) s m refl,
    λ valid. is ∙ found_inside tags [] ((consistent_exact h whole []).1 whole.has_model) (λ s m k. valid s m),
  )

-- ---- what is always true

-- one tag suffices all of whose literals are always true
pub one_within : (n : ℕ) (i : Initial) (known : List Lit) (tags : List (List Lit)) → IsClosure n i [] known → list_any (λ t. is_within t known) tags ≡ true → AreValidTags i tags
one_within n i known tags closure one s m =
    let t = any_member (λ t. is_within t known) tags one in
    any_from (list_all (holds s)) tags t.0 t.1 (all_from (holds s) t.0 (λ l at. closure.entailed l (all_member (has known) t.0 l at t.2) s m refl))

-- ---- tags of the atoms

state_outside : (n : ℕ) (i : Initial) (tags : List (List Lit)) (ps : List AtomId) → AreFirst n (is_outside i tags) ps → IsTrue false ↔ AreValidTags i tags
state_outside n i tags ps first = (
  λ e. absurd (false≢true e),
  λ valid.
      let parts = and_parts (is_model i (state_of_atoms ps)) (not (satisfies_one tags (state_of_atoms ps))) first.0.passed in
      absurd (false≢true (ap not (sym (valid (state_of_atoms ps) parts.0)) ∙ parts.1)),
)

pub valid_is : (n : ℕ) (i : Initial) (tags : List (List Lit)) (v : Validity) (b : Bool) → AnswersValid n i tags v → b ≡ says_valid v → IsTrue b ↔ AreValidTags i tags
valid_is n i tags Valid b valid is = (λ e. valid, λ v. is)
valid_is n i tags (Invalid ps) b first is = let o = state_outside n i tags ps first in (λ e. o.0 (sym is ∙ e), λ v. is ∙ o.1 v)

-- ---- tags by number

one_holds : (o : Option TagRow) (s : State) (rest : Bool) (tags : List (List Lit)) → rest ≡ satisfies_one tags s → (tag_holds o s || rest) ≡ satisfies_one (found o ++ tags) s
one_holds None s rest tags e = e
one_holds (Some row) s rest tags e = ap (λ b. list_all (holds s) row.lits || b) e

pub found_hold : (table : TagTable) (ts : List ℕ) (s : State) → list_any (λ t. tag_holds (slice_get table.tags t) s) ts ≡ satisfies_one (tags_found table ts) s
found_hold table [] s = refl
found_hold table (t ∷ ts) s = one_holds (slice_get table.tags t) s (list_any (λ t. tag_holds (slice_get table.tags t) s) ts) (tags_found table ts) (found_hold table ts s)

pub merge_valid : (i : Initial) (table : TagTable) (m : Merge) (tags : List (List Lit)) (b : Bool) → tags ≡ tags_found table m.tags → IsTrue b ↔ AreValidTags i tags → IsTrue b ↔ IsValid i table m
merge_valid i table m tags b are told = (
  λ e s model. found_hold table m.tags s ∙ (ap (λ (ts : List (List Lit)). satisfies_one ts s) (sym are) ∙ told.0 e s model),
  λ valid. told.1 (λ s model. ap (λ (ts : List (List Lit)). satisfies_one ts s) are ∙ (sym (found_hold table m.tags s) ∙ valid s model)),
)
