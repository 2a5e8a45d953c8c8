-- Merges have a table, or are refused.
use Rattle.std.proofs.Common.{◌≡◌, ◌⊎◌, ℕ, suc, true, not, ◌&&◌, List, [], ◌∷◌, Option, Some, None, length, map, take, slice_get, refl, ap, ap₂, subst, ◌∙◌, inl, inr}
use Rattle.std.proofs.lemmas.Bool.{cases_lt}
use Rattle.std.specs.List.{list_all, flat_map}
use Rattle.kp_base.specs.declared.lit.Lit.{Lit}
use Rattle.kp_base.specs.declared.lit.AtomId.{AtomId}
use Rattle.kp_base.specs.declared.ground.Initial.{Initial}
use Rattle.kp_base.specs.declared.ground.TagRow.{TagRow}
use Rattle.kp_base.specs.declared.ground.TagTable.{TagTable}
use Rattle.kp_base.specs.declared.refused.Refused.{Refused}
use Rattle.kp_base.specs.declared.refused.Refused.TheVariants as refusals
use Rattle.kp_base.specs.Planning.{Member, holds, are_below, IsOfAtoms, IsConsistent, closure, same_set}
use Rattle.kp_base.proofs.Lists.{any_alike, all_member, all_from, flat_member, map_member, map_map}
use Rattle.kp_base.proofs.Once.{all_each_once}
use Rattle.kp_primes_first_model.specs.Ordered.{AreFirst, AnswersFirst}
use Rattle.kp_primes_first_model.proofs.Public.{literals_read_first_atoms, models_read_first_atoms}
use Rattle.kp_cover.specs.Valid.{AreValidTags, is_outside}
use Rattle.kp_cover.proofs.Public.{none_outside_is_valid}
use Rattle.kp_base.proofs.Closures.{closure_over_first_atoms}
use Rattle.kp_tags_files.specs.declared.merge.FileMerge.{FileMerge}
use Rattle.kp_tags.specs.MergeTables.{has_tags_of_atoms, used_tags, numbered, HasClosure, IsTableOf}
use Rattle.kp_tags.specs.Answers.{AreConsistent, AreAcceptable, RefusesMerge, Accepts, RefusesTable}
use Rattle.kp_law_decidable.specs.Laws.{TablesAreDecided}
use Rattle.kp_law_decidable.proofs.Firsts.{ReadsFirst, first_or_none}
use Rattle.kp_law_decidable.proofs.Modelled.{consistent_or_not}

-- ---- the first at fault

-- one of these is at fault, and those before it are fine
record FirstAtFault {X : Type 0} (Fine Fault : X → Type 0) (xs : List X) : Type 0 where
  place : ℕ
  one : X
  stands : slice_get xs place ≡ Some one
  fault : Fault one
  before : (x : X) → Member (take place xs) x → Fine x

-- each is fine, or one is the first at fault
abbrev IsJudged : {X : Type 0} → (X → Type 0) → (X → Type 0) → List X → Type 0
IsJudged {X} Fine Fault xs = ((x : X) → Member xs x → Fine x) ⊎ FirstAtFault Fine Fault xs

all_judged : {X : Type 0} (Fine Fault : X → Type 0) (xs : List X) → ((x : X) → Member xs x → Fine x ⊎ Fault x) → IsJudged Fine Fault xs
all_judged Fine Fault [] each = inl (λ x m. absurd m)
all_judged {X} Fine Fault (y ∷ ys) each = go (each y (inl refl)) (all_judged Fine Fault ys (λ x m. each x (inr m)))
  where
    with_first : (P : X → Type 0) (zs : List X) → P y → ((x : X) → Member zs x → P x) → (x : X) → Member (y ∷ zs) x → P x
    with_first P zs here rest x (inl e) = subst P e here
    with_first P zs here rest x (inr m) = rest x m

    go : Fine y ⊎ Fault y → IsJudged Fine Fault ys → IsJudged Fine Fault (y ∷ ys)
    go (inr fault) rest = inr (record { place = 0; one = y; stands = refl; fault = fault; before = λ x m. absurd m })
    go (inl fine) (inl all) = inl (with_first Fine ys fine all)
    go (inl fine) (inr f) = inr (record { place = suc f.place; one = f.one; stands = f.stands; fault = f.fault; before = with_first Fine (take f.place ys) fine f.before })

-- ---- tags

module _ (n : ℕ) (i : Initial) (over : IsOfAtoms n i) where
  reads_outside : (tags : List (List Lit)) → list_all (are_below n) tags ≡ true → ReadsFirst n (is_outside i tags)
  reads_outside tags below = record {
    alike = λ s t same. ap₂ (λ x y. x && y) (models_read_first_atoms n s t same i over) (ap not
        (any_alike (list_all (holds s)) (list_all (holds t)) tags (λ tag m. literals_read_first_atoms n s t same tag (all_member (are_below n) tags tag m below))));
  }

  -- tags are valid, or some model is the first outside
  valid_or_outside : (tags : List (List Lit)) → list_all (are_below n) tags ≡ true → AreValidTags i tags ⊎ ((ps : List AtomId) × AreFirst n (is_outside i tags) ps)
  valid_or_outside tags below = go (first_or_none n (is_outside i tags) (reads_outside tags below))
    where
      go : ((o : Option (List AtomId)) × AnswersFirst n (is_outside i tags) o) → AreValidTags i tags ⊎ ((ps : List AtomId) × AreFirst n (is_outside i tags) ps)
      go (None, none) = inl (none_outside_is_valid i tags none)
      go (Some ps, first) = inr (ps, first)

  -- ---- merges

  -- whatever the merge's number is
  abbrev IsAtFault : FileMerge → Type 0
  IsAtFault m = (number : ℕ) → (r : Refused) × RefusesMerge n i number m.tags r

  abbrev IsFine : FileMerge → Type 0
  IsFine m = AreAcceptable i m.tags

  one_judged : (m : FileMerge) → has_tags_of_atoms n m ≡ true → IsFine m ⊎ IsAtFault m
  one_judged m below = go (all_judged (IsConsistent i) (λ tag. IsConsistent i tag → ⊥) m.tags (λ tag in-tags. consistent_or_not n i over tag (all_member (are_below n) m.tags tag in-tags below)))
    where
      inside : AreConsistent i m.tags → AreValidTags i m.tags ⊎ ((ps : List AtomId) × AreFirst n (is_outside i m.tags) ps) → IsFine m ⊎ IsAtFault m
      inside all (inl valid) = inl (record { consistent = all; valid = valid })
      inside all (inr (ps, first)) = inr (λ number. (refusals.MergeInvalid number ps, RefusesMerge.invalid ps all first))

      go : IsJudged (IsConsistent i) (λ tag. IsConsistent i tag → ⊥) m.tags → IsFine m ⊎ IsAtFault m
      go (inl all) = inside (record { each = all }) (valid_or_outside m.tags below)
      go (inr f) = inr (λ number. (refusals.TagInconsistent number f.place, RefusesMerge.inconsistent f.place (record { tag = f.one; tag_at = f.stands; inconsistent = f.fault; before = record { each = f.before } })))

  -- ---- the table

  row_of : List Lit → TagRow
  row_of tag = record { lits = tag; closure = closure i n tag }

  table_of : List FileMerge → TagTable
  table_of ms = record { tags = map row_of (used_tags ms); merges = map (numbered (used_tags ms)) ms }

  used_below : (ms : List FileMerge) → list_all (has_tags_of_atoms n) ms ≡ true → list_all (are_below n) (used_tags ms) ≡ true
  used_below ms below =
      all_each_once same_set (are_below n) ([] ∷ flat_map (λ m. m.tags) ms)
      (all_from (are_below n) (flat_map (λ m. m.tags) ms)
      (λ tag m. let from = flat_member (λ (x : FileMerge). x.tags) ms tag m in all_member (are_below n) from.0.tags tag from.2 (all_member (has_tags_of_atoms n) ms from.0 from.1 below)))

  is_table : (ms : List FileMerge) → list_all (has_tags_of_atoms n) ms ≡ true → IsTableOf n i ms (table_of ms)
  unfolding row_of table_of
  is_table ms below = record {
    tags = map_map row_of (λ row. row.lits) (λ tag. tag) (used_tags ms) (λ tag. refl) ∙ itself (used_tags ms);
    closures = λ row m.
        let from = map_member row_of (used_tags ms) row m in
        let exact = closure_over_first_atoms i n over from.0 (all_member (are_below n) (used_tags ms) from.0 from.1 (used_below ms below)) in
        subst (HasClosure n i) from.2 (record { closure = exact.closure; ascending = exact.ascending });
    merges = refl;
  }
    where
      itself : (xs : List (List Lit)) → map (λ x. x) xs ≡ xs
      itself [] = refl
      itself (x ∷ xs) = ap (λ (ys : List (List Lit)). x ∷ ys) (itself xs)

  tabled : (ms : List FileMerge) (limit : ℕ) → list_all (has_tags_of_atoms n) ms ≡ true → ((table : TagTable) × Accepts n i ms limit table) ⊎ ((r : Refused) × RefusesTable n i ms limit r)
  tabled ms limit below = go (all_judged IsFine IsAtFault ms (λ m in-ms. one_judged m (all_member (has_tags_of_atoms n) ms m in-ms below)))
    where
      go : IsJudged IsFine IsAtFault ms → ((table : TagTable) × Accepts n i ms limit table) ⊎ ((r : Refused) × RefusesTable n i ms limit r)
      go (inr f) = let r = f.fault f.place in inr (r.0, RefusesTable.at_fault r.0 (record { number = f.place; merge = f.one; merge_at = f.stands; before = record { each = f.before }; fault = r.1 }))
      go (inl all) = elim (cases_lt limit (length (used_tags ms))) [
        | inl over ↦ inr (refusals.TagsOver, RefusesTable.tags_over (record { each = all }) over)
        | inr within ↦ inl (table_of ms, record { acceptable = record { each = all }; within_limit = within; is_table = is_table ms below })
      ]

pub tables_decided : TablesAreDecided
tables_decided atoms i ms limit over below = tabled atoms i over ms limit below
