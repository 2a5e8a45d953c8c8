-- The table of merges none of which is at fault is right, and its merges are valid.
use Rattle.std.proofs.Common.{◌≡◌, ◌<◌, ◌+◌, ◌||◌, ℕ, suc, Bool, true, false, not, cond, List, [], ◌∷◌, Some, map, length, slice_get, refl, sym, ap, subst, ◌∙◌, inr, arith}
use Rattle.std.specs.List.{list_any, list_all, flat_map}
use Rattle.std.proofs.lemmas.Bool.{false≢true}
use Rattle.std.proofs.lemmas.List.{length-map}
use Rattle.kp_base.specs.declared.lit.Lit.{Lit}
use Rattle.kp_base.specs.declared.ground.Initial.{Initial}
use Rattle.kp_base.specs.declared.ground.TagRow.{TagRow}
use Rattle.kp_base.specs.declared.ground.Merge.{Merge}
use Rattle.kp_base.specs.declared.ground.TagTable.{TagTable}
use Rattle.kp_base.specs.Planning.{Member, State, holds, tag_holds, IsValid, AreValid, same_set}
use Rattle.kp_base.proofs.Lists.{any_from, any_map, any_weaker, map_member, member_flat_map}
use Rattle.kp_base.proofs.Once.{any-each_once}
use Rattle.kp_tags_files.specs.declared.merge.FileMerge.{FileMerge}
use Rattle.kp_tags.specs.MergeTables.{used_tags, number_in, numbered, IsTableOf}
use Rattle.kp_tags.specs.Answers.{AreAllAcceptable}
use Rattle.kp_tags.specs.Laws.{AcceptedTablesAreRight}
use Rattle.kp_base.proofs.Sets.{same_sets, same_set-true}

-- ---- tags by their numbers

-- a tag that is used stands at its number
at_number : (rows : List TagRow) (t : List Lit) → list_any (same_set t) (map (λ row. row.lits) rows) ≡ true → (row : TagRow) × (slice_get rows (number_in (map (λ r. r.lits) rows) t) ≡ Some row) × (row.lits ≡ t)
at_number [] t h = absurd (false≢true h)
at_number (r ∷ rows) t h = by (at_number rows t) (same_set t r.lits) refl h
  where
    by : (list_any (same_set t) (map (λ row. row.lits) rows) ≡ true → (row : TagRow) × (slice_get rows (number_in (map (λ r. r.lits) rows) t) ≡ Some row) × (row.lits ≡ t))
        → (b : Bool) → same_set t r.lits ≡ b → (b || list_any (same_set t) (map (λ row. row.lits) rows)) ≡ true
        → (row : TagRow) × (slice_get (r ∷ rows) (cond (not b) (1 + number_in (map (λ r. r.lits) rows) t) 0) ≡ Some row) × (row.lits ≡ t)
    by rest true is g = (r, refl, sym (same_set-true t r.lits is))
    by rest false is g =
        let h = rest g in
        let e : suc (number_in (map (λ r. r.lits) rows) t) ≡ 1 + number_in (map (λ r. r.lits) rows) t = omega arith in
        (h.0, subst (λ n. slice_get (r ∷ rows) n ≡ Some h.0) e h.1, h.2)

-- and the number is below how many there are
number_below : (tags : List (List Lit)) (t : List Lit) → list_any (same_set t) tags ≡ true → number_in tags t < length tags
number_below [] t h = absurd (false≢true h)
number_below (x ∷ tags) t h = by (number_below tags t) (same_set t x) h
  where
    by : (list_any (same_set t) tags ≡ true → number_in tags t < length tags) → (b : Bool) → (b || list_any (same_set t) tags) ≡ true → cond (not b) (1 + number_in tags t) 0 < length (x ∷ tags)
    by rest true g = omega arith
    by rest false g = let below = rest g in omega arith

-- the tags of merges are used
is_used : (ms : List FileMerge) (m : FileMerge) (t : List Lit) → Member ms m → Member m.tags t → list_any (same_set t) (used_tags ms) ≡ true
is_used ms m t in-ms in-m =
    any-each_once same_set (same_set t) (λ x y h. same_sets.symm t x ∙ (same_sets.congr x y t h ∙ same_sets.symm y t)) ([] ∷ flat_map (λ m. m.tags) ms)
    ∙ any_from (same_set t) ([] ∷ flat_map (λ m. m.tags) ms) t (inr (member_flat_map (λ (m : FileMerge). m.tags) ms m t in-ms in-m)) (same_sets.refl t)

module _ (atoms : ℕ) (i : Initial) (ms : List FileMerge) (table : TagTable) (is : IsTableOf atoms i ms table) where
  -- so they stand in the table at their numbers
  pub stands : (m : FileMerge) (t : List Lit) → Member ms m → Member m.tags t → (row : TagRow) × (slice_get table.tags (number_in (used_tags ms) t) ≡ Some row) × (row.lits ≡ t)
  stands m t in-ms in-m =
      subst (λ (tags : List (List Lit)). (row : TagRow) × (slice_get table.tags (number_in tags t) ≡ Some row) × (row.lits ≡ t)) is.tags
      (at_number table.tags t (subst (λ (tags : List (List Lit)). list_any (same_set t) tags ≡ true) (sym is.tags) (is_used ms m t in-ms in-m)))

  -- tag 0 is the empty one
  empty_first : (row : TagRow) × (slice_get table.tags 0 ≡ Some row) × (row.lits ≡ [])
  empty_first = by table.tags is.tags
    where
      by : (rows : List TagRow) → map (λ row. row.lits) rows ≡ used_tags ms → (row : TagRow) × (slice_get rows 0 ≡ Some row) × (row.lits ≡ [])
      by [] e = cc
      by (r ∷ rows) e = (r, refl, cc)

  in_range : (m : Merge) (t : ℕ) → Member table.merges m → Member m.tags t → t < length table.tags
  in_range m t in-table in-m =
      let file = map_member (numbered (used_tags ms)) ms m (subst (λ (all : List Merge). Member all m) is.merges in-table) in
      let tag = map_member (number_in (used_tags ms)) file.0.tags t (subst (λ (n : Merge). Member n.tags t) (sym file.2) in-m) in
      let below = number_below (used_tags ms) tag.0 (is_used ms file.0 tag.0 file.1 tag.1) in
      let long : length (used_tags ms) ≡ length table.tags = ap length (sym is.tags) ∙ length-map table.tags (λ (row : TagRow). row.lits) in
      subst (λ n. n < length table.tags) tag.2 (subst (λ n. number_in (used_tags ms) tag.0 < n) long below)

  -- where a tag holds, it does by its number
  one_holds : (m : FileMerge) → Member ms m → (s : State) (t : List Lit) → Member m.tags t → list_all (holds s) t ≡ true → tag_holds (slice_get table.tags (number_in (used_tags ms) t)) s ≡ true
  one_holds m in-ms s t in-m all =
      let row = stands m t in-ms in-m in
      ap (λ o. tag_holds o s) row.1 ∙ (ap (list_all (holds s)) row.2 ∙ all)

  -- a merge whose tags are valid is valid by number
  valid_by_number : AreAllAcceptable i ms → (m : FileMerge) → Member ms m → IsValid i table (numbered (used_tags ms) m)
  valid_by_number fine m in-ms s model =
      any_map (number_in (used_tags ms)) (λ n. tag_holds (slice_get table.tags n) s) (λ t. tag_holds (slice_get table.tags (number_in (used_tags ms) t)) s) m.tags (λ t. refl)
      ∙ any_weaker (list_all (holds s)) (λ t. tag_holds (slice_get table.tags (number_in (used_tags ms) t)) s) m.tags (one_holds m in-ms s) ((fine.each m in-ms).valid s model)

  each_valid : AreAllAcceptable i ms → AreValid i table
  each_valid fine = record {
    each = λ m in-table.
        let file = map_member (numbered (used_tags ms)) ms m (subst (λ (all : List Merge). Member all m) is.merges in-table) in
        subst (IsValid i table) file.2 (valid_by_number fine file.0 file.1);
  }

pub right : AcceptedTablesAreRight
right g i ms table fine is = (
  record {
    first = empty_first (length g.atoms) i ms table is;
    tags = in_range (length g.atoms) i ms table is;
    closures = λ row m. (is.closures row m).closure;
  },
  each_valid (length g.atoms) i ms table is fine,
)
