-- The tables of some modes are complete.
use Rattle.std.proofs.Common.{◌≡◌, ◌∙◌, List, length, map, slice_get, sym, ap, subst}
use Rattle.kp_base.specs.declared.lit.Lit.{Lit}
use Rattle.kp_base.specs.declared.ground.Ground.{Ground}
use Rattle.kp_base.specs.declared.ground.Initial.{Initial}
use Rattle.kp_base.specs.declared.ground.Merge.{Merge}
use Rattle.kp_base.specs.declared.ground.TagTable.{TagTable}
use Rattle.kp_base.specs.Planning.{Member, AreValid, Meets, Covers, lits_of, tags_of, IsCovered}
use Rattle.kp_base.proofs.Lists.{member_map, map_member}
use Rattle.kp_tags_files.specs.declared.merge.FileMerge.{FileMerge}
use Rattle.kp_tags_modes.specs.Laws.{IsCoveredBy}
use Rattle.kp_tags_modes.proofs.Public.{some_modes_cover_each}
use Rattle.kp_tags.specs.MergeTables.{used_tags, number_in, numbered, IsTableOf}
use Rattle.kp_tags.specs.Laws.{MadeTablesAreComplete}
use Rattle.kp_tags.proofs.Right.{stands}
use Rattle.kp_tags.proofs.Made.{made_right}

module _ (g : Ground) (i : Initial) (ms : List FileMerge) (table : TagTable) (is : IsTableOf (length g.atoms) i ms table) (target : Lit) where
  -- a merge whose tags cover does so by number
  covers_by_number : (m : FileMerge) → Member ms m → Covers g i m.tags target → Covers g i (tags_of table (numbered (used_tags ms) m)) target
  covers_by_number m in_ms covers tag c in_tags r =
      let n = map_member (λ n. lits_of (slice_get table.tags n)) (map (number_in (used_tags ms)) m.tags) tag in_tags in
      let t = map_member (number_in (used_tags ms)) m.tags n.0 n.1 in
      let row = stands (length g.atoms) i ms table is m t.0 in_ms t.1 in
      let same : t.0 ≡ tag = sym row.2 ∙ (sym (ap lits_of row.1) ∙ (ap (λ k. lits_of (slice_get table.tags k)) t.2 ∙ n.2)) in
      subst (λ (ls : List Lit). Meets i ls c) same (covers t.0 c t.1 r)

  -- what merges cover, their table covers
  covered_by_table : AreValid i table → IsCoveredBy g i ms target → IsCovered g i table target
  covered_by_table valid (IsCoveredBy.by_empty_tag h) = IsCovered.by_empty_tag h
  covered_by_table valid (IsCoveredBy.by_merge m in_ms same h) =
      let in_table = subst (λ (all : List Merge). Member all (numbered (used_tags ms) m)) (sym is.merges) (member_map (numbered (used_tags ms)) ms m in_ms) in
      IsCovered.by_merge (numbered (used_tags ms) m) in_table same (valid.each (numbered (used_tags ms) m) in_table) (covers_by_number m in_ms h)

pub made_complete : MadeTablesAreComplete
made_complete mode limits g i table each own made = record {
  each = λ l t. covered_by_table g i made.merges table made.is_table l (made_right mode limits g i table own made).1 (some_modes_cover_each mode limits.sets g i made.merges each made.of_mode l t);
}
