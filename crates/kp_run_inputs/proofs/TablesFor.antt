-- The table of a source is one for the trees.
use Rattle.std.proofs.Common.{◌≤◌, ◌<◌, ◌^◌, ℕ, List, [], ◌∷◌, length, map, sum_by, inl, inr, refl, sym, ap, subst, arith}
use Rattle.std.specs.List.{AllByRecursion}
use Rattle.std.proofs.lemmas.List.{length-map}
use Rattle.std.proofs.lemmas.List.Sums.{sum_by-cons}
use Rattle.kp_base.specs.declared.ground.Ground.{Ground}
use Rattle.kp_base.specs.declared.ground.GroundName.{GroundName}
use Rattle.kp_base.specs.declared.ground.Initial.{Initial}
use Rattle.kp_base.specs.declared.ground.Merge.{Merge}
use Rattle.kp_base.specs.declared.ground.TagRow.{TagRow}
use Rattle.kp_base.specs.declared.ground.TagTable.{TagTable}
use Rattle.kp_base.specs.declared.lit.Lit.{Lit}
use Rattle.kp_base.specs.Lists.{Member}
use Rattle.kp_base.specs.Implicates.{IsOfItsAtoms}
use Rattle.kp_tree_grammar.specs.declared.tree.Word.{Word}
use Rattle.kp_tree_grammar.specs.Trees.{Domain, Problem}
use Rattle.kp_names_semantics.specs.Numbering.{numbered_problem}
use Rattle.kp_tags_files.specs.declared.merge.FileMerge.{FileMerge}
use Rattle.kp_cover.proofs.Public.{target_is_below}
use Rattle.kp_tags_modes.proofs.Public.{merges_of_modes_are_good}
use Rattle.kp_write.specs.Grounds.{IsOfAtom}
use Rattle.kp_law_ktask.specs.Task.{task_of}
use Rattle.kp_law_ktask.specs.Weight.{merge_weight}
use Rattle.kp_law_ktask.proofs.Public.{weight_is_counted}
use Rattle.kp_ktask.specs.Translated.{FitsLimits}
use Rattle.kp_tags.specs.MergeTables.{used_tags, numbered}
use Rattle.kp_law_translation.specs.OfTrees.{ground_of, initial_of}
use Rattle.kp_law_translation.specs.Tables.{IsTableFor}
use Rattle.kp_run_prepare.specs.Prepared.{usual, IsSmall}
use Rattle.kp_run_prepare.proofs.Public.{usual_ground_is_of_its_atoms}
use Rattle.kp_words.specs.Asked.{Source}
use Rattle.kp_run_inputs.specs.SourceTables.{HasTable, by_mode, by_file}
use Rattle.kp_run_inputs.proofs.FileMerges.{targets_of_atoms}
use Rattle.kp_run_inputs.proofs.Right.{tables_right}

-- there are no more merges than they weigh
few_by_weight : (ms : List Merge) → length ms ≤ sum_by merge_weight ms
few_by_weight [] = omega arith
few_by_weight (m ∷ ms) = let rest = few_by_weight ms in let whole = sum_by-cons merge_weight m ms in omega (arith, rest, whole)

-- the targets of numbered merges are those of the merges
same_targets : (atoms : List GroundName) (all : List (List Lit)) (ms : List FileMerge) → AllByRecursion (λ (m : FileMerge). IsOfAtom atoms m.target) ms → AllByRecursion (λ (m : Merge). IsOfAtom atoms m.target) (map (numbered all) ms)
same_targets atoms all [] h = tt
same_targets atoms all (m ∷ ms) h = (h.0, same_targets atoms all ms h.1)

each_target : (atoms : List GroundName) (ms : List FileMerge) → ((m : FileMerge) → Member ms m → m.target.atom.0 < length atoms) → AllByRecursion (λ (m : FileMerge). IsOfAtom atoms m.target) ms
each_target atoms [] h = tt
each_target atoms (m ∷ ms) h = (h m (inl refl), each_target atoms ms (λ x there. h x (inr there)))

-- the targets of a table are of the ground atoms
pub targets_are : (g : Ground) (i : Initial) (source : Source) (merges : List (List ℕ)) (table : TagTable) → IsOfItsAtoms g → HasTable g i source merges table → AllByRecursion (λ (m : Merge). IsOfAtom g.atoms m.target) table.merges
targets_are g i _ _ table own (by_mode mode _ is) =
    subst (λ all. AllByRecursion (λ (m : Merge). IsOfAtom g.atoms m.target) all) (sym is.is_table.merges)
    (same_targets g.atoms (used_tags is.merges) is.merges (each_target g.atoms is.merges (λ m there. target_is_below g own m.target (merges_of_modes_are_good mode usual.sets g i is.merges own is.of_mode m there).target)))
targets_are g i _ _ table own (by_file name text ms _ short read fine) =
    subst (λ all. AllByRecursion (λ (m : Merge). IsOfAtom g.atoms m.target) all) (sym fine.is_table.merges)
    (same_targets g.atoms (used_tags ms) ms (targets_of_atoms g.atoms text ms read))

pub target_within : (atoms : List GroundName) (ms : List Merge) → AllByRecursion (λ (m : Merge). IsOfAtom atoms m.target) ms → (m : Merge) → Member ms m → m.target.atom.0 < length atoms
target_within atoms [] h m there = absurd there
target_within atoms (x ∷ ms) h m (inl e) = subst (λ (y : Merge). IsOfAtom atoms y.target) e h.0
target_within atoms (x ∷ ms) h m (inr later) = target_within atoms ms h.1 m later

-- tags and merges can be counted
tags_fit : (g : Ground) (i : Initial) (source : Source) (merges : List (List ℕ)) (table : TagTable) → HasTable g i source merges table → length table.tags < 2 ^ 64
tags_fit g i _ _ table (by_mode mode _ is) = let a = ap length is.is_table.tags in let b = length-map table.tags (λ (row : TagRow). row.lits) in let f = is.within_limit in omega (arith, a, b, f)
tags_fit g i _ _ table (by_file name text ms _ short read fine) = let a = ap length fine.is_table.tags in let b = length-map table.tags (λ (row : TagRow). row.lits) in let f = fine.within_limit in omega (arith, a, b, f)

pub few_merges : (g : Ground) (table : TagTable) → FitsLimits (task_of g table) usual → length table.merges ≤ 16000000
few_merges g table fits = let a = few_by_weight table.merges in let b = weight_is_counted g table in let f = fits.weight in omega (arith, a, b, f)

merges_fit : (g : Ground) (table : TagTable) → FitsLimits (task_of g table) usual → length table.merges < 2 ^ 64
merges_fit g table fits = let few = few_merges g table fits in omega (arith, few)

pub table_for : (d : Domain Word) (p : Problem Word) (source : Source) (merges : List (List ℕ)) (table : TagTable) → IsSmall d p → FitsLimits (task_of (ground_of d p) table) usual → HasTable (ground_of d p) (initial_of d p) source merges table → IsTableFor d p table
table_for d p source merges table small fits has =
    let own = usual_ground_is_of_its_atoms (numbered_problem d p) (ground_of d p) small in
    let right = tables_right (ground_of d p) (initial_of d p) source merges table own has in
    record {
      right = right.0;
      valid = right.1;
      targets = targets_are (ground_of d p) (initial_of d p) source merges table own has;
      tags_fit = tags_fit (ground_of d p) (initial_of d p) source merges table has;
      merges_fit = merges_fit (ground_of d p) table fits;
    }
