-- A source has one table, or one refusal.
use Rattle.std.proofs.Common.{◌≡◌, ℕ, List, Ok, Err, length, refl, subst, arith}
use Rattle.kp_base.specs.declared.ground.Ground.{Ground}
use Rattle.kp_base.specs.declared.ground.Initial.{Initial}
use Rattle.kp_base.specs.declared.ground.TagTable.{TagTable}
use Rattle.kp_base.specs.declared.limits.Mode.{Mode}
use Rattle.kp_base.specs.declared.refused.Refused.{Refused}
use Rattle.kp_base.specs.declared.refused.Stop.TheVariants as stops
use Rattle.kp_tags_files.specs.declared.merge.FileMerge.{FileMerge}
use Rattle.kp_tags_files.specs.MergesFiles.{IsMergesOf}
use Rattle.kp_tags_files.proofs.Public.{merges_read_once, merges_refuse_once, merges_never_both}
use Rattle.kp_tags.specs.Answers.{Accepts, RefusesTable}
use Rattle.kp_tags.specs.Made.{IsMade, RefusesMade}
use Rattle.kp_tags.proofs.Public.{made_table_once}
use Rattle.kp_law_decidable.proofs.Public.{table_refusal_once, table_or_refused, accepted_table_is_one}
use Rattle.kp_run_messages.specs.Refusals.{Nameable}
use Rattle.kp_words.specs.Asked.{Source}
use Rattle.kp_run_prepare.specs.Prepared.{usual}
use Rattle.kp_run_inputs.specs.SourceTables.{HasTable, by_mode, by_file, RefusesSource, of_its_mode, long_file, no_merges, bad_merges}
use Rattle.kp_run_inputs.specs.Laws.{SourcesHaveOneTable}

-- ---- in a mode

module _ (g : Ground) (i : Initial) (mode : Mode) where
  pub one_refusal : (r s : Refused) → RefusesMade mode usual g i r → RefusesMade mode usual g i s → r ≡ s
  one_refusal r s a b = let e = made_table_once mode usual g i i (Err (stops.Refused r)) (Err (stops.Refused s)) (λ q. refl) (λ f. cc) (λ f. cc) a b in cc

  one_made : (t v : TagTable) → IsMade mode usual g i t → IsMade mode usual g i v → t ≡ v
  one_made t v a b = let e = made_table_once mode usual g i i (Ok t) (Ok v) (λ q. refl) (λ f. cc) (λ f. cc) a b in cc

  refused_or_made : (r : Refused) (t : TagTable) → RefusesMade mode usual g i r → IsMade mode usual g i t → ⊥
  refused_or_made r t a b = let e = made_table_once mode usual g i i (Err (stops.Refused r)) (Ok t) (λ q. refl) (λ f. cc) (λ f. cc) a b in cc

-- ---- with a text of merges

module _ (g : Ground) (i : Initial) (text : List ℕ) where
  same_refusal : (ms ns : List FileMerge) (r s : Refused) → IsMergesOf g.atoms text ms → IsMergesOf g.atoms text ns → RefusesTable (length g.atoms) i ms usual.tags r → RefusesTable (length g.atoms) i ns usual.tags s → r ≡ s
  same_refusal ms ns r s h k a b = table_refusal_once (length g.atoms) i ns usual.tags r s (subst (λ z. RefusesTable (length g.atoms) i z usual.tags r) (merges_read_once g.atoms text ms ns h k) a) b

  refused_or_accepted : (ms ns : List FileMerge) (r : Refused) (t : TagTable) → IsMergesOf g.atoms text ms → IsMergesOf g.atoms text ns → RefusesTable (length g.atoms) i ms usual.tags r → Accepts (length g.atoms) i ns usual.tags t → ⊥
  refused_or_accepted ms ns r t h k a b = table_or_refused (length g.atoms) i ns usual.tags t r b (subst (λ z. RefusesTable (length g.atoms) i z usual.tags r) (merges_read_once g.atoms text ms ns h k) a)

  same_table : (ms ns : List FileMerge) (t v : TagTable) → IsMergesOf g.atoms text ms → IsMergesOf g.atoms text ns → Accepts (length g.atoms) i ms usual.tags t → Accepts (length g.atoms) i ns usual.tags v → t ≡ v
  same_table ms ns t v h k a b = accepted_table_is_one (length g.atoms) i ns usual.tags t v (subst (λ z. Accepts (length g.atoms) i z usual.tags t) (merges_read_once g.atoms text ms ns h k) a) b

-- ---- of a source

module _ (g : Ground) (i : Initial) where
  tables_one : (source : Source) (merges : List (List ℕ)) (t v : TagTable) → HasTable g i source merges t → HasTable g i source merges v → t ≡ v
  tables_one _ _ t v (by_mode mode _ a) (by_mode _ _ b) = one_made g i mode t v a b
  tables_one _ _ t v (by_file name text ms _ short read a) (by_file _ _ ns _ also_short also a') = same_table g i text ms ns t v read also a a'

  refusals_one : (source : Source) (merges : List (List ℕ)) (a b : Nameable) (r s : Refused) → RefusesSource g i source merges a r → RefusesSource g i source merges b s → (a ≡ b) × (r ≡ s)
  refusals_one _ _ _ _ r s (of_its_mode mode _ h) (of_its_mode _ _ k) = (refl, one_refusal g i mode r s h k)
  refusals_one _ _ _ _ _ _ (long_file name text h) (long_file _ _ k) = (refl, refl)
  refusals_one _ _ _ _ _ s (long_file name text h) (no_merges _ _ _ k e) = absurd (omega (arith, h, k))
  refusals_one _ _ _ _ _ s (long_file name text h) (bad_merges _ _ ms _ k e f) = absurd (omega (arith, h, k))
  refusals_one _ _ _ _ r _ (no_merges name text _ h e) (long_file _ _ k) = absurd (omega (arith, h, k))
  refusals_one _ _ _ _ r s (no_merges name text _ h e) (no_merges _ _ _ k f) = (refl, merges_refuse_once g.atoms text r s e f)
  refusals_one _ _ _ _ r s (no_merges name text _ h e) (bad_merges _ _ ms _ k f x) = absurd (merges_never_both g.atoms text ms r f e)
  refusals_one _ _ _ _ r _ (bad_merges name text ms _ h e x) (long_file _ _ k) = absurd (omega (arith, h, k))
  refusals_one _ _ _ _ r s (bad_merges name text ms _ h e x) (no_merges _ _ _ k f) = absurd (merges_never_both g.atoms text ms s e f)
  refusals_one _ _ _ _ r s (bad_merges name text ms _ h e x) (bad_merges _ _ ns _ k f y) = (refl, same_refusal g i text ms ns r s e f x y)

  never_both : (source : Source) (merges : List (List ℕ)) (t : TagTable) (a : Nameable) (r : Refused) → HasTable g i source merges t → RefusesSource g i source merges a r → ⊥
  never_both _ _ t _ r (by_mode mode _ h) (of_its_mode _ _ k) = refused_or_made g i mode r t k h
  never_both _ _ t _ _ (by_file name text ms _ h e x) (long_file _ _ k) = omega (arith, h, k)
  never_both _ _ t _ r (by_file name text ms _ h e x) (no_merges _ _ _ k f) = merges_never_both g.atoms text ms r e f
  never_both _ _ t _ r (by_file name text ms _ h e x) (bad_merges _ _ ns _ k f y) = refused_or_accepted g i text ns ms r t f e y x

pub one_table : SourcesHaveOneTable
one_table g i source merges = record { tables = tables_one g i source merges; refusals = refusals_one g i source merges; either = never_both g i source merges }
