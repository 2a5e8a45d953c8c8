-- The merges of a mode have no fault, and their table is the only one.
use Rattle.std.proofs.Common.{◌≡◌, ◌<◌, ◌≤◌, not, ℕ, List, Result, Ok, Err, length, refl, ap, subst, arith}
use Rattle.std.proofs.lemmas.Bool.{and_parts}
use Rattle.kp_base.specs.declared.lit.Lit.{Lit}
use Rattle.kp_base.specs.declared.ground.Ground.{Ground}
use Rattle.kp_base.specs.declared.ground.Initial.{Initial}
use Rattle.kp_base.specs.declared.ground.TagTable.{TagTable}
use Rattle.kp_base.specs.declared.limits.Limits.{Limits}
use Rattle.kp_base.specs.declared.limits.Mode.{Mode}
use Rattle.kp_base.specs.declared.refused.Stop.{Stop}
use Rattle.kp_base.specs.declared.refused.Stop.TheVariants as stops
use Rattle.kp_base.specs.declared.refused.Refused.{Refused}
use Rattle.kp_base.specs.declared.lit.AtomId.{AtomId}
use Rattle.kp_base.specs.Planning.{Member, is_model, IsOfItsAtoms, HaveSameModels}
use Rattle.kp_base.proofs.Lists.{member_at}
use Rattle.kp_primes_first_model.specs.Ordered.{state_of_atoms, AreFirst}
use Rattle.kp_cover.specs.Valid.{AreValidTags, satisfies_one, is_outside}
use Rattle.kp_tags_files.specs.declared.merge.FileMerge.{FileMerge}
use Rattle.kp_tags_modes.specs.Modes.{way_of, AreMergesOf}
use Rattle.kp_tags_modes.specs.Answers.{AnswersMode}
use Rattle.kp_tags_modes.proofs.Public.{merges_of_modes_are_good, modes_have_one_answer, same_models_back}
use Rattle.kp_tags.specs.MergeTables.{used_tags, IsTableOf}
use Rattle.kp_tags.specs.Answers.{AreAllAcceptable, RefusesMerge, inconsistent, invalid, RefusesTable, at_fault, tags_over, AnswersTable}
use Rattle.kp_tags.specs.Made.{IsMade, RefusesMade, AnswersMade}
use Rattle.kp_tags.specs.Laws.{MadeTablesAreRight, IsMadeOnce}
use Rattle.kp_tags.proofs.ByModels.{table_of}
use Rattle.kp_tags.proofs.Right.{right}
use Rattle.kp_tags.proofs.Unique.{one_table}

-- ---- no fault

pub all_acceptable : (mode : Mode) (limit : ℕ) (g : Ground) (i : Initial) (ms : List FileMerge) → IsOfItsAtoms g → AreMergesOf limit g i (way_of mode) ms → AreAllAcceptable i ms
all_acceptable mode limit g i ms own are = record {
  each = λ m at.
      let good = merges_of_modes_are_good mode limit g i ms own are m at in
      record { consistent = record { each = good.consistent }; valid = good.valid };
}

pub made_right : MadeTablesAreRight
made_right mode limits g i table own made = right g i made.merges table (all_acceptable mode limits.sets g i made.merges own made.of_mode) made.is_table

-- ---- one answer

module _ (mode : Mode) (limits : Limits) (g : Ground) (i j : Initial) (same : HaveSameModels i j) where
  abbrev n : ℕ
  n = length g.atoms

  same_merges : (ms ns : List FileMerge) → AreMergesOf limits.sets g i (way_of mode) ms → AreMergesOf limits.sets g j (way_of mode) ns → ms ≡ ns
  same_merges ms ns a b = (modes_have_one_answer mode limits.sets g i j same).merges ms ns a b

  tables_agree : (t u : TagTable) → IsMade mode limits g i t → IsMade mode limits g j u → t ≡ u
  tables_agree t u a b =
      one_table n j b.merges t u
      (subst (λ ms. IsTableOf n j ms t) (same_merges a.merges b.merges a.of_mode b.of_mode) (table_of i j same n a.merges t a.is_table)) b.is_table

  within_and_over : (ms ns : List FileMerge) → AreMergesOf limits.sets g i (way_of mode) ms → AreMergesOf limits.sets g j (way_of mode) ns → length (used_tags ms) ≤ limits.tags → limits.tags < length (used_tags ns) → ⊥
  within_and_over ms ns a b few many = let same_number = ap (λ (xs : List FileMerge). length (used_tags xs)) (same_merges ms ns a b) in absurd (omega (arith, same_number, few, many))

  made_excludes_refused : (t : TagTable) (r : Refused) → IsMade mode limits g i t → RefusesMade mode limits g j r → ⊥
  made_excludes_refused t r a (RefusesMade.by_mode _ h) = (modes_have_one_answer mode limits.sets g i j same).never_both a.merges r a.of_mode h
  made_excludes_refused t _ a (RefusesMade.tags_over ms h over) = within_and_over a.merges ms a.of_mode h a.within_limit over

  refusals_agree : (r s : Refused) → RefusesMade mode limits g i r → RefusesMade mode limits g j s → r ≡ s
  refusals_agree r s (RefusesMade.by_mode _ a) (RefusesMade.by_mode _ b) = (modes_have_one_answer mode limits.sets g i j same).refusals r s a b
  refusals_agree r _ (RefusesMade.by_mode _ a) (RefusesMade.tags_over ms b over) = absurd ((modes_have_one_answer mode limits.sets g j i (same_models_back i j same)).never_both ms r b a)
  refusals_agree _ s (RefusesMade.tags_over ms a over) (RefusesMade.by_mode _ b) = absurd ((modes_have_one_answer mode limits.sets g i j same).never_both ms s a b)
  refusals_agree _ _ (RefusesMade.tags_over ms a over) (RefusesMade.tags_over ns b more) = refl

pub made_once : IsMadeOnce
made_once mode limits g i j (Ok t) (Ok u) same _ _ a b = ap Ok (tables_agree mode limits g i j same t u a b)
made_once mode limits g i j (Ok t) (Err (stops.Refused r)) same _ _ a b = absurd (made_excludes_refused mode limits g i j same t r a b)
made_once mode limits g i j (Err (stops.Refused r)) (Ok t) same _ _ a b = absurd (made_excludes_refused mode limits g j i (same_models_back i j same) t r b a)
made_once mode limits g i j (Err (stops.Refused r)) (Err (stops.Refused s)) same _ _ a b = ap (λ (x : Refused). Err (stops.Refused x)) (refusals_agree mode limits g i j same r s a b)
made_once mode limits g i j (Err stops.Memory) s same none _ a b = absurd (none refl)
made_once mode limits g i j (Ok t) (Err stops.Memory) same _ none a b = absurd (none refl)
made_once mode limits g i j (Err (stops.Refused r)) (Err stops.Memory) same _ none a b = absurd (none refl)

-- ---- what the code answers

-- where each model makes one of the tags true, no state is outside
none_outside : (n : ℕ) (i : Initial) (tags : List (List Lit)) (state : List AtomId) → AreValidTags i tags → AreFirst n (is_outside i tags) state → ⊥
none_outside n i tags state valid first =
    let parts = and_parts (is_model i (state_of_atoms state)) (not (satisfies_one tags (state_of_atoms state))) first.0.passed in
    let inside = valid (state_of_atoms state) parts.0 in
    absurd (cc (inside, parts.1))

module _ (mode : Mode) (limits : Limits) (g : Ground) (i : Initial) (ms : List FileMerge) (own : IsOfItsAtoms g) (are : AreMergesOf limits.sets g i (way_of mode) ms) where
  fine : AreAllAcceptable i ms
  fine = all_acceptable mode limits.sets g i ms own are

  -- no merge is at fault
  faultless : (n number : ℕ) (m : FileMerge) (r : Refused) → Member ms m → RefusesMerge n i number m.tags r → ⊥
  faultless n number m _ here (inconsistent place e) = e.inconsistent ((fine.each m here).consistent.each e.tag (member_at m.tags place e.tag e.tag_at))
  faultless n number m _ here (invalid state e first) = none_outside n i m.tags state (fine.each m here).valid first

  refused_made : (n : ℕ) (r : Refused) → RefusesTable n i ms limits.tags r → RefusesMade mode limits g i r
  refused_made n r (at_fault _ h) = absurd (faultless n h.number h.merge r (member_at ms h.number h.merge h.merge_at) h.fault)
  refused_made n _ (tags_over _ over) = RefusesMade.tags_over ms are over

  -- a table within the limit, or too many tags
  pub made : (n : ℕ) (r : Result TagTable Stop) → n ≡ length g.atoms → AnswersTable n i ms limits.tags r → AnswersMade mode limits g i r
  made n (Ok table) same h = record { merges = ms; of_mode = are; within_limit = h.within_limit; is_table = subst (λ m. IsTableOf m i ms table) same h.is_table }
  made n (Err (stops.Refused r)) same h = refused_made n r h
  made n (Err stops.Memory) same h = tt

-- what stops the merges stops the table
pub stops_made : (mode : Mode) (limits : Limits) (g : Ground) (i : Initial) (stop : Stop) → AnswersMode mode limits.sets g i (Err stop) → AnswersMade mode limits g i (Err stop)
stops_made mode limits g i (stops.Refused r) h = RefusesMade.by_mode r h
stops_made mode limits g i stops.Memory h = tt
