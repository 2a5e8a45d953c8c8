-- What a run that ended with Done put is sound.
use Rattle.std.proofs.Common.{◌≡◌, ◌≢◌, ℕ, cond, List, Some, Vec, sym, ap, subst, ◌∙◌}
use Rattle.std.proofs.lemmas.Bool.{false_from_ne_true}
use Rattle.std.proofs.lemmas.Map.Text.{is_eq-slice_cmp}
use Rattle.std.specs.Cmp.Lexicographic.{nat_list_cmp_total}
use Rattle.std.specs.FinMap.{get, insert, get-insert}
use Rattle.std.specs.declared.alloc.Global.{Global}
use Rattle.kp_base.proofs.Lists.{same-true, same-refl}
use Rattle.kp_outside.specs.Outside.{FileMap}
use Rattle.kp_base.specs.declared.ground.Ground.{Ground}
use Rattle.kp_base.specs.declared.ground.Initial.{Initial}
use Rattle.kp_base.specs.declared.lit.Lit.{Lit}
use Rattle.kp_base.specs.Covering.{AreUncovered}
use Rattle.kp_base.specs.declared.ground.TagTable.{TagTable}
use Rattle.kp_law_ktask.specs.Task.{task_of}
use Rattle.kp_ktask.specs.Translated.{FitsLimits}
use Rattle.kp_ktask_texts.specs.declared.translation.Translation.{Translation}
use Rattle.kp_law_translation.specs.Tables.{IsTableFor}
use Rattle.kp_law_translation.specs.Written.{translation_of}
use Rattle.kp_law_tagged_machine.proofs.Public.{no_clash_under_exclusive_pairs}
use Rattle.kp_tree_grammar.specs.declared.tree.Word.{Word}
use Rattle.kp_tree_grammar.specs.Trees.{Domain, Problem}
use Rattle.kp_names_semantics.specs.Plans.{HasProblem}
use Rattle.kp_law_translation.specs.OfTrees.{ground_of, initial_of}
use Rattle.kp_law_translation.proofs.Public.{translations_are_sound}
use Rattle.kp_run_prepare.specs.Texts.{HaveTrees}
use Rattle.kp_run_prepare.specs.Refusing.{refuses}
use Rattle.kp_run_prepare.specs.Prepared.{usual, IsPrepared, by_texts, by_trees, early, later}
use Rattle.kp_run_prepare.proofs.Public.{problem_of_trees}
use Rattle.kp_base.specs.declared.refused.Refused.{Refused}
use Rattle.kp_run_messages.specs.Refusals.{Nameable, nothing}
use Rattle.kp_run_outcome.specs.declared.outcome.Outcome.{Outcome}
use Rattle.kp_run_outcome.specs.declared.status.Status.{Status}
use Rattle.kp_run_outcome.specs.declared.status.Status.TheVariants as status
use Rattle.kp_run_outcome.specs.Ends.{Outside, AreHeld, with_files, whole, put_failed, put_no_memory, print_failed, print_no_memory}
use Rattle.kp_words.specs.Asked.{Asked, source_of}
use Rattle.kp_words.specs.declared.verb.Verb.TheVariants as verbs
use Rattle.kp_words.specs.Command.{IsCall, file_of, if_named}
use Rattle.kp_words.proofs.Public.{translate_outputs_differ}
use Rattle.kp_run_inputs.specs.SourceTables.{HasTable, no_table, with_table}
use Rattle.kp_run_inputs.proofs.Public.{table_of_source_is_for_trees}
use Rattle.kp_run_inputs.specs.Tasks.{no_task, with_task}
use Rattle.kp_run.specs.Translate.{translates, TranslatesGround, TranslatesTrees, TranslatesTexts}
use Rattle.kp_run.specs.Outcomes.{IsDue}
use Rattle.kp_run.specs.Ends.{Ends, came, read_failed, no_memory}
use Rattle.kp_run.specs.Soundness.{IsSound}
use Rattle.kp_run.proofs.Reading.{content_held, merges_held}
use Rattle.kp_run.proofs.Comes.{due_makes}

-- ---- what is held under two names

pub at_last : (m : FileMap) (name content : List ℕ) → get (insert m name content) name ≡ Some content
at_last m name content =
    get-insert nat_list_cmp_total m name content name
    ∙ ap (λ b. cond b (Some content) (get m name)) (is_eq-slice_cmp name name ∙ same-refl name)

pub under_another : (m : FileMap) (name other content : List ℕ) → name ≢ other → get (insert m other content) name ≡ get m name
under_another m name other content apart =
    get-insert nat_list_cmp_total m other content name
    ∙ ap (λ b. cond b (Some content) (get m name)) (is_eq-slice_cmp name other ∙ false_from_ne_true _ (λ h. apart (same-true name other h)))

-- ---- the result

-- what a ground problem is translated to, if that is Done
pub record IsGroundDone (c : Asked) (g : Ground) (i : Initial) (table : TagTable) (o : Outcome) : Type 0 where
  pub uncovered : List Lit
  pub fits : FitsLimits (task_of g table) usual
  pub are_uncovered : AreUncovered g i table uncovered
  pub outcome : o ≡ translates c g table uncovered

-- what Done says of two texts: they are translated with a table for their trees
pub record IsDone (c : Asked) (domain problem : List ℕ) (merges : List (List ℕ)) (o : Outcome) : Type 0 where
  pub first : Domain Word
  pub second : Problem Word
  pub trees : HaveTrees domain problem first second
  pub prepared : IsPrepared c.implicates first second
  pub table : TagTable
  pub has_table : HasTable (ground_of first second) (initial_of first second) (source_of c) merges table
  pub ground : IsGroundDone c (ground_of first second) (initial_of first second) table o

refusal_not_done : (o : Outcome) (n : Nameable) (r : Refused) → o ≡ refuses n r → o.status ≡ status.Done → ⊥
refusal_not_done o n r is e = absurd (let f : status.Refused r ≡ status.Done = sym (ap (λ (z : Outcome). z.status) is) ∙ e in cc)

ground_done : (c : Asked) (g : Ground) (i : Initial) (table : TagTable) (o : Outcome) → TranslatesGround c g i table o → o.status ≡ status.Done → IsGroundDone c g i table o
ground_done c g i table o (no_task r t is) e = absurd (refusal_not_done o nothing r is e)
ground_done c g i table o (with_task f put) e = record { uncovered = put.uncovered; fits = f; are_uncovered = put.are; outcome = put.outcome }

-- what two trees are translated to, if that is Done
record IsTranslated (c : Asked) (merges : List (List ℕ)) (d : Domain Word) (p : Problem Word) (o : Outcome) : Type 0 where
  table : TagTable
  has_table : HasTable (ground_of d p) (initial_of d p) (source_of c) merges table
  ground : IsGroundDone c (ground_of d p) (initial_of d p) table o

trees_done : (c : Asked) (merges : List (List ℕ)) (d : Domain Word) (p : Problem Word) (o : Outcome) → TranslatesTrees c merges d p o → o.status ≡ status.Done → IsTranslated c merges d p o
trees_done c merges d p o (no_table names r why is) e = absurd (refusal_not_done o names r is e)
trees_done c merges d p o (with_table table has h) e = record { table = table; has_table = has; ground = ground_done c (ground_of d p) (initial_of d p) table o h e }

pub is_done : (c : Asked) (x y : List ℕ) (merges : List (List ℕ)) (o : Outcome) → TranslatesTexts c x y merges o → o.status ≡ status.Done → IsDone c x y merges o
is_done c x y merges o (early (by_texts r a is)) e = absurd (refusal_not_done o nothing r is e)
is_done c x y merges o (early (by_trees d p names r h a is)) e = absurd (refusal_not_done o names r is e)
is_done c x y merges o (later d p h ready goes) e =
    let t = trees_done c merges d p o goes e in
    record { first = d; second = p; trees = h; prepared = ready; table = t.table; has_table = t.has_table; ground = t.ground }

-- both texts are held
pub record AreBoth (m : FileMap) (c : Asked) (o : Outcome) : Type 0 where
  pub domain : List ℕ
  pub problem : List ℕ
  pub merges : List (List ℕ)
  pub domain_held : get m c.domain ≡ Some domain
  pub problem_held : get m c.problem ≡ Some problem
  pub merges_held : AreHeld (Some m) (if_named (file_of (source_of c))) merges
  pub texts : TranslatesTexts c domain problem merges o

pub both_held : (words : List (Vec ℕ Global)) (m : FileMap) (c : Asked) (o : Outcome) → IsCall verbs.Translate words c → IsDue words (Some m) o → AreBoth m c o
both_held words m c o is due =
    let it = due_makes words (Some m) verbs.Translate c o is due in
    record { domain = it.contents.domain; problem = it.contents.problem; merges = it.contents.merges; domain_held = content_held m c.domain _ it.are.domain; problem_held = content_held m c.problem _ it.are.problem; merges_held = merges_held (Some m) c _ it.are.merges; texts = it.makes }

module _ (before after : FileMap) (c : Asked) (o : Outcome) (apart : c.domain_out ≢ c.problem_out) (both : AreBoth before c o) (done : o.status ≡ status.Done) (puts : Some after ≡ with_files (Some before) o.puts) where
  pub all_done : IsDone c both.domain both.problem both.merges o
  all_done = is_done c both.domain both.problem both.merges o both.texts done

  abbrev pub d : Domain Word
  d = all_done.first

  abbrev pub p : Problem Word
  p = all_done.second

  abbrev pub written : Translation
  written = translation_of d p all_done.table

  pub is_table : IsTableFor d p all_done.table
  is_table = table_of_source_is_for_trees d p (source_of c) both.merges all_done.table all_done.prepared.started.small all_done.ground.fits all_done.has_table

  has : HasProblem both.domain both.problem
  has = problem_of_trees both.domain both.problem d p all_done.trees

  held : after ≡ insert (insert before c.domain_out written.domain) c.problem_out written.problem
  held = let they = subst (λ (z : Outcome). Some after ≡ with_files (Some before) z.puts) all_done.ground.outcome puts in cc they

  pub first_put : get after c.domain_out ≡ Some written.domain
  first_put = ap (λ m. get m c.domain_out) held ∙ (under_another (insert before c.domain_out written.domain) c.domain_out c.problem_out written.problem apart ∙ at_last before c.domain_out written.domain)

  pub second_put : get after c.problem_out ≡ Some written.problem
  second_put = ap (λ m. get m c.problem_out) held ∙ at_last (insert before c.domain_out written.domain) c.problem_out written.problem

  pub sound_outcome : IsSound before after c
  unfolding has all_done
  sound_outcome = record {
    domain = both.domain;
    problem = both.problem;
    domain_out = written.domain;
    problem_out = written.problem;
    domain_held = both.domain_held;
    problem_held = both.problem_held;
    has_problem = has;
    initial_state = all_done.prepared.started.initial;
    no_clash = all_done.prepared.clash_free;
    merges = record { merges = both.merges; merges_held = both.merges_held; table = all_done.table; has_table = all_done.has_table; valid = is_table.valid };
    domain_put = first_put;
    problem_put = second_put;
    plans = translations_are_sound both.domain both.problem has all_done.table is_table (no_clash_under_exclusive_pairs (ground_of d p) (initial_of d p) all_done.prepared.clash_free);
  }

-- ---- a run that ended with Done

sound_due : (words : List (Vec ℕ Global)) (before after : FileMap) (c : Asked) (o : Outcome) → IsCall verbs.Translate words c → IsDue words (Some before) o → o.status ≡ status.Done → Some after ≡ with_files (Some before) o.puts → IsSound before after c
sound_due words before after c o is due done puts = sound_outcome before after c o (translate_outputs_differ _ c is.is_command.are_words is.of_verb) (both_held words before c o is due) done puts

pub sound_end : (words : List (Vec ℕ Global)) (old new : Outside) (s : Status) → Ends words old new s → (before after : FileMap) (c : Asked) → old.held ≡ Some before → new.held ≡ Some after → IsCall verbs.Translate words c → s ≡ status.Done → IsSound before after c
sound_end words old new s (came o due (whole same none held told)) before after c first last is done =
    sound_due words before after c o is (subst (λ m. IsDue words m o) first due) (sym same ∙ done) (sym last ∙ (held ∙ ap (λ m. with_files m o.puts) first))
sound_end words old new s (came o due (put_failed f e a b g h i)) before after c first last is done = absurd cc
sound_end words old new s (came o due (put_no_memory f e a b g)) before after c first last is done = absurd cc
sound_end words old new s (came o due (print_failed e a b g h i has_text)) before after c first last is done = absurd cc
sound_end words old new s (came o due (print_no_memory e a b g has_text)) before after c first last is done = absurd cc
sound_end words old new s (read_failed (d, e, a) k b g h) before after c first last is done = absurd cc
sound_end words old new s (no_memory e a b) before after c first last is done = absurd cc
