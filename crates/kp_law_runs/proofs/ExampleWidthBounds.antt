-- Calls for the width that end with Done and with Negative: the premises of what is said of such runs are met, from the bytes on. One problem has no target, and its width is 0; the other is over the bound of 0.
use Rattle.std.proofs.Common.{◌≡◌, ◌≢◌, ◌<◌, ◌≤◌, ℕ, zero, suc, Bool, true, false, not, nat_eq, List, [], ◌∷◌, Some, Vec, filter, map, length, codes, inl, inr, refl, sym, ap, ◌∙◌, subst, arith}
use Rattle.std.proofs.lemmas.Bool.{false≢true}
use Rattle.std.specs.FinMap.{empty, get, insert}
use Rattle.std.specs.declared.alloc.Global.{Global}
use lib.Utf8.{encode}
use Rattle.kp_base.specs.declared.ground.Action.{Action}
use Rattle.kp_base.specs.declared.ground.Ground.{Ground}
use Rattle.kp_base.specs.declared.ground.Initial.{Initial}
use Rattle.kp_base.specs.declared.lit.Lit.{Lit}
use Rattle.kp_base.specs.Planning.{Meets, IsTarget, of_precondition, of_goal, Member, choices, each_once, positive, negative, set_of, same_set, IsRelevant, either_value, IsCandidate, AreClausesFor, State, holds, is_model}
use Rattle.kp_base.proofs.Lists.{same-refl}
use Rattle.kp_cover_subsets.specs.Subsets.{subsets, choose}
use Rattle.kp_lex.specs.Bytes.{class_of}
use Rattle.kp_lex.specs.Scanning.{cut_from}
use Rattle.kp_tree_grammar.specs.Symbols.{symbol_of}
use Rattle.kp_tree_grammar.specs.Parsing.{some_at, next_at}
use Rattle.kp_tree_grammar.specs.declared.tree.Word.{Word}
use Rattle.kp_tree_grammar.specs.Trees.{Cond, conds_of, Eff, effs_of, Item, Schema, Domain, Problem}
use Rattle.kp_tree_grammar.specs.Grammar as grammar
use Rattle.kp_tree_grammar.proofs.Public.{example_word_at, example_atom_at, example_pred_at, tokens_of_text}
use Rattle.kp_names_semantics.specs.Names.{same}
use Rattle.kp_names_semantics.specs.Numbering.{numbered_problem}
use Rattle.kp_tree.specs.Files.{HasTree}
use Rattle.kp_cover.specs.Targets.{AreTargets}
use Rattle.kp_cover.specs.Covering.{IsCover}
use Rattle.kp_width.specs.declared.report.WidthReport.{WidthReport}
use Rattle.kp_width.specs.declared.report.WidthReport.TheVariants.{Within, Over}
use Rattle.kp_width.specs.Rows.{NoneCovers, AreRows, IsOver}
use Rattle.kp_width.specs.Answers.{IsReport}
use Rattle.kp_law_decidable.proofs.Public.{clauses_decided, targets_decided}
use Rattle.kp_law_translation.specs.OfTrees.{ground_of, initial_of}
use Rattle.kp_outside.specs.Outside.{with_bytes}
use Rattle.kp_run_outcome.specs.declared.status.Status.TheVariants as status
use Rattle.kp_run_outcome.specs.Ends.{Outside, whole}
use Rattle.kp_run_messages.specs.Widths.{width_text, over_text}
use Rattle.kp_words.specs.Asked.{Asked}
use Rattle.kp_words.specs.declared.verb.Verb.TheVariants as verbs
use Rattle.kp_words_options.specs.Words.{nothing, a_word, word as said_word}
use Rattle.kp_words.specs.Command.{IsCall}
use Rattle.kp_words.proofs.Public.{word_of_bytes, example_is_width, call_by_words, files_by_computing, usual_source, usual_numbers, nothing_generated}
use Rattle.kp_words.specs.Owned.{bare}
use Rattle.kp_run_prepare.specs.Texts.{HaveTrees}
use Rattle.kp_run_prepare.specs.Prepared.{usual, IsPrepared, later}
use Rattle.kp_run.specs.Width.{tells_width, with_report}
use Rattle.kp_run.specs.Ends.{Ends, came}
use Rattle.kp_run.proofs.Public.{got_after_insert, got_beside_insert, prepared_is_proper, due_by, held_alone}
use Rattle.kp_law_runs.proofs.Computed.{reads_file as file_reads_by_computing}
use Rattle.kp_law_runs.proofs.ExampleOutcomes.{holding as example_holding, has_state as example_has_state, few_primes as example_few_primes}
use Rattle.kp_law_runs.specs.Width.{IsWidthTold, IsTooWide}
use Rattle.kp_law_runs.proofs.Widths.{widths_are_true}
use Rattle.kp_law_runs.proofs.ExampleFiles.{within, never_clashing, turn, no_atom, chain, chain_tree, chain_reads}

-- ---- words

abbrev pub front : List (Vec ℕ Global) → List (Vec ℕ Global)
front more = word_of_bytes (codes "width") (omega arith) ∷ word_of_bytes (codes "d") (omega arith) ∷ word_of_bytes (codes "p") (omega arith) ∷ more

abbrev pub measuring : ℕ → Asked
measuring bound = record (bare verbs.Width) { domain = codes "d"; problem = codes "p"; bound = bound; implicates = 20000 }

pub is_plain : IsCall verbs.Width (front []) (measuring 3)
unfolding encode
is_plain =
    call_by_words verbs.Width _ _ _ (said_word (codes "d") ∷ said_word (codes "p") ∷ []) ((codes "width", (refl, refl)), ((codes "d", (refl, refl)), ((codes "p", (refl, refl)), tt))) refl (a_word _ _ _ refl (a_word _ _ _ refl (nothing))) refl refl refl refl
    (record { files = files_by_computing refl tt; source = usual_source refl; numbers = usual_numbers refl; generated = nothing_generated refl })

abbrev with_bound : List (Vec ℕ Global)
with_bound = word_of_bytes (codes "width") (omega arith) ∷ word_of_bytes (codes "--bound") (omega arith) ∷ word_of_bytes (codes "0") (omega arith) ∷ word_of_bytes (codes "d") (omega arith) ∷ word_of_bytes (codes "p") (omega arith) ∷ []

-- ---- a run on two files

apart : (x y : List ℕ) → same x y ≡ false → x ≢ y
apart x y h e = false≢true (sym h ∙ (sym (ap (same x) e) ∙ same-refl x))

abbrev pub before : List ℕ → List ℕ → Outside
before domain problem = record { held = Some (example_holding domain problem); told = Some []; get_faults = λ q. 0; put_faults = λ q. 0; write_faults = 0 }

abbrev pub after : List ℕ → List ℕ → List ℕ → Outside
after domain problem text = record { held = Some (example_holding domain problem); told = with_bytes (Some []) text; get_faults = λ q. 0; put_faults = λ q. 0; write_faults = 0 }

pub domain_held : (domain problem : List ℕ) → get (example_holding domain problem) (codes "d") ≡ Some domain
domain_held domain problem = got_beside_insert (insert empty (codes "d") domain) (codes "d") (codes "p") problem (apart (codes "d") (codes "p") refl) ∙ got_after_insert empty (codes "d") domain

pub problem_held : (domain problem : List ℕ) → get (example_holding domain problem) (codes "p") ≡ Some problem
problem_held domain problem = got_after_insert (insert empty (codes "d") domain) (codes "p") problem

pub ends : (ws : List (Vec ℕ Global)) (bound : ℕ) → IsCall verbs.Width ws (measuring bound) → (domain problem : List ℕ) (d : Domain Word) (p : Problem Word) → HaveTrees domain problem d p → IsPrepared 20000 d p
    → (report : WidthReport) → IsReport usual bound (ground_of d p) (initial_of d p) report → (tells_width (ground_of d p) bound report).puts ≡ []
    → Ends ws (before domain problem) (after domain problem (tells_width (ground_of d p) bound report).text) (tells_width (ground_of d p) bound report).status
ends ws bound is domain problem d p have ready report reports no_file =
    let o = tells_width (ground_of d p) bound report in
    came o (due_by verbs.Width (measuring bound) (record { domain = domain; problem = problem; merges = []; plan = []; written = [] }) o is (record { domain = held_alone _ _ _ (domain_held domain problem); problem = held_alone _ _ _ (problem_held domain problem); merges = refl; plan = refl; written = refl }) (later d p have ready (with_report report reports refl)))
    (whole refl (record { gets = λ q. refl; puts = λ q. refl; writes = refl }) (rw no_file refl) refl)

-- ---- nothing is wanted: there is no target

abbrev to_nothing : List ℕ
to_nothing = codes "(define (problem e) (:domain d) (:init (not (p))) (:goal (and)))\n"

abbrev to_nothing_tree : Problem Word
to_nothing_tree = record { objects = []; init = Item.fact false (example_atom_at (codes "p") 45) ∷ []; goal = Cond.all (conds_of []) }

to_nothing_reads : HasTree grammar.problem to_nothing to_nothing_tree
unfolding cut_from class_of symbol_of some_at next_at
to_nothing_reads = file_reads_by_computing grammar.problem to_nothing (tokens_of_text to_nothing) to_nothing_tree (omega arith) refl refl refl

nothing_trees : HaveTrees chain to_nothing chain_tree to_nothing_tree
nothing_trees = record { domain_reads = chain_reads; problem_reads = to_nothing_reads; no_fault = record { domain = refl; problem = refl } }

nothing_start : is_model (initial_of chain_tree to_nothing_tree) no_atom ≡ true
unfolding no_atom
nothing_start = refl

nothing_prepared : IsPrepared 20000 chain_tree to_nothing_tree
nothing_prepared = record {
  started = record {
    small = within (numbered_problem chain_tree to_nothing_tree) usual 3 2 (omega arith) (omega arith) (omega arith) (omega arith) refl refl refl refl;
    counted = example_few_primes (initial_of chain_tree to_nothing_tree) (negative 0) refl (omega arith);
    initial = example_has_state chain_tree to_nothing_tree nothing_trees.no_fault no_atom nothing_start;
  };
  clash_free = never_clashing chain_tree to_nothing_tree refl;
}

no_target : (l : Lit) → IsTarget (ground_of chain_tree to_nothing_tree) l → ⊥
no_target l (of_precondition a m k) = by a m k
  where
    by : (a : Action) → Member (turn ∷ []) a → Member a.pre l → ⊥
    by a (inl e) k = absurd (subst (λ (x : Action). Member x.pre l) (sym e) k)
    by a (inr none) k = absurd none
no_target l (of_goal k) = absurd k

no_targets : AreTargets (ground_of chain_tree to_nothing_tree) []
no_targets = record { exact = λ l. (λ m. absurd m, λ t. absurd (no_target l t)); ascending = tt }

no_rows : IsReport usual 3 (ground_of chain_tree to_nothing_tree) (initial_of chain_tree to_nothing_tree) (Within [])
no_rows = IsReport.within [] [] no_targets AreRows.done (omega arith)

ends_done : Ends (front []) (before chain to_nothing) (after chain to_nothing (width_text (ground_of chain_tree to_nothing_tree).atoms [])) status.Done
ends_done = ends (front []) 3 is_plain chain to_nothing chain_tree to_nothing_tree nothing_trees nothing_prepared (Within []) no_rows refl

is_measured : IsWidthTold (example_holding chain to_nothing) (measuring 3) (before chain to_nothing) (after chain to_nothing (width_text (ground_of chain_tree to_nothing_tree).atoms []))
is_measured = (widths_are_true (front []) _ _ status.Done ends_done (example_holding chain to_nothing) (measuring 3) refl is_plain).done refl

-- ---- q comes, whether p holds or not

abbrev ways : List ℕ
ways = codes "(define (domain d) (:predicates (p) (q)) (:action a :effect (and (when (p) (q)) (when (not (p)) (q)))))\n"

abbrev ways_schema : Schema Word
ways_schema = record {
  name = example_word_at (codes "a") 50;
  params = [];
  pre = Cond.all (conds_of []);
  effect = Eff.both (effs_of (Eff.when (Cond.atom true (example_atom_at (codes "p") 72)) (Eff.makes true (example_atom_at (codes "q") 76)) ∷ Eff.when (Cond.atom false (example_atom_at (codes "p") 92)) (Eff.makes true (example_atom_at (codes "q") 97)) ∷ []));
}

abbrev ways_tree : Domain Word
ways_tree = record { kinds = []; constants = []; predicates = example_pred_at (codes "p") 33 ∷ example_pred_at (codes "q") 37 ∷ []; schemas = ways_schema ∷ [] }

ways_reads : HasTree grammar.domain ways ways_tree
unfolding cut_from class_of symbol_of some_at next_at
ways_reads = file_reads_by_computing grammar.domain ways (tokens_of_text ways) ways_tree (omega arith) refl refl refl

abbrev unsure : List ℕ
unsure = codes "(define (problem e) (:domain d) (:init (unknown (p)) (not (q))) (:goal (q)))\n"

abbrev unsure_tree : Problem Word
unsure_tree = record { objects = []; init = Item.unknown (example_word_at (codes "unknown") 40) (example_atom_at (codes "p") 49) ∷ Item.fact false (example_atom_at (codes "q") 59) ∷ []; goal = Cond.atom true (example_atom_at (codes "q") 72) }

unsure_reads : HasTree grammar.problem unsure unsure_tree
unfolding cut_from class_of symbol_of some_at next_at
unsure_reads = file_reads_by_computing grammar.problem unsure (tokens_of_text unsure) unsure_tree (omega arith) refl refl refl

ways_trees : HaveTrees ways unsure ways_tree unsure_tree
ways_trees = record { domain_reads = ways_reads; problem_reads = unsure_reads; no_fault = record { domain = refl; problem = refl } }

abbrev g : Ground
g = ground_of ways_tree unsure_tree

abbrev i : Initial
i = initial_of ways_tree unsure_tree

abbrev way : Action
way = record { name = record { head = codes "a"; objects = [] }; pre = []; effects = record { cond = positive 0 ∷ []; result = positive 1 } ∷ record { cond = negative 0 ∷ []; result = positive 1 } ∷ [] }

-- p alone
unfoldable p_alone : State
p_alone n = nat_eq n 0

none_start : is_model i no_atom ≡ true
unfolding no_atom
none_start = refl

p_start : is_model i p_alone ≡ true
unfolding p_alone
p_start = refl

ways_prepared : IsPrepared 20000 ways_tree unsure_tree
ways_prepared = record {
  started = record {
    small = within (numbered_problem ways_tree unsure_tree) usual 4 2 (omega arith) (omega arith) (omega arith) (omega arith) refl refl refl refl;
    counted = example_few_primes i (negative 1) refl (omega arith);
    initial = example_has_state ways_tree unsure_tree ways_trees.no_fault no_atom none_start;
  };
  clash_free = never_clashing ways_tree unsure_tree refl;
}

-- ---- it is over the bound of 0

-- q is the one target
only_target : (l : Lit) → IsTarget g l → l ≡ positive 1
only_target l (of_precondition a m k) = by a m k
  where
    by : (a : Action) → Member (way ∷ []) a → Member a.pre l → l ≡ positive 1
    by a (inl e) k = absurd (subst (λ (x : Action). Member x.pre l) (sym e) k)
    by a (inr none) k = absurd none
only_target l (of_goal (inl e)) = sym e
only_target l (of_goal (inr none)) = absurd none

-- that p is true or false is relevant to it
relevant : (l : Lit) → Member (either_value 0) l → IsRelevant g.actions l (positive 1)
relevant l (inl e) = subst (λ z. IsRelevant g.actions z (positive 1)) e (IsRelevant.condition (positive 0) (positive 1) (record { action = way; effect = record { cond = positive 0 ∷ []; result = positive 1 }; action_in = inl refl; effect_in = inl refl; condition = inl refl; result = refl }))
relevant l (inr (inl e)) = subst (λ z. IsRelevant g.actions z (positive 1)) e (IsRelevant.condition (negative 0) (positive 1) (record { action = way; effect = record { cond = negative 0 ∷ []; result = positive 1 }; action_in = inl refl; effect_in = inr (inl refl); condition = inl refl; result = refl }))
relevant l (inr (inr none)) = absurd none

-- and not known
no_first : no_atom 0 ≡ false
unfolding no_atom
no_first = refl

p_first : p_alone 0 ≡ true
unfolding p_alone
p_first = refl

not_met : Meets i [] (either_value 0) → ⊥
not_met x = by x.lit x.of_clause (λ s model. x.entailed s model refl)
  where
    by : (l : Lit) → Member (either_value 0) l → ((s : State) → is_model i s ≡ true → holds s l ≡ true) → ⊥
    by l (inl e) known = false≢true (sym no_first ∙ subst (λ z. holds no_atom z ≡ true) (sym e) (known no_atom none_start))
    by l (inr (inl e)) known = let denied = subst (λ z. holds p_alone z ≡ true) (sym e) (known p_alone p_start) in false≢true (sym (ap not p_first) ∙ denied)
    by l (inr (inr none)) known = absurd none

-- the set of no clauses has the empty tag
pub empty_tag : (test : List Lit → Bool) → test [] ≡ true → each_once same_set (filter test (map set_of (choices []))) ≡ [] ∷ []
empty_tag test on = rw (on) refl

over_it : IsOver usual.sets 0 g i (positive 1)
over_it = by (clauses_decided g i (positive 1) (prepared_is_proper 20000 ways_tree unsure_tree ways_trees.no_fault ways_prepared) (omega arith))
  where
    by : ((cs : List (List Lit)) × AreClausesFor g.actions (length g.atoms) i (positive 1) cs) → IsOver usual.sets 0 g i (positive 1)
    by (cs, are) = record { relevant = cs; are_relevant = are; no_cover = record { few = few; none_covers = none } }
      where
        few : (v : ℕ) → v < 1 → choose (length cs) v ≤ usual.sets
        few zero lt = omega arith
        few (suc v) lt = absurd (omega (arith, lt))

        is_there : Member cs (either_value 0)
        is_there = (are.exact (either_value 0)).1 (record { candidate = IsCandidate.unsettled 0 (omega arith) (λ one. false≢true (sym no_first ∙ (one no_atom p_alone none_start p_start ∙ p_first))); relevant = relevant })

        uncovered : (tags : List (List Lit)) → IsCover i cs [] tags → ⊥
        uncovered tags c = not_met (c.cover [] (either_value 0) (subst (λ z. Member z []) (sym (c.are.are ∙ empty_tag c.are.test ((c.are.tells []).1 (record { state = no_atom; model = none_start; all_true = refl })))) (inl refl)) is_there)

        none : (v : ℕ) → v < 1 → NoneCovers i cs (subsets v cs)
        none zero lt set tags (inl e) c = uncovered tags (subst (λ z. IsCover i cs z tags) (sym e) c)
        none zero lt set tags (inr never) c = absurd never
        none (suc v) lt set tags m c = absurd (omega (arith, lt))

is_over : IsReport usual 0 g i (Over (positive 1))
is_over = by (targets_decided g)
  where
    by : ((ts : List Lit) × AreTargets g ts) → IsReport usual 0 g i (Over (positive 1))
    by ([], are) = absurd ((are.exact (positive 1)).1 (of_goal (inl refl)))
    by (t ∷ ts, are) =
        let first = only_target t ((are.exact t).0 (inl refl)) in
        IsReport.over (t ∷ ts) (positive 1) are (record { earlier = []; later = ts; among = ap (λ (l : Lit). l ∷ ts) first; rows = []; are_rows = AreRows.done }) over_it

ends_over : Ends with_bound (before ways unsure) (after ways unsure (over_text g.atoms 0 (positive 1))) status.Negative
ends_over = ends with_bound 0 example_is_width ways unsure ways_tree unsure_tree ways_trees ways_prepared (Over (positive 1)) is_over refl

is_too_wide : IsTooWide (example_holding ways unsure) (measuring 0) (before ways unsure) (after ways unsure (over_text g.atoms 0 (positive 1)))
is_too_wide = (widths_are_true with_bound _ _ status.Negative ends_over (example_holding ways unsure) (measuring 0) refl example_is_width).negative refl
