-- Words and what is held, with the one outcome that is due: a translation, the usage, and none where a file isn't held.
use Rattle.std.proofs.Common.{[], ◌≡◌, ◌≢◌, ◌<◌, ◌≤◌, ◌^◌, ℕ, zero, suc, true, false, not, List, ◌∷◌, length, take, nat_eq, Some, None, Vec, codes, inl, inr, refl, sym, ap, subst, ◌∙◌, arith}
use Rattle.std.specs.FinMap.{empty, get, insert, get-empty}
use Rattle.std.specs.Fmt.{digits}
use Rattle.std.specs.List.{list_all}
use Rattle.std.specs.Ordering.{nat_cmp}
use Rattle.std.specs.Cmp.Lexicographic.{slice_cmp}
use Rattle.std.specs.declared.alloc.Global.{Global}
use denote.RawPtr.{null_ptr}
use lib.Utf8.{encode}
use Rattle.std.proofs.lemmas.Bool.{and_parts, false≢true, not-true}
use Rattle.kp_base.proofs.Lists.{same-refl}
use Rattle.kp_base.specs.declared.lit.AtomId.{AtomId}
use Rattle.kp_base.specs.declared.limits.Mode.TheVariants as modes
use Rattle.kp_base.specs.declared.ground.Action.{Action}
use Rattle.kp_base.specs.declared.ground.Effect.{Effect}
use Rattle.kp_base.specs.declared.ground.TagTable.{TagTable}
use Rattle.kp_base.specs.declared.ground.Initial.{Initial}
use Rattle.kp_base.specs.declared.lit.Lit.{Lit}
use Rattle.kp_base.specs.Planning.{Member, positive, negative, IsAscending, State as NumberedState, is_model, IsClashFree, IsNeverOver}
use Rattle.kp_primes.specs.Included.{all_included}
use Rattle.kp_primes.proofs.Public.{counted_is_never_over}
use Rattle.kp_law_tagged_machine.proofs.Public.{swap_is_clash_free}
use Rattle.kp_law_runs.proofs.ClashFree.{clash_free_with_table, two_atoms}
use Rattle.kp_lex.specs.Bytes.{class_of}
use Rattle.kp_lex.specs.Scanning.{cut_from}
use Rattle.kp_tree_grammar.specs.Symbols.{symbol_of}
use Rattle.kp_tree_grammar.specs.Parsing.{some_at, next_at}
use Rattle.kp_tree_grammar.specs.Trees.{Domain, Problem}
use Rattle.kp_tree_grammar.specs.declared.tree.Word.{Word}
use Rattle.kp_tree_grammar.specs.Grammar as grammar
use Rattle.kp_tree_grammar.proofs.Public.{exchange_text, exchange_tree, from_p_to_q_text, from_p_to_q_tree, tokens_of_text}
use Rattle.kp_names_semantics.specs.Faults as faults
use Rattle.kp_names_semantics.specs.Problems.{same, Lifted, numbered_problem, HasInitialState}
use Rattle.kp_tree.specs.Files.{HasTree}
use Rattle.kp_ground_semantics.specs.Ground.{kept_instances, ground_atoms}
use Rattle.kp_ground_semantics.specs.Ground as by_number
use Rattle.kp_ground_semantics.specs.Weights.{binding_count, total_weight}
use Rattle.kp_ground.specs.Grounded.{IsGrounded}
use Rattle.kp_law_translation.specs.OfTrees.{ground_of, initial_of}
use Rattle.kp_law_translation.specs.Tables.{empty_tag}
use Rattle.kp_law_translation.specs.Written.{translation_of}
use Rattle.kp_law_translation.proofs.Public.{initial_states_are_models}
use Rattle.kp_outside.specs.Outside.{FileMap}
use Rattle.kp_run_outcome.specs.declared.outcome.Outcome.{Outcome}
use Rattle.kp_run_outcome.specs.declared.status.Status.TheVariants as status
use Rattle.kp_run_outcome.specs.Ends.{Outside, whole}
use Rattle.kp_words_options.specs.Words.{nothing, a_word, apart as apart_words, word as said_word, option as said_option}
use Rattle.kp_words.specs.Asked.{Asked}
use Rattle.kp_words.specs.declared.verb.Verb.TheVariants as verbs
use Rattle.kp_words.specs.Command.{IsCall}
use Rattle.kp_words.proofs.Public.{no_words_are_no_command, example_two_apart, call_by_words, files_by_computing, usual_numbers, nothing_generated}
use Rattle.kp_words.specs.Owned.{bare}
use Rattle.kp_run.proofs.Public.{content_held, held_alone, due_by, due_makes, got_after_insert as at_last, got_beside_insert as under_another, done_is_sound as sound_end}
use Rattle.kp_run_prepare.specs.Texts.{HaveTrees}
use Rattle.kp_run_prepare.specs.Prepared.{usual, IsStarted, later}
use Rattle.kp_run_inputs.specs.SourceTables.{by_mode, with_table}
use Rattle.kp_run_inputs.specs.Tasks.{with_task}
use Rattle.kp_run.specs.Translate.{translates, TranslatesTexts}
use Rattle.kp_run.specs.Outcomes.{shows_usage, IsDue, usage}
use Rattle.kp_run.specs.Ends.{Ends, came}
use Rattle.kp_run.specs.Soundness.{IsSound}
use Rattle.kp_run_inputs.proofs.Public.{empty_tags_fit, HaveNoConditions, empty_tag_made, nothing_uncovered}
use Rattle.kp_law_runs.proofs.Computed.{reads_file}

-- ---- words

-- a word as the program gets it, of which the bytes alone matter
abbrev word : (bytes : List ℕ) → length bytes < 2 ^ 63 → Vec ℕ Global
word bytes small = record { ptr = null_ptr; len = length bytes; cap = length bytes; alloc = record { memory = record { seal = tt } }; items = bytes; ok = (refl, omega arith); small = small }

-- these names behind `translate`
abbrev translate : Vec ℕ Global → Vec ℕ Global → Vec ℕ Global → Vec ℕ Global → List (Vec ℕ Global)
translate d p od op = word (codes "translate") (omega arith) ∷ d ∷ p ∷ od ∷ op ∷ word (codes "--mode") (omega arith) ∷ word (codes "k0") (omega arith) ∷ []

abbrev pub words : List (Vec ℕ Global)
words = translate (word (codes "d") (omega arith)) (word (codes "p") (omega arith)) (word (codes "od") (omega arith)) (word (codes "op") (omega arith))

abbrev pub command : Asked
command = record (bare verbs.Translate) { domain = codes "d"; problem = codes "p"; domain_out = codes "od"; problem_out = codes "op"; mode = modes.K0; implicates = 20000 }

-- two names that are seen to differ
apart : (x y : List ℕ) → same x y ≡ false → x ≢ y
apart x y h e = false≢true (sym h ∙ (sym (ap (same x) e) ∙ same-refl x))

is_command : IsCall verbs.Translate words command
unfolding encode
is_command =
    call_by_words verbs.Translate _ _ _ (said_word (codes "d") ∷ said_word (codes "p") ∷ said_word (codes "od") ∷ said_word (codes "op") ∷ said_option (codes "mode") (codes "k0") ∷ []) ((codes "translate", (refl, refl)), ((codes "d", (refl, refl)), ((codes "p", (refl, refl)), ((codes "od", (refl, refl)), ((codes "op", (refl, refl)), ((codes "--mode", (refl, refl)), ((codes "k0", (refl, refl)), tt))))))) refl (a_word _ _ _ refl (a_word _ _ _ refl (a_word _ _ _ refl (a_word _ _ _ refl (apart_words (codes "mode") (codes "k0") _ _ refl refl (nothing)))))) refl refl refl refl
    (record { files = files_by_computing refl (example_two_apart (codes "od") (codes "op") refl); source = record { mode = refl; merges = refl; one_source = tt }; numbers = usual_numbers refl; generated = nothing_generated refl })

-- with a limit of one prime implicate
abbrev pub with_limit : List (Vec ℕ Global)
with_limit =
    word (codes "translate") (omega arith) ∷ word (codes "d") (omega arith) ∷ word (codes "p") (omega arith) ∷ word (codes "od") (omega arith) ∷ word (codes "op") (omega arith)
    ∷ word (codes "--mode") (omega arith) ∷ word (codes "k0") (omega arith) ∷ word (codes "--implicates") (omega arith) ∷ word (codes "1") (omega arith) ∷ []

abbrev pub limited : Asked
limited = record (bare verbs.Translate) { domain = codes "d"; problem = codes "p"; domain_out = codes "od"; problem_out = codes "op"; mode = modes.K0; implicates = 1 }

pub is_limited : IsCall verbs.Translate with_limit limited
unfolding encode digits
is_limited =
    call_by_words verbs.Translate _ _ _ (said_word (codes "d") ∷ said_word (codes "p") ∷ said_word (codes "od") ∷ said_word (codes "op") ∷ said_option (codes "mode") (codes "k0") ∷ said_option (codes "implicates") (codes "1") ∷ []) ((codes "translate", (refl, refl)), ((codes "d", (refl, refl)), ((codes "p", (refl, refl)), ((codes "od", (refl, refl)), ((codes "op", (refl, refl)), ((codes "--mode", (refl, refl)), ((codes "k0", (refl, refl)), ((codes "--implicates", (refl, refl)), ((codes "1", (refl, refl)), tt))))))))) refl (a_word _ _ _ refl (a_word _ _ _ refl (a_word _ _ _ refl (a_word _ _ _ refl (apart_words (codes "mode") (codes "k0") _ _ refl refl (apart_words (codes "implicates") (codes "1") _ _ refl refl (nothing))))))) refl refl refl refl
    (record { files = files_by_computing refl (example_two_apart (codes "od") (codes "op") refl); source = record { mode = refl; merges = refl; one_source = tt }; numbers = record { implicates = (record { at_least = omega arith; at_most = omega arith }, refl); budget = refl; bound = refl }; generated = nothing_generated refl })

-- ---- what is held

-- these two files
abbrev pub holding : List ℕ → List ℕ → FileMap
holding domain problem = insert (insert empty (codes "d") domain) (codes "p") problem

domain_held : (domain problem : List ℕ) → get (holding domain problem) (codes "d") ≡ Some domain
domain_held domain problem = under_another (insert empty (codes "d") domain) (codes "d") (codes "p") problem (apart (codes "d") (codes "p") refl) ∙ at_last empty (codes "d") domain

problem_held : (domain problem : List ℕ) → get (holding domain problem) (codes "p") ≡ Some problem
problem_held domain problem = at_last (insert empty (codes "d") domain) (codes "p") problem

-- what the two texts are translated to is due
pub due_with : (ws : List (Vec ℕ Global)) (c : Asked) → IsCall verbs.Translate ws c → c.domain ≡ codes "d" → c.problem ≡ codes "p" → c.merges ≡ None → (domain problem : List ℕ) (o : Outcome) → TranslatesTexts c domain problem [] o → IsDue ws (Some (holding domain problem)) o
due_with ws c is first second alone domain problem o h =
    due_by verbs.Translate c (record { domain = domain; problem = problem; merges = []; plan = []; written = [] }) o is
    (record { domain = held_alone (holding domain problem) c.domain domain (ap (get (holding domain problem)) first ∙ domain_held domain problem); problem = held_alone (holding domain problem) c.problem problem (ap (get (holding domain problem)) second ∙ problem_held domain problem); merges = rw alone refl; plan = refl; written = refl }) h

pub on_files : (domain problem : List ℕ) (o : Outcome) → TranslatesTexts command domain problem [] o → IsDue words (Some (holding domain problem)) o
on_files = due_with words command is_command refl refl refl

-- ---- what computing has to show of a ground problem

-- one instance of weight 3, and two atoms
pub is_small : (l : Lifted) → binding_count l ≡ 1 → length (kept_instances l) ≡ 1 → total_weight l ≡ 3 → length (ground_atoms l) ≡ 2 → IsGrounded l usual (by_number.ground_of l)
is_small l b k w a = record { counts = record { bindings = omega (arith, b); actions = omega (arith, k); weight = omega (arith, w) }; atoms = omega (arith, a); ground = refl }

-- ---- a translation

-- the trees of the two files
pub domain_reads : HasTree grammar.domain exchange_text exchange_tree
unfolding cut_from class_of symbol_of some_at next_at
domain_reads = reads_file grammar.domain exchange_text (tokens_of_text exchange_text) exchange_tree (omega arith) refl refl refl

pub problem_reads : HasTree grammar.problem from_p_to_q_text from_p_to_q_tree
unfolding cut_from class_of symbol_of some_at next_at
problem_reads = reads_file grammar.problem from_p_to_q_text (tokens_of_text from_p_to_q_text) from_p_to_q_tree (omega arith) refl refl refl

trees : HaveTrees exchange_text from_p_to_q_text exchange_tree from_p_to_q_tree
trees = record { domain_reads = domain_reads; problem_reads = problem_reads; no_fault = record { domain = refl; problem = refl } }

-- p is stated, and q false
abbrev from_p : Initial
from_p = initial_of exchange_tree from_p_to_q_tree

unfoldable pub only_p : NumberedState
only_p n = nat_eq n 0

only_p_is : is_model from_p only_p ≡ true
unfolding only_p
only_p_is = refl

-- some state is initial where the formula has a model
pub has_state : (d : Domain Word) (p : Problem Word) → faults.HasNoFault d p → (s : NumberedState) → is_model (initial_of d p) s ≡ true → HasInitialState p
has_state d p no_fault s is = (initial_states_are_models d p no_fault).1 (record { state = s; model = is; all_true = refl })

-- a clause of one literal is in order, and has few prime implicates
one_set : (cs : List (List Lit)) (x : Lit) → cs ≡ (x ∷ []) ∷ [] → (c : List Lit) → Member cs c → IsAscending c
one_set _ x e c m = go c (subst (λ cs. Member cs c) e m)
  where
    go : (c : List Lit) → Member ((x ∷ []) ∷ []) c → IsAscending c
    go c m = elim m [ inl same ↦ subst IsAscending same tt | inr none ↦ absurd none ]

pub few_primes : (i : Initial) (x : Lit) → i.clauses ≡ (x ∷ []) ∷ [] → length (all_included [] ((x ∷ []) ∷ [])) ≤ 1 → IsNeverOver i 20000
few_primes i x e short = counted_is_never_over i 20000 (all_included [] (take (length i.clauses) i.clauses)) (record {
  so_far = refl;
  sets = λ c m. one_set (take (length i.clauses) i.clauses) x (ap (λ (cs : List (List Lit)). take (length cs) cs) e) c m;
  within_limit = λ j le. subst (λ (cs : List (List Lit)). length (all_included [] (take j cs)) ≤ 20000) (sym e) (at j);
})
  where
    at : (j : ℕ) → length (all_included [] (take j ((x ∷ []) ∷ []))) ≤ 20000
    at zero = omega arith
    at (suc zero) = omega (arith, short)
    at (suc (suc j)) = omega (arith, short)

started : IsStarted 20000 exchange_tree from_p_to_q_tree
started = record {
  small = is_small (numbered_problem exchange_tree from_p_to_q_tree) refl refl refl refl;
  counted = few_primes from_p (positive 0) refl (omega arith);
  initial = has_state exchange_tree from_p_to_q_tree trees.no_fault only_p only_p_is;
}

-- where q is false at the start, what is added is q, and what is deleted p
pub closed_q : (i : Initial) → i.closed ≡ record { 0 = 1 } ∷ [] → (s : NumberedState) → is_model i s ≡ true → s 1 ≡ false
closed_q i closed s model = not-true (s 1) (and_parts (not (s 1)) true (subst (λ (ps : List AtomId). list_all (λ p. not (s p.0)) ps ≡ true) closed (and_parts _ _ model).1)).0

no_clash : IsClashFree (ground_of exchange_tree from_p_to_q_tree) from_p
no_clash = clash_free_with_table _ two_atoms from_p (swap_is_clash_free from_p (closed_q from_p refl))

-- the one action
abbrev pub exchange_action : Action
exchange_action = record { name = record { head = codes "a"; objects = [] }; pre = positive 0 ∷ []; effects = record { cond = []; result = positive 1 } ∷ record { cond = []; result = negative 0 } ∷ [] }

-- no effect has a condition
pub unconditional : (p : Problem Word) → (ground_of exchange_tree p).actions ≡ exchange_action ∷ [] → HaveNoConditions (ground_of exchange_tree p).actions
unconditional p acts a e in-acts in-effects = by (subst (λ (xs : List Action). Member xs a) acts in-acts) in-effects
  where
    by : Member (exchange_action ∷ []) a → Member a.effects e → e.cond ≡ []
    by (inr none) m = absurd none
    by (inl same) m = of_these (subst (λ (x : Action). Member x.effects e) (sym same) m)
      where
        of_these : Member exchange_action.effects e → e.cond ≡ []
        of_these (inl x) = ap (λ (y : Effect). y.cond) (sym x)
        of_these (inr (inl x)) = ap (λ (y : Effect). y.cond) (sym x)
        of_these (inr (inr none)) = absurd none

abbrev the_table : TagTable
the_table = empty_tag exchange_tree from_p_to_q_tree

abbrev the_outcome : Outcome
the_outcome = translates command (ground_of exchange_tree from_p_to_q_tree) the_table []

is_done : TranslatesTexts command exchange_text from_p_to_q_text [] the_outcome
is_done = later exchange_tree from_p_to_q_tree trees (record { started = started; clash_free = no_clash })
    (with_table the_table (by_mode modes.K0 the_table (empty_tag_made exchange_tree from_p_to_q_tree)) (with_task (empty_tags_fit exchange_tree from_p_to_q_tree started.small) (record { uncovered = []; are = nothing_uncovered (ground_of exchange_tree from_p_to_q_tree) from_p (unconditional from_p_to_q_tree refl) the_table; outcome = refl })))

abbrev held : FileMap
held = holding exchange_text from_p_to_q_text

due : IsDue words (Some held) the_outcome
due = on_files exchange_text from_p_to_q_text _ is_done

-- what is held after it
abbrev after : FileMap
after = insert (insert held (codes "od") (translation_of exchange_tree from_p_to_q_tree (empty_tag exchange_tree from_p_to_q_tree)).domain) (codes "op") (translation_of exchange_tree from_p_to_q_tree (empty_tag exchange_tree from_p_to_q_tree)).problem

-- the outside before a run and after it
abbrev before_it : Outside
before_it = record { held = Some held; told = Some []; get_faults = λ q. 0; put_faults = λ q. 0; write_faults = 0 }

abbrev after_it : Outside
after_it = record { held = Some after; told = Some the_outcome.text; get_faults = λ q. 0; put_faults = λ q. 0; write_faults = 0 }

-- a run that put the two files and printed the report ended so
ends : Ends words before_it after_it status.Done
ends = came the_outcome due (whole refl (record { gets = λ q. refl; puts = λ q. refl; writes = refl }) refl refl)

-- and is sound
sound : IsSound held after command
sound = sound_end words before_it after_it status.Done ends held after command refl refl is_command refl

-- ---- the usage

usage_is_due : IsDue [] (Some held) shows_usage
usage_is_due = usage no_words_are_no_command

-- ---- a file that isn't held: nothing is due

abbrev no_files : FileMap
no_files = empty

not_held : (name content : List ℕ) → get no_files name ≡ Some content → ⊥
not_held name content held = absurd (let e = get-empty {X = List ℕ} (slice_cmp nat_cmp) name in cc (e, held))

nothing_is_due : (o : Outcome) → IsDue words (Some no_files) o → ⊥
nothing_is_due o due =
    let it = due_makes words (Some no_files) verbs.Translate command o is_command due in
    not_held command.domain it.contents.domain (content_held no_files command.domain it.contents.domain it.are.domain)
