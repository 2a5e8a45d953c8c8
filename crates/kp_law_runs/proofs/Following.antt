-- What follows from how a run ends.
use Rattle.std.proofs.Common.{◌≡◌, ◌⊎◌, ◌++◌, ◌||◌, ℕ, Bool, true, false, List, [], ◌∷◌, Option, Some, None, Vec, map, filter_map, bytes_eq, codes, if◌then◌else◌, inl, inr, refl, sym, ap, ◌∙◌, subst}
use Rattle.std.specs.FinMap.{get}
use Rattle.std.specs.List.{list_all}
use Rattle.std.proofs.lemmas.Bool.{false≢true}
use Rattle.std.proofs.lemmas.Slice.Eq.{bytes_eq-Decides}
use Rattle.std.specs.declared.alloc.Global.{Global}
use Rattle.kp_base.specs.Lists.{Member}
use Rattle.kp_outside.specs.Outside.{FileMap, with_bytes}
use Rattle.kp_run_outcome.specs.declared.outcome.FilePut.{FilePut}
use Rattle.kp_run_outcome.specs.declared.outcome.Outcome.{Outcome}
use Rattle.kp_run_outcome.specs.declared.status.Status.{Status}
use Rattle.kp_run_outcome.specs.declared.status.Status.TheVariants as status
use Rattle.kp_run_outcome.specs.Ends.{Outside, IsAnswer, AreHeld, with_files, StopsAt, CarriesOut, whole, put_failed, put_no_memory, print_failed, print_no_memory}
use Rattle.kp_words.specs.Asked.{Asked}
use Rattle.kp_words_options.specs.Words.{has_text}
use Rattle.kp_words.specs.Forms.{form}
use Rattle.kp_words.specs.Command.{IsCommand, file_under, file_among, if_named, inputs_of, outputs_of}
use Rattle.kp_run_messages.specs.Refusals.{nothing}
use Rattle.kp_run.specs.Contents.{Contents, IsContent, AreContentsUnder, AreContents}
use Rattle.kp_run.specs.Outcomes.{IsDue, usage, of_command}
use Rattle.kp_run.specs.Ends.{Ends, came, read_failed, no_memory}
use Rattle.kp_law_runs.specs.Follows.{AnswersAreWhole, TheDueIsCarriedOut, IsAnsweredBy, TheDueIsTheAnswer, EndsWith, OnlyDonePuts, DonePutsTheOutputs, OthersPutNothing, NoCommandPutsNothing, none_put, some_put, all_put, PutsAreOfTheDue, none_told, some_told, TextsAreOfTheDue, ReadFaultsTellNothing, ReadFaultsAreTrue, WriteFaultsAreTrue, FailedGetsAreTold, FailedWritesAreTold, MissingInputsAreFaults, InputsAreReadInOrder}
use Rattle.kp_words.proofs.Public.{words_are_one_command, input_names, reads_are_inputs}
use Rattle.kp_run.proofs.Public.{outcomes_are_answers}
use Rattle.kp_law_runs.proofs.OneOutcome.{one_outcome}
use Rattle.kp_law_runs.proofs.ByVerb.{comes_under}

-- ---- an answer and its outcome

pub answers_are_whole : AnswersAreWhole
answers_are_whole words old new s (came o due (whole is none held told)) answer = record { outcome = o; due = due; answered = record { status_is = is; puts_are = held; text_is = told } }
answers_are_whole words old new s (came o due (put_failed f is a b g h i)) answer = absurd (subst IsAnswer is answer)
answers_are_whole words old new s (came o due (put_no_memory f is a b g)) answer = absurd (subst IsAnswer is answer)
answers_are_whole words old new s (came o due (print_failed is a b g h i has_text)) answer = absurd (subst IsAnswer is answer)
answers_are_whole words old new s (came o due (print_no_memory is a b g has_text)) answer = absurd (subst IsAnswer is answer)
answers_are_whole words old new s (read_failed (c, is_command, a) is b g h) answer = absurd (subst IsAnswer is answer)
answers_are_whole words old new s (no_memory is a b) answer = absurd (subst IsAnswer is answer)

pub the_due_is_carried_out : TheDueIsCarriedOut
the_due_is_carried_out words old new s (came o due carried) m u held also =
    inl (subst (λ x. CarriesOut x old new s) (one_outcome words m o u (subst (λ h. IsDue words h o) held due) (subst (λ h. IsDue words h u) held also)) carried)
the_due_is_carried_out words old new s (read_failed (c, is_command, a) is b g same) m u held also = inr (record { untouched = same; stopped = inl is })
the_due_is_carried_out words old new s (no_memory is a same) m u held also = inr (record { untouched = same; stopped = inr is })

pub the_due_is_the_answer : TheDueIsTheAnswer
the_due_is_the_answer words old new s ends m o held due none = by ends
  where
    same : (u : Outcome) → IsDue words old.held u → u ≡ o
    same u also = one_outcome words m u o (subst (λ h. IsDue words h u) held also) (subst (λ h. IsDue words h o) held due)

    by : Ends words old new s → IsAnsweredBy o old new s ⊎ (s ≡ status.Memory)
    by (came u also (whole is calm puts told)) = let e = same u also in inl (record {
      status_is = is ∙ ap (λ (z : Outcome). z.status) e;
      puts_are = puts ∙ ap (λ (z : Outcome). with_files old.held z.puts) e;
      text_is = told ∙ ap (λ (z : Outcome). with_bytes old.told z.text) e;
    })
    by (came u also (put_failed f is at rises gets writes told)) = absurd (none.puts f.name rises)
    by (came u also (put_no_memory f is at calm told)) = inr is
    by (came u also (print_failed is puts front rises gets more has_text)) = absurd (none.writes rises)
    by (came u also (print_no_memory is puts front calm has_text)) = inr is
    by (read_failed (c, is_command, h) is puts writes untouched) = absurd (none.gets h.name h.rises)
    by (no_memory is calm untouched) = inr is

-- a run ends with the outcome that is due
pub ends_with : (words : List (Vec ℕ Global)) (old new : Outside) (s : Status) → Ends words old new s → (m : FileMap) (o : Outcome) → old.held ≡ Some m → IsDue words (Some m) o → EndsWith o old new s
ends_with words old new s ends m o held due =
    let here = subst (λ h. IsDue words h o) (sym held) due in
    record { carried_out = the_due_is_carried_out words old new s ends m o held here; answered = the_due_is_the_answer words old new s ends m o held here }

pub done_puts_the_outputs : DonePutsTheOutputs
done_puts_the_outputs c t o comes = (comes_under c.verb c t o comes).done

pub only_done_puts : OnlyDonePuts
only_done_puts words held _ (usage a) other = refl
only_done_puts words held o (of_command c t _ is at comes) other = (comes_under c.verb c t o comes).nothing other

-- ---- what is held

pub others_put_nothing : OthersPutNothing
others_put_nothing words old new s (came o due (whole is none held told)) a b d = held ∙ ap (with_files old.held) (only_done_puts words old.held o due (λ e. a (is ∙ e)))
others_put_nothing words old new s (came o due (put_failed f is h i j k l)) a b d = absurd (b is)
others_put_nothing words old new s (came o due (put_no_memory f is h i j)) a b d = absurd (d is)
others_put_nothing words old new s (came o due (print_failed is h i j k l has_text)) a b d = absurd (b is)
others_put_nothing words old new s (came o due (print_no_memory is h i j has_text)) a b d = absurd (d is)
others_put_nothing words old new s (read_failed (c, is_command, h) is i j same) a b d = same.held
others_put_nothing words old new s (no_memory is h same) a b d = same.held

-- what puts nothing stops at no file
stops_nowhere : (old new : Option FileMap) (file : FilePut) (puts : List FilePut) → puts ≡ [] → StopsAt puts old new file → ⊥
stops_nowhere old new file puts none at = by at.front (sym none ∙ at.in_order)
  where
    by : (front : List FilePut) → [] ≡ front ++ (file ∷ at.rest) → ⊥
    by [] e = absurd cc
    by (f ∷ fs) e = absurd cc

pub no_command_puts_nothing : NoCommandPutsNothing
no_command_puts_nothing words old new s (came o due carried) none = by o due carried
  where
    nothing : (o : Outcome) → IsDue words old.held o → o.puts ≡ []
    nothing _ (usage a) = refl
    nothing o (of_command c texts _ is at comes) = absurd (none c is)

    by : (o : Outcome) → IsDue words old.held o → CarriesOut o old new s → new.held ≡ old.held
    by o due (whole is a held told) = held ∙ ap (with_files old.held) (nothing o due)
    by o due (put_failed f is at i j k l) = absurd (stops_nowhere old.held new.held f o.puts (nothing o due) at)
    by o due (put_no_memory f is at i j) = absurd (stops_nowhere old.held new.held f o.puts (nothing o due) at)
    by o due (print_failed is held i j k l has_text) = held ∙ ap (with_files old.held) (nothing o due)
    by o due (print_no_memory is held i j has_text) = held ∙ ap (with_files old.held) (nothing o due)
no_command_puts_nothing words old new s (read_failed (c, is_command, h) is i j same) none = same.held
no_command_puts_nothing words old new s (no_memory is h same) none = same.held

-- an answer and want of memory are no WriteFault
answer_no_fault : (t s : Status) → IsAnswer t → s ≡ t → s ≡ status.WriteFault → ⊥
answer_no_fault t s answer is e = subst IsAnswer (sym is ∙ e) answer

memory_no_fault : (s : Status) → s ≡ status.Memory → s ≡ status.WriteFault → ⊥
memory_no_fault s is e = absurd cc

pub puts_are_of_the_due : PutsAreOfTheDue
puts_are_of_the_due words old new s (came o due (whole is a held told)) = all_put o due held (λ e. absurd (answer_no_fault o.status s (outcomes_are_answers words old.held o due) is e))
puts_are_of_the_due words old new s (came o due (put_failed f is at rises j k l)) = some_put o f due at (λ e. rises)
puts_are_of_the_due words old new s (came o due (put_no_memory f is at i j)) = some_put o f due at (λ e. absurd (memory_no_fault s is e))
puts_are_of_the_due words old new s (came o due (print_failed is held i rises k l has_text)) = all_put o due held (λ e. rises)
puts_are_of_the_due words old new s (came o due (print_no_memory is held i j has_text)) = all_put o due held (λ e. absurd (memory_no_fault s is e))
puts_are_of_the_due words old new s (read_failed (c, is_command, h) is i j same) = none_put same.held
puts_are_of_the_due words old new s (no_memory is h same) = none_put same.held

-- ---- what was told

pub texts_are_of_the_due : TextsAreOfTheDue
texts_are_of_the_due words old new s (came o due (whole is a held told)) fault = absurd (fault (subst IsAnswer (sym is) (outcomes_are_answers words old.held o due)))
texts_are_of_the_due words old new s (came o due (put_failed f is at i j k told)) fault = none_told told
texts_are_of_the_due words old new s (came o due (put_no_memory f is at i told)) fault = none_told told
texts_are_of_the_due words old new s (came o due (print_failed is held front rises k l has_text)) fault = some_told o due front (λ e. rises)
texts_are_of_the_due words old new s (came o due (print_no_memory is held front j has_text)) fault = some_told o due front (λ e. absurd (memory_no_fault s is e))
texts_are_of_the_due words old new s (read_failed (c, is_command, h) is i j same) fault = none_told same.told
texts_are_of_the_due words old new s (no_memory is h same) fault = none_told same.told

pub read_faults_tell_nothing : ReadFaultsTellNothing
read_faults_tell_nothing words old new s (came o due (whole is a held told)) e = absurd (subst IsAnswer (sym is ∙ e) (outcomes_are_answers words old.held o due))
read_faults_tell_nothing words old new s (came o due (put_failed f is at i j k told)) e = told
read_faults_tell_nothing words old new s (came o due (put_no_memory f is at i told)) e = told
read_faults_tell_nothing words old new s (came o due (print_failed is held front j k l has_text)) e = absurd cc
read_faults_tell_nothing words old new s (came o due (print_no_memory is held front j has_text)) e = absurd cc
read_faults_tell_nothing words old new s (read_failed (c, is_command, h) is i j same) e = same.told
read_faults_tell_nothing words old new s (no_memory is h same) e = same.told

-- ---- faults

-- the item between two parts of a list is in it
between : {X : Type 0} (front : List X) (x : X) (rest : List X) → Member (front ++ (x ∷ rest)) x
between [] x rest = inl refl
between (y ∷ ys) x rest = inr (between ys x rest)

in_order : {X : Type 0} (xs front : List X) (x : X) (rest : List X) → xs ≡ front ++ (x ∷ rest) → Member xs x
in_order xs front x rest e = subst (λ ys. Member ys x) (sym e) (between front x rest)

pub read_faults_are_true : ReadFaultsAreTrue
read_faults_are_true words old new s (came o due (whole is a held told)) e = absurd (subst IsAnswer (sym is ∙ e) (outcomes_are_answers words old.held o due))
read_faults_are_true words old new s (came o due (put_failed f is at i j k told)) e = absurd cc
read_faults_are_true words old new s (came o due (put_no_memory f is at i told)) e = absurd cc
read_faults_are_true words old new s (came o due (print_failed is held front j k l has_text)) e = absurd cc
read_faults_are_true words old new s (came o due (print_no_memory is held front j has_text)) e = absurd cc
read_faults_are_true words old new s (read_failed (c, is_command, h) is i j same) e = (c, is_command, (h.name, in_order (inputs_of c) h.front h.name h.rest h.in_order, h.rises))
read_faults_are_true words old new s (no_memory is h same) e = absurd cc

-- a put of a due outcome is of an output of the command
put_under : (words : List (Vec ℕ Global)) (old : Outside) (new : Option FileMap) (o : Outcome) (file : FilePut) → IsDue words old.held o → StopsAt o.puts old.held new file → (c : Asked) × IsCommand words c × Member (outputs_of c) file.name
put_under words old new _ file (usage a) at = absurd (stops_nowhere old.held new file [] refl at)
put_under words old new o file (of_command c t _ is held comes) at = (c, is, (comes_under c.verb c t o comes).names file (in_order o.puts at.front file at.rest at.in_order))

pub write_faults_are_true : WriteFaultsAreTrue
write_faults_are_true words old new s (came o due (whole is a held told)) e = absurd (subst IsAnswer (sym is ∙ e) (outcomes_are_answers words old.held o due))
write_faults_are_true words old new s (came o due (put_failed f is at rises j k told)) e = let p = put_under words old new.held o f due at in inl (p.0, p.1, (f.name, p.2, rises))
write_faults_are_true words old new s (came o due (put_no_memory f is at i told)) e = absurd cc
write_faults_are_true words old new s (came o due (print_failed is held front rises k l has_text)) e = inr rises
write_faults_are_true words old new s (came o due (print_no_memory is held front j has_text)) e = absurd cc
write_faults_are_true words old new s (read_failed (c, is_command, h) is i j same) e = absurd cc
write_faults_are_true words old new s (no_memory is h same) e = absurd cc

pub failed_gets_are_told : FailedGetsAreTold
failed_gets_are_told words old new s (came o due (whole is none held told)) e = none.gets
failed_gets_are_told words old new s (came o due (put_failed f is at rises gets k told)) e = gets
failed_gets_are_told words old new s (came o due (put_no_memory f is at none told)) e = none.gets
failed_gets_are_told words old new s (came o due (print_failed is held front rises gets l has_text)) e = gets
failed_gets_are_told words old new s (came o due (print_no_memory is held front none has_text)) e = none.gets
failed_gets_are_told words old new s (read_failed (c, is_command, h) is i j same) e = absurd (e is)
failed_gets_are_told words old new s (no_memory is none same) e = none.gets

pub failed_writes_are_told : FailedWritesAreTold
failed_writes_are_told words old new s (came o due (whole is none held told)) e = (none.puts, none.writes)
failed_writes_are_told words old new s (came o due (put_failed f is at rises gets k told)) e = absurd (e is)
failed_writes_are_told words old new s (came o due (put_no_memory f is at none told)) e = (none.puts, none.writes)
failed_writes_are_told words old new s (came o due (print_failed is held front rises gets l has_text)) e = absurd (e is)
failed_writes_are_told words old new s (came o due (print_no_memory is held front none has_text)) e = (none.puts, none.writes)
failed_writes_are_told words old new s (read_failed (c, is_command, h) is puts writes same) e = (puts, writes)
failed_writes_are_told words old new s (no_memory is none same) e = (none.puts, none.writes)

-- a name with a content isn't missing
not_missing : (m : FileMap) (name : List ℕ) (names texts : List (List ℕ)) → map (get m) names ≡ map Some texts → Member names name → get m name ≡ None → ⊥
not_missing m name [] texts held at missing = absurd at
not_missing m name (n ∷ ns) [] held at missing = absurd cc
not_missing m name (n ∷ ns) (t ∷ ts) held (inl is) missing = absurd (let here : get m n ≡ Some t = cc in cc (ap (get m) is, here, missing))
not_missing m name (n ∷ ns) (t ∷ ts) held (inr at) missing = let rest : map (get m) ns ≡ map Some ts = cc in not_missing m name ns ts rest at missing

-- a file stands under some name
under_name : (f : List ℕ → Option (List ℕ)) (p : List ℕ → Bool) (names : List (List ℕ)) (name : List ℕ) → list_all p names ≡ true → Member (filter_map f names) name → (n : List ℕ) × (p n ≡ true) × (has_text names n ≡ true) × (f n ≡ Some name)
under_name f p [] name all found = absurd found
under_name f p (x ∷ xs) name all found = by (p x) refl (f x) refl (under_name f p xs name) all found
  where
    or_true : (b d : Bool) → d ≡ true → (b || d) ≡ true
    or_true true d e = refl
    or_true false d e = e

    by : (b : Bool) → p x ≡ b → (o : Option (List ℕ)) → f x ≡ o → (list_all p xs ≡ true → Member (filter_map f xs) name → (n : List ℕ) × (p n ≡ true) × (has_text xs n ≡ true) × (f n ≡ Some name))
        → list_all p (x ∷ xs) ≡ true → Member (filter_map f (x ∷ xs)) name → (n : List ℕ) × (p n ≡ true) × (has_text (x ∷ xs) n ≡ true) × (f n ≡ Some name)
    by false pe o e rest all found = absurd (false≢true (rw pe at all))
    by true pe None e rest all found = let r = rest (rw pe at all) (rw e at found) in (r.0, r.1, or_true (bytes_eq x r.0) (has_text xs r.0) r.2, r.3)
    by true pe (Some y) e rest all found = elim (rw e at found) [
      | inl same ↦ (x, pe, ap (λ (b : Bool). b || has_text xs x) ((bytes_eq-Decides x x).1 refl), e ∙ ap Some same)
      | inr more ↦ let r = rest (rw pe at all) more in (r.0, r.1, or_true (bytes_eq x r.0) (has_text xs r.0) r.2, r.3)
    ]

-- a text that is one of some is a member of them
among : (xs : List (List ℕ)) (n : List ℕ) → has_text xs n ≡ true → Member xs n
among [] n e = absurd (false≢true e)
among (x ∷ xs) n e = by (bytes_eq x n) refl (among xs n) e
  where
    by : (b : Bool) → bytes_eq x n ≡ b → (has_text xs n ≡ true → Member xs n) → has_text (x ∷ xs) n ≡ true → Member (x ∷ xs) n
    by true same rest e = inl ((bytes_eq-Decides x n).0 same)
    by false other rest e = inr (rest (rw other at e))

module _ (m : FileMap) (name : List ℕ) (missing : get m name ≡ None) (names : List (List ℕ)) (c : Asked) (t : Contents) (are : AreContentsUnder names (Some m) c t) where
  file_here : (x n : List ℕ) → x ≡ n → has_text names n ≡ true → file_under c n ≡ Some name → file_among names c x ≡ Some name
  file_here x n same has is = ap (λ (b : Bool). if b then file_under c x else None) (ap (has_text names) same ∙ has) ∙ (ap (file_under c) same ∙ is)

  no_content : (o : Option (List ℕ)) (content : List ℕ) → IsContent (Some m) o content → o ≡ Some name → ⊥
  no_content o content held is = not_missing m name (name ∷ []) (content ∷ []) (subst (λ (z : Option (List ℕ)). IsContent (Some m) z content) is held) (inl refl) missing

  -- no name of a command whose files are held is missing
  none_under : (n : List ℕ) → Member input_names n → has_text names n ≡ true → file_under c n ≡ Some name → ⊥
  none_under n (inl e) has is = no_content (file_among names c (codes "D")) t.domain are.domain (file_here (codes "D") n e has is)
  none_under n (inr (inl e)) has is = no_content (file_among names c (codes "P")) t.problem are.problem (file_here (codes "P") n e has is)
  none_under n (inr (inr (inl e))) has is =
      not_missing m name (name ∷ []) t.merges (subst (λ (z : Option (List ℕ)). AreHeld (Some m) (if_named z) t.merges) (file_here (codes "merges") n e has is) are.merges) (inl refl) missing
  none_under n (inr (inr (inr (inl e)))) has is = no_content (file_among names c (codes "PLAN")) t.plan are.plan (file_here (codes "PLAN") n e has is)
  none_under n (inr (inr (inr (inr (inl e))))) has is = no_content (file_among names c (codes "T")) t.written are.written (file_here (codes "T") n e has is)
  none_under n (inr (inr (inr (inr (inr e))))) has is = absurd e

none_read : (m : FileMap) (name : List ℕ) → get m name ≡ None → (c : Asked) (t : Contents) → AreContents (Some m) c t → Member (inputs_of c) name → ⊥
none_read m name missing c t are found =
    let u = under_name (file_under c) (has_text input_names) (form c.verb).reads name (reads_are_inputs c.verb) found in
    none_under m name missing (form c.verb).reads c t are u.0 (among input_names u.0 u.1) u.2 u.3

-- so a run came to no outcome of the command
none_due : (words : List (Vec ℕ Global)) (m : FileMap) (c : Asked) (name : List ℕ) (o : Outcome) → IsCommand words c → Member (inputs_of c) name → get m name ≡ None → IsDue words (Some m) o → ⊥
none_due words m c name _ is at missing (usage a) = a c is
none_due words m c name o is at missing (of_command d t _ so held comes) = none_read m name missing d t held (subst (λ x. Member (inputs_of x) name) (words_are_one_command words c d is so) at)

pub missing_inputs_are_faults : MissingInputsAreFaults
missing_inputs_are_faults words old new s (came o due carried) m c name told is at missing = absurd (none_due words m c name o is at missing (subst (λ h. IsDue words h o) told due))
missing_inputs_are_faults words old new s (read_failed (d, is_command, h) is i j same) m c name told so at missing = inl is
missing_inputs_are_faults words old new s (no_memory is h same) m c name told so at missing = inr is

-- of two ways to cut a list at an item, the one whose front is held ends no later
cut_before : (m : FileMap) (front rest held_front texts rest_too : List (List ℕ)) (name q : List ℕ) → front ++ (name ∷ rest) ≡ held_front ++ (q ∷ rest_too) → map (get m) held_front ≡ map Some texts → get m name ≡ None → Member (front ++ (name ∷ [])) q
cut_before m [] rest [] texts rest_too name q e held missing = inl (let first : name ≡ q = cc in first)
cut_before m [] rest (x ∷ xs) [] rest_too name q e held missing = absurd cc
cut_before m [] rest (x ∷ xs) (t ∷ ts) rest_too name q e held missing = absurd (let first : name ≡ x = cc in let here : get m x ≡ Some t = cc in cc (ap (get m) first, here, missing))
cut_before m (f ∷ fs) rest [] texts rest_too name q e held missing = inl (let first : f ≡ q = cc in first)
cut_before m (f ∷ fs) rest (x ∷ xs) [] rest_too name q e held missing = absurd cc
cut_before m (f ∷ fs) rest (x ∷ xs) (t ∷ ts) rest_too name q e held missing =
    let others : fs ++ (name ∷ rest) ≡ xs ++ (q ∷ rest_too) = cc in
    let more : map (get m) xs ≡ map Some ts = cc in
    inr (cut_before m fs rest xs ts rest_too name q others more missing)

pub inputs_are_read_in_order : InputsAreReadInOrder
inputs_are_read_in_order words old new s (came o due carried) m c front rest name told is cut missing e = absurd (none_due words m c name o is (in_order (inputs_of c) front name rest cut) missing (subst (λ h. IsDue words h o) told due))
inputs_are_read_in_order words old new s (read_failed (d, so, h) is i j same) m c front rest name told is_command cut missing e =
    let one = ap inputs_of (words_are_one_command words c d is_command so) in
    (h.name, cut_before m front rest h.front h.texts h.rest name h.name (sym cut ∙ (one ∙ h.in_order)) (subst (λ o. AreHeld o h.front h.texts) told h.are_held) missing, h.rises)
inputs_are_read_in_order words old new s (no_memory is h same) m c front rest name told so cut missing e = absurd cc
