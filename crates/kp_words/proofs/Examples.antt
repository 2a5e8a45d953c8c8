-- Words that are a command.
use Rattle.std.proofs.Common.{◌<◌, ◌^◌, ℕ, List, [], ◌∷◌, Some, length, Vec, codes, refl, arith}
use Rattle.std.specs.declared.alloc.Global.{Global}
use denote.RawPtr.{null_ptr}
use lib.Utf8.{encode}
use Rattle.std.specs.Fmt.{digits}
use Rattle.kp_base.specs.declared.limits.Mode.TheVariants as modes
use Rattle.kp_words_options.specs.Words.{nothing, a_word, apart, joined, word as said_word, option as said_option}
use Rattle.kp_words.specs.declared.source.Family.TheVariants as families
use Rattle.kp_words.specs.declared.verb.Verb.TheVariants as verbs
use Rattle.kp_words.specs.Command.{IsCall, IsNoCommand}
use Rattle.kp_words.specs.Owned.{bare}
use Rattle.kp_words.proofs.Words.{two_apart}
use Rattle.kp_words.proofs.Saying.{call_by_words, files_by_computing, usual_source, usual_numbers, nothing_generated}

-- a word as the program gets it, of which the bytes alone matter
abbrev pub word : (bytes : List ℕ) → length bytes < 2 ^ 63 → Vec ℕ Global
word bytes small = record { ptr = null_ptr; len = length bytes; cap = length bytes; alloc = record { memory = record { seal = tt } }; items = bytes; ok = (refl, omega arith); small = small }

-- no words are no command
pub no_words : IsNoCommand []
no_words c is = let e = is.are_words.are in absurd cc

-- a translation with nothing said of the tags: the mode is k1
is_usual : IsCall verbs.Translate (word (codes "translate") (omega arith) ∷ word (codes "d") (omega arith) ∷ word (codes "p") (omega arith) ∷ word (codes "od") (omega arith) ∷ word (codes "op") (omega arith) ∷ []) (record (bare verbs.Translate) { domain = codes "d"; problem = codes "p"; domain_out = codes "od"; problem_out = codes "op"; implicates = 20000 })
unfolding encode digits
is_usual =
    call_by_words verbs.Translate _ _ _ (said_word (codes "d") ∷ said_word (codes "p") ∷ said_word (codes "od") ∷ said_word (codes "op") ∷ []) ((codes "translate", (refl, refl)), ((codes "d", (refl, refl)), ((codes "p", (refl, refl)), ((codes "od", (refl, refl)), ((codes "op", (refl, refl)), tt))))) refl (a_word _ _ _ refl (a_word _ _ _ refl (a_word _ _ _ refl (a_word _ _ _ refl (nothing))))) refl refl refl refl
    (record { files = files_by_computing refl (two_apart (codes "od") (codes "op") refl); source = usual_source refl; numbers = usual_numbers refl; generated = nothing_generated refl })

-- a translation with its options among the files, a value behind an equals sign and one behind its option
is_in_front : IsCall verbs.Translate (word (codes "translate") (omega arith) ∷ word (codes "--mode=k0") (omega arith) ∷ word (codes "d") (omega arith) ∷ word (codes "p") (omega arith) ∷ word (codes "--implicates") (omega arith) ∷ word (codes "3") (omega arith) ∷ word (codes "od") (omega arith) ∷ word (codes "op") (omega arith) ∷ []) (record (bare verbs.Translate) { domain = codes "d"; problem = codes "p"; domain_out = codes "od"; problem_out = codes "op"; mode = modes.K0; implicates = 3 })
unfolding encode digits
is_in_front =
    call_by_words verbs.Translate _ _ _ (said_option (codes "mode") (codes "k0") ∷ said_word (codes "d") ∷ said_word (codes "p") ∷ said_option (codes "implicates") (codes "3") ∷ said_word (codes "od") ∷ said_word (codes "op") ∷ []) ((codes "translate", (refl, refl)), ((codes "--mode=k0", (refl, refl)), ((codes "d", (refl, refl)), ((codes "p", (refl, refl)), ((codes "--implicates", (refl, refl)), ((codes "3", (refl, refl)), ((codes "od", (refl, refl)), ((codes "op", (refl, refl)), tt)))))))) refl (joined (codes "mode") (codes "k0") _ _ refl refl (a_word _ _ _ refl (a_word _ _ _ refl (apart (codes "implicates") (codes "3") _ _ refl refl (a_word _ _ _ refl (a_word _ _ _ refl (nothing))))))) refl refl refl refl
    (record { files = files_by_computing refl (two_apart (codes "od") (codes "op") refl); source = record { mode = refl; merges = refl; one_source = tt }; numbers = record { implicates = (record { at_least = omega arith; at_most = omega arith }, refl); budget = refl; bound = refl }; generated = nothing_generated refl })

-- a call for merges, with a mode
is_merges : IsCall verbs.Merges (word (codes "merges") (omega arith) ∷ word (codes "d") (omega arith) ∷ word (codes "p") (omega arith) ∷ word (codes "--mode") (omega arith) ∷ word (codes "auto") (omega arith) ∷ []) (record (bare verbs.Merges) { domain = codes "d"; problem = codes "p"; mode = modes.Auto; implicates = 20000 })
unfolding encode digits
is_merges =
    call_by_words verbs.Merges _ _ _ (said_word (codes "d") ∷ said_word (codes "p") ∷ said_option (codes "mode") (codes "auto") ∷ []) ((codes "merges", (refl, refl)), ((codes "d", (refl, refl)), ((codes "p", (refl, refl)), ((codes "--mode", (refl, refl)), ((codes "auto", (refl, refl)), tt))))) refl (a_word _ _ _ refl (a_word _ _ _ refl (apart (codes "mode") (codes "auto") _ _ refl refl (nothing)))) refl refl refl refl
    (record { files = files_by_computing refl tt; source = record { mode = refl; merges = refl; one_source = tt }; numbers = usual_numbers refl; generated = nothing_generated refl })

-- a strip
is_strip : IsCall verbs.Strip (word (codes "strip") (omega arith) ∷ word (codes "t") (omega arith) ∷ []) (record (bare verbs.Strip) { written = codes "t" })
unfolding encode digits
is_strip =
    call_by_words verbs.Strip _ _ _ (said_word (codes "t") ∷ []) ((codes "strip", (refl, refl)), ((codes "t", (refl, refl)), tt)) refl (a_word _ _ _ refl (nothing)) refl refl refl refl
    (record { files = files_by_computing refl tt; source = usual_source refl; numbers = usual_numbers refl; generated = nothing_generated refl })

-- a check
is_check : IsCall verbs.Check (word (codes "check") (omega arith) ∷ word (codes "d") (omega arith) ∷ word (codes "p") (omega arith) ∷ word (codes "t") (omega arith) ∷ []) (record (bare verbs.Check) { domain = codes "d"; problem = codes "p"; plan = codes "t"; implicates = 20000 })
unfolding encode digits
is_check =
    call_by_words verbs.Check _ _ _ (said_word (codes "d") ∷ said_word (codes "p") ∷ said_word (codes "t") ∷ []) ((codes "check", (refl, refl)), ((codes "d", (refl, refl)), ((codes "p", (refl, refl)), ((codes "t", (refl, refl)), tt)))) refl (a_word _ _ _ refl (a_word _ _ _ refl (a_word _ _ _ refl (nothing)))) refl refl refl refl
    (record { files = files_by_computing refl tt; source = usual_source refl; numbers = usual_numbers refl; generated = nothing_generated refl })

-- a lift with a file of merges, whose name has an equals sign
is_lift : IsCall verbs.Lift (word (codes "lift") (omega arith) ∷ word (codes "--merges=a=b") (omega arith) ∷ word (codes "d") (omega arith) ∷ word (codes "p") (omega arith) ∷ word (codes "t") (omega arith) ∷ []) (record (bare verbs.Lift) { domain = codes "d"; problem = codes "p"; plan = codes "t"; merges = Some (codes "a=b"); implicates = 20000 })
unfolding encode digits
is_lift =
    call_by_words verbs.Lift _ _ _ (said_option (codes "merges") (codes "a=b") ∷ said_word (codes "d") ∷ said_word (codes "p") ∷ said_word (codes "t") ∷ []) ((codes "lift", (refl, refl)), ((codes "--merges=a=b", (refl, refl)), ((codes "d", (refl, refl)), ((codes "p", (refl, refl)), ((codes "t", (refl, refl)), tt))))) refl (joined (codes "merges") (codes "a=b") _ _ refl refl (a_word _ _ _ refl (a_word _ _ _ refl (a_word _ _ _ refl (nothing))))) refl refl refl refl
    (record { files = files_by_computing refl tt; source = record { mode = refl; merges = refl; one_source = tt }; numbers = usual_numbers refl; generated = nothing_generated refl })

-- a call to solve, with a budget and a file for the classical plan
is_solve : IsCall verbs.Solve (word (codes "solve") (omega arith) ∷ word (codes "d") (omega arith) ∷ word (codes "--classical") (omega arith) ∷ word (codes "c") (omega arith) ∷ word (codes "p") (omega arith) ∷ word (codes "--budget=1") (omega arith) ∷ []) (record (bare verbs.Solve) { domain = codes "d"; problem = codes "p"; implicates = 20000; budget = 1; classical = Some (codes "c") })
unfolding encode digits
is_solve =
    call_by_words verbs.Solve _ _ _ (said_word (codes "d") ∷ said_option (codes "classical") (codes "c") ∷ said_word (codes "p") ∷ said_option (codes "budget") (codes "1") ∷ []) ((codes "solve", (refl, refl)), ((codes "d", (refl, refl)), ((codes "--classical", (refl, refl)), ((codes "c", (refl, refl)), ((codes "p", (refl, refl)), ((codes "--budget=1", (refl, refl)), tt)))))) refl (a_word _ _ _ refl (apart (codes "classical") (codes "c") _ _ refl refl (a_word _ _ _ refl (joined (codes "budget") (codes "1") _ _ refl refl (nothing))))) refl refl refl refl
    (record { files = files_by_computing refl tt; source = usual_source refl; numbers = record { implicates = refl; budget = (record { at_least = omega arith; at_most = omega arith }, refl); bound = refl }; generated = nothing_generated refl })

-- a call to solve a classical problem
pub is_classical : IsCall verbs.Classical (word (codes "classical") (omega arith) ∷ word (codes "d") (omega arith) ∷ word (codes "p") (omega arith) ∷ []) (record (bare verbs.Classical) { domain = codes "d"; problem = codes "p"; budget = 10000 })
unfolding encode digits
is_classical =
    call_by_words verbs.Classical _ _ _ (said_word (codes "d") ∷ said_word (codes "p") ∷ []) ((codes "classical", (refl, refl)), ((codes "d", (refl, refl)), ((codes "p", (refl, refl)), tt))) refl (a_word _ _ _ refl (a_word _ _ _ refl (nothing))) refl refl refl refl
    (record { files = files_by_computing refl tt; source = usual_source refl; numbers = usual_numbers refl; generated = nothing_generated refl })

-- a call for the width, with a bound of 0
pub is_width : IsCall verbs.Width (word (codes "width") (omega arith) ∷ word (codes "--bound") (omega arith) ∷ word (codes "0") (omega arith) ∷ word (codes "d") (omega arith) ∷ word (codes "p") (omega arith) ∷ []) (record (bare verbs.Width) { domain = codes "d"; problem = codes "p"; bound = 0; implicates = 20000 })
unfolding encode digits
is_width =
    call_by_words verbs.Width _ _ _ (said_option (codes "bound") (codes "0") ∷ said_word (codes "d") ∷ said_word (codes "p") ∷ []) ((codes "width", (refl, refl)), ((codes "--bound", (refl, refl)), ((codes "0", (refl, refl)), ((codes "d", (refl, refl)), ((codes "p", (refl, refl)), tt))))) refl (apart (codes "bound") (codes "0") _ _ refl refl (a_word _ _ _ refl (a_word _ _ _ refl (nothing)))) refl refl refl refl
    (record { files = files_by_computing refl tt; source = usual_source refl; numbers = record { implicates = refl; budget = refl; bound = (record { at_least = omega arith; at_most = omega arith }, refl) }; generated = nothing_generated refl })

-- a run on a line of two
is_bench : IsCall verbs.Bench (word (codes "bench") (omega arith) ∷ word (codes "line") (omega arith) ∷ word (codes "2") (omega arith) ∷ []) (record (bare verbs.Bench) { family = families.Line; size = 2; budget = 10000 })
unfolding encode digits
is_bench =
    call_by_words verbs.Bench _ _ _ (said_word (codes "line") ∷ said_word (codes "2") ∷ []) ((codes "bench", (refl, refl)), ((codes "line", (refl, refl)), ((codes "2", (refl, refl)), tt))) refl (a_word _ _ _ refl (a_word _ _ _ refl (nothing))) refl refl refl refl
    (record { files = files_by_computing refl tt; source = usual_source refl; numbers = usual_numbers refl; generated = record { family = refl; size = (record { at_least = omega arith; at_most = omega arith }, refl) } })
