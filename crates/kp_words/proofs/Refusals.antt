-- Words that are no command.
use Rattle.std.proofs.Common.{◌≡◌, ◌≢◌, ◌∙◌, ◌<◌, ◌≤◌, ◌^◌, ℕ, zero, suc, List, [], ◌∷◌, Some, map, codes, decimal, refl, sym, subst, arith}
use Rattle.std.specs.Fmt.{digits}
use Rattle.std.proofs.lemmas.Fmt.{decimal_injective}
use Rattle.kp_words_options.specs.Words.{word as said_word, option as said_option}
use Rattle.kp_words_options.proofs.Public.{line_has_what_is_said, option_said_twice_is_no_line, words_that_say_nothing_are_no_line}
use Rattle.kp_words.specs.declared.verb.Verb.TheVariants as verbs
use Rattle.kp_words.specs.Forms.{form, value_at}
use Rattle.kp_words.specs.Options.{SaysBound, SaysBudget, SaysSize, AreApart, AreNotBoth}
use Rattle.kp_words.specs.Command.{IsNoCommand}
use Rattle.kp_words.proofs.Verbs.{no_command}
use Rattle.kp_words.proofs.Examples.{word}

-- ---- the shape

-- an option twice
mode_twice : IsNoCommand (word (codes "translate") (omega arith) ∷ word (codes "d") (omega arith) ∷ word (codes "p") (omega arith) ∷ word (codes "od") (omega arith) ∷ word (codes "op") (omega arith) ∷ word (codes "--mode") (omega arith) ∷ word (codes "k0") (omega arith) ∷ word (codes "--mode=k0") (omega arith) ∷ [])
mode_twice = no_command verbs.Translate _ (codes "d" ∷ codes "p" ∷ codes "od" ∷ codes "op" ∷ codes "--mode" ∷ codes "k0" ∷ codes "--mode=k0" ∷ []) refl (λ d says. option_said_twice_is_no_line (codes "d" ∷ codes "p" ∷ codes "od" ∷ codes "op" ∷ codes "--mode" ∷ codes "k0" ∷ codes "--mode=k0" ∷ []) (codes "mode" ∷ codes "merges" ∷ codes "implicates" ∷ []) says.places says.values (said_word (codes "d") ∷ said_word (codes "p") ∷ said_word (codes "od") ∷ said_word (codes "op") ∷ said_option (codes "mode") (codes "k0") ∷ said_option (codes "mode") (codes "k0") ∷ []) refl refl says.line)

-- a value that begins with a dash
dash_value : IsNoCommand (word (codes "solve") (omega arith) ∷ word (codes "d") (omega arith) ∷ word (codes "p") (omega arith) ∷ word (codes "--classical") (omega arith) ∷ word (codes "-c") (omega arith) ∷ [])
dash_value = no_command verbs.Solve _ (codes "d" ∷ codes "p" ∷ codes "--classical" ∷ codes "-c" ∷ []) refl (λ d says. words_that_say_nothing_are_no_line (codes "d" ∷ codes "p" ∷ codes "--classical" ∷ codes "-c" ∷ []) (codes "mode" ∷ codes "merges" ∷ codes "implicates" ∷ codes "budget" ∷ codes "classical" ∷ []) says.places says.values refl says.line)

-- also behind an equals sign
dash_joined : IsNoCommand (word (codes "solve") (omega arith) ∷ word (codes "d") (omega arith) ∷ word (codes "p") (omega arith) ∷ word (codes "--classical=-c") (omega arith) ∷ [])
dash_joined = no_command verbs.Solve _ (codes "d" ∷ codes "p" ∷ codes "--classical=-c" ∷ []) refl (λ d says. words_that_say_nothing_are_no_line (codes "d" ∷ codes "p" ∷ codes "--classical=-c" ∷ []) (codes "mode" ∷ codes "merges" ∷ codes "implicates" ∷ codes "budget" ∷ codes "classical" ∷ []) says.places says.values refl says.line)

-- an option without a value
no_value : IsNoCommand (word (codes "classical") (omega arith) ∷ word (codes "d") (omega arith) ∷ word (codes "p") (omega arith) ∷ word (codes "--budget") (omega arith) ∷ [])
no_value = no_command verbs.Classical _ (codes "d" ∷ codes "p" ∷ codes "--budget" ∷ []) refl (λ d says. words_that_say_nothing_are_no_line (codes "d" ∷ codes "p" ∷ codes "--budget" ∷ []) (codes "budget" ∷ []) says.places says.values refl says.line)

-- two dashes alone
two_dashes : IsNoCommand (word (codes "strip") (omega arith) ∷ word (codes "--") (omega arith) ∷ word (codes "t") (omega arith) ∷ [])
two_dashes = no_command verbs.Strip _ (codes "--" ∷ codes "t" ∷ []) refl (λ d says. words_that_say_nothing_are_no_line (codes "--" ∷ codes "t" ∷ []) ([]) says.places says.values refl says.line)

-- a short option
help : IsNoCommand (word (codes "strip") (omega arith) ∷ word (codes "t") (omega arith) ∷ word (codes "-h") (omega arith) ∷ [])
help = no_command verbs.Strip _ (codes "t" ∷ codes "-h" ∷ []) refl (λ d says. words_that_say_nothing_are_no_line (codes "t" ∷ codes "-h" ∷ []) ([]) says.places says.values refl says.line)

-- an empty word
empty_word : IsNoCommand (word (codes "strip") (omega arith) ∷ word (codes "") (omega arith) ∷ [])
empty_word = no_command verbs.Strip _ (codes "" ∷ []) refl (λ d says. words_that_say_nothing_are_no_line (codes "" ∷ []) ([]) says.places says.values refl says.line)

-- ---- the values

-- a number of one digit has one digit
one_digit : (n : ℕ) → n ≤ 8 → codes "03" ≢ decimal n
unfolding digits
one_digit zero small e = cc
one_digit (suc zero) small e = cc
one_digit (suc (suc zero)) small e = cc
one_digit (suc (suc (suc zero))) small e = cc
one_digit (suc (suc (suc (suc zero)))) small e = cc
one_digit (suc (suc (suc (suc (suc zero))))) small e = cc
one_digit (suc (suc (suc (suc (suc (suc zero)))))) small e = cc
one_digit (suc (suc (suc (suc (suc (suc (suc zero))))))) small e = cc
one_digit (suc (suc (suc (suc (suc (suc (suc (suc zero)))))))) small e = cc
one_digit (suc (suc (suc (suc (suc (suc (suc (suc (suc n))))))))) small e = absurd (omega (arith, small))

-- a word that says a number says no other
says_other : (m n : ℕ) (word : List ℕ) → m < 2 ^ 32 → n < 2 ^ 32 → word ≡ decimal m → word ≡ decimal n → m ≡ n
says_other m n word low high e f = decimal_injective m n (omega (arith, low)) (omega (arith, high)) (sym e ∙ f)

zero_is : codes "0" ≡ decimal 0
unfolding digits
zero_is = refl

over_is : codes "101" ≡ decimal 101
unfolding digits
over_is = refl

-- a number with a leading zero
zero_in_front : IsNoCommand (word (codes "width") (omega arith) ∷ word (codes "d") (omega arith) ∷ word (codes "p") (omega arith) ∷ word (codes "--bound") (omega arith) ∷ word (codes "03") (omega arith) ∷ [])
zero_in_front = no_command verbs.Width _ (codes "d" ∷ codes "p" ∷ codes "--bound" ∷ codes "03" ∷ []) refl (λ d says.
    let line = line_has_what_is_said (codes "d" ∷ codes "p" ∷ codes "--bound" ∷ codes "03" ∷ []) (codes "bound" ∷ codes "implicates" ∷ []) says.places says.values (said_word (codes "d") ∷ said_word (codes "p") ∷ said_option (codes "bound") (codes "03") ∷ []) refl says.line in
    let said = subst (λ vs. SaysBound (value_at (form verbs.Width).options vs (codes "bound")) d.bound) (sym line.1) says.are_of.are_asked.numbers.bound in
    one_digit d.bound said.0.at_most said.1)

-- a budget of 0
budget_of_none : IsNoCommand (word (codes "solve") (omega arith) ∷ word (codes "d") (omega arith) ∷ word (codes "p") (omega arith) ∷ word (codes "--budget") (omega arith) ∷ word (codes "0") (omega arith) ∷ [])
budget_of_none = no_command verbs.Solve _ (codes "d" ∷ codes "p" ∷ codes "--budget" ∷ codes "0" ∷ []) refl (λ d says.
    let line = line_has_what_is_said (codes "d" ∷ codes "p" ∷ codes "--budget" ∷ codes "0" ∷ []) (codes "mode" ∷ codes "merges" ∷ codes "implicates" ∷ codes "budget" ∷ codes "classical" ∷ []) says.places says.values (said_word (codes "d") ∷ said_word (codes "p") ∷ said_option (codes "budget") (codes "0") ∷ []) refl says.line in
    let said = subst (λ vs. SaysBudget (value_at (form verbs.Solve).options vs (codes "budget")) d.budget) (sym line.1) says.are_of.are_asked.numbers.budget in
    let low = said.0.at_least in
    let high = said.0.at_most in
    let same = says_other 0 d.budget (codes "0") (omega arith) (omega (arith, high)) zero_is said.1 in
    absurd (omega (arith, low, same)))

-- a problem of 101
too_large : IsNoCommand (word (codes "bench") (omega arith) ∷ word (codes "line") (omega arith) ∷ word (codes "101") (omega arith) ∷ [])
too_large = no_command verbs.Bench _ (codes "line" ∷ codes "101" ∷ []) refl (λ d says.
    let line = line_has_what_is_said (codes "line" ∷ codes "101" ∷ []) (codes "mode" ∷ codes "budget" ∷ []) says.places says.values (said_word (codes "line") ∷ said_word (codes "101") ∷ []) refl says.line in
    let said = subst (λ ps. SaysSize (value_at (form verbs.Bench).places (map Some ps) (codes "N")) d.size) (sym line.0) says.are_of.are_asked.generated.size in
    let high = said.0.at_most in
    let same = says_other 101 d.size (codes "101") (omega arith) (omega (arith, high)) over_is said.1 in
    absurd (omega (arith, high, same)))

-- a mode and a file of merges
mode_and_merges : IsNoCommand (word (codes "lift") (omega arith) ∷ word (codes "d") (omega arith) ∷ word (codes "p") (omega arith) ∷ word (codes "t") (omega arith) ∷ word (codes "--mode") (omega arith) ∷ word (codes "k1") (omega arith) ∷ word (codes "--merges") (omega arith) ∷ word (codes "m") (omega arith) ∷ [])
mode_and_merges = no_command verbs.Lift _ (codes "d" ∷ codes "p" ∷ codes "t" ∷ codes "--mode" ∷ codes "k1" ∷ codes "--merges" ∷ codes "m" ∷ []) refl (λ d says.
    let line = line_has_what_is_said (codes "d" ∷ codes "p" ∷ codes "t" ∷ codes "--mode" ∷ codes "k1" ∷ codes "--merges" ∷ codes "m" ∷ []) (codes "mode" ∷ codes "merges" ∷ codes "implicates" ∷ []) says.places says.values (said_word (codes "d") ∷ said_word (codes "p") ∷ said_word (codes "t") ∷ said_option (codes "mode") (codes "k1") ∷ said_option (codes "merges") (codes "m") ∷ []) refl says.line in
    subst (λ vs. AreNotBoth (value_at (form verbs.Lift).options vs (codes "mode")) (value_at (form verbs.Lift).options vs (codes "merges"))) (sym line.1) says.are_of.are_asked.source.one_source)

-- equal names of the written files
equal_outputs : IsNoCommand (word (codes "translate") (omega arith) ∷ word (codes "d") (omega arith) ∷ word (codes "p") (omega arith) ∷ word (codes "o") (omega arith) ∷ word (codes "o") (omega arith) ∷ [])
equal_outputs = no_command verbs.Translate _ (codes "d" ∷ codes "p" ∷ codes "o" ∷ codes "o" ∷ []) refl (λ d says.
    let line = line_has_what_is_said (codes "d" ∷ codes "p" ∷ codes "o" ∷ codes "o" ∷ []) (codes "mode" ∷ codes "merges" ∷ codes "implicates" ∷ []) says.places says.values (said_word (codes "d") ∷ said_word (codes "p") ∷ said_word (codes "o") ∷ said_word (codes "o") ∷ []) refl says.line in
    subst (λ ps. AreApart (value_at (form verbs.Translate).places (map Some ps) (codes "OD")) (value_at (form verbs.Translate).places (map Some ps) (codes "OP"))) (sym line.0)
    says.are_of.are_asked.files.outputs_differ refl)
