use Rattle.std.proofs.Common.{◌≡◌, ◌∷◌, ◌∙◌, sym, ap}
use Rattle.std.specs.List.{IsFirstAndRest}
use Rattle.std.proofs.lemmas.Result.{IfErr-weaker}
use Rattle.kp_words_options.specs.Texts.{texts}
use Rattle.kp_words.specs.Forms.{verb_named}
use Rattle.kp_words.proofs.Calls.{when_some}
use Rattle.kp_words.proofs.Verbs.{verb_word, verb_named_is, behind_it}
use Rattle.kp_words.proofs.entry.asked_by.Goals as goal

-- the words behind that of the command ask for nothing
pub returns-clause-err : goal.returns-clause-err
returns-clause-err c =
    let v = c.in-Some-verb_of.verb in
    let word = c.in-Some.word.now.now in
    let rest = texts c.in-Some.rest.now in
    let first = when_some c.split_first.result (c.in-Some.word, c.in-Some.rest) _ (λ p. IsFirstAndRest c.args.words.now p.0.now p.1.now) c.split_first.ensures.cases c.in-Some.is in
    let named = when_some (verb_named word) v _ (λ x. word ≡ verb_word x) (verb_named_is word) (sym c.verb_of.ensures ∙ c.in-Some-verb_of.is) in
    IfErr-weaker c.from_rest.result _ _ (λ e never is d are. never is d (behind_it v rest (texts c.args.words.now) d (ap texts first.0 ∙ ap (λ w. w ∷ rest) named) are).1) c.from_rest.ensures.err
