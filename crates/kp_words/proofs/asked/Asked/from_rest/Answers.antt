use Rattle.std.proofs.Common.{◌≡◌, MatchOption, subst}
use Rattle.kp_words_options.specs.Texts.{texts, places_of, values_of}
use Rattle.kp_words_options.specs.declared.stop.WordStop.TheVariants.{Usage}
use Rattle.kp_words.specs.Asked.{Asked}
use Rattle.kp_words.specs.Command.{AreOf, Behind}
use Rattle.kp_words.proofs.Calls.{err_up, no_line, of_line, when_some}
use Rattle.kp_words.proofs.asked.Asked.from_rest.Goals as goal

-- the words are no line
pub returns-in_err-line-clause-err : goal.returns-in_err-line-clause-err
returns-in_err-line-clause-err c =
    err_up c.from_residual.result c.in_err-line.field-0.0 (λ e. e ≡ Usage → (d : Asked) → Behind c.args.verb (texts c.args.words.now) d → ⊥) c.from_residual.ensures.1
    (λ is d. no_line c.args.verb (texts c.args.words.now) (c.in_err-line.ensures.err is) d)

-- or one that asks for nothing
pub returns-in-None-clause-err : goal.returns-in-None-clause-err
returns-in-None-clause-err c _ d behind =
    let none = subst (λ o. MatchOption o ((x : Asked) → AreOf c.args.verb (places_of c.in_ok-line.line) (values_of c.in_ok-line.line) x → ⊥) (λ x. (x.verb ≡ c.args.verb) × AreOf c.args.verb (places_of c.in_ok-line.line) (values_of c.in_ok-line.line) x)) c.in-None.is c.from_line-found.ensures in
    none d (of_line c.args.verb (texts c.args.words.now) (places_of c.in_ok-line.line) (values_of c.in_ok-line.line) d c.in_ok-line.ensures.ok behind)

-- what is asked for
pub returns-in-Some-clause-ok : goal.returns-in-Some-clause-ok
returns-in-Some-clause-ok c =
    let is = when_some c.from_line-found.result c.in-Some.asked _ (λ x. (x.verb ≡ c.args.verb) × AreOf c.args.verb (places_of c.in_ok-line.line) (values_of c.in_ok-line.line) x) c.from_line-found.ensures c.in-Some.is in
    (is.0, record { places = places_of c.in_ok-line.line; values = values_of c.in_ok-line.line; line = c.in_ok-line.ensures.ok; are_of = is.1 })
