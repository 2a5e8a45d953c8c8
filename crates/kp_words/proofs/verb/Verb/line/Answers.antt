use Rattle.std.proofs.Common.{◌≡◌, ◌∙◌, ap, sym, subst, length, List, ℕ, Option, IfOk, IfErr}
use Rattle.std.proofs.lemmas.List.{length-map}
use Rattle.kp_words_options.specs.Words.{Line}
use Rattle.kp_words_options.specs.Texts.{texts}
use Rattle.kp_words_options.specs.declared.stop.WordStop.TheVariants.{Usage}
use Rattle.kp_words.specs.Forms.{form}
use Rattle.kp_words.proofs.verb.Verb.line.Goals as goal

pub returns-clause-places : goal.returns-clause-places
returns-clause-places c =
    let count : length c.form-form.result.places.now ≡ length (form c.args.self).places = sym (length-map c.form-form.result.places.now (λ s. s.now)) ∙ ap length c.form-form.ensures.places in
    subst (λ n. IfOk c.line_of.result (λ g. length g.places.items ≡ n)) count c.line_of.ensures.places

pub returns-clause-err : goal.returns-clause-err
returns-clause-err c =
    let count : length c.form-form.result.places.now ≡ length (form c.args.self).places = sym (length-map c.form-form.result.places.now (λ s. s.now)) ∙ ap length c.form-form.ensures.places in
    subst (λ os. IfErr c.line_of.result (λ e. e ≡ Usage → (places : List (List ℕ)) (values : List (Option (List ℕ))) → length places ≡ length (form c.args.self).places → Line (texts c.args.words.now) places os values → ⊥)) c.form-form.ensures.options
    (subst (λ n. IfErr c.line_of.result (λ e. e ≡ Usage → (places : List (List ℕ)) (values : List (Option (List ℕ))) → length places ≡ n → Line (texts c.args.words.now) places (texts c.form-form.result.options.now) values → ⊥)) count c.line_of.ensures.err)
