use Rattle.std.proofs.Common.{◌∙◌, ap}
use Rattle.std.proofs.lemmas.Result.{IfOk-weaker}
use Rattle.clap.specs.Words.{App}
use Rattle.kp_words_options.specs.Texts.{texts}
use Rattle.kp_words_options.specs.Clap.{with_options, with_places}
use Rattle.kp_words_options.proofs.Giving.{made_is}
use Rattle.kp_words_options.proofs.assign.made.Goals as goal

pub returns : goal.returns
returns c =
    let placed = c.in_ok-placed.ensures ∙ ap (λ (a : App). with_places a (texts c.args.ids.now)) c.bare.ensures in
    IfOk-weaker c.add_options.result _ _ (λ m h. h ∙ (ap (λ (a : App). with_options a (texts c.args.options.now)) placed ∙ made_is c.args.name.now (texts c.args.ids.now) (texts c.args.options.now))) c.add_options.ensures
