use Rattle.std.proofs.Common.{◌≡◌, drop}
use Rattle.clap.specs.Words.{app_of}
use Rattle.kp_words_options.specs.Texts.{texts}
use Rattle.kp_words_options.specs.Clap.{with_places}
use Rattle.kp_words_options.proofs.assign.add_places.Given as goal

abbrev pub invariant-loop-id : goal.invariant-loop-id
invariant-loop-id l = with_places (app_of l.command) (texts (drop l.id-index l.ids)) ≡ with_places (app_of l.fn.start) (texts l.ids)
