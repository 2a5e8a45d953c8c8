use Rattle.std.proofs.Common.{◌≡◌, drop}
use Rattle.clap.specs.Words.{app_of}
use Rattle.kp_words_options.specs.Texts.{texts}
use Rattle.kp_words_options.specs.Clap.{with_options}
use Rattle.kp_words_options.proofs.assign.add_options.Given as goal

abbrev pub invariant-loop-name : goal.invariant-loop-name
invariant-loop-name l = with_options (app_of l.command) (texts (drop l.name-index l.options)) ≡ with_options (app_of l.fn.start) (texts l.options)
