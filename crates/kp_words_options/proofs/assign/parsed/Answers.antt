use Rattle.std.proofs.Common.{◌∙◌, ap}
use Rattle.clap.specs.Words.{App}
use Rattle.clap.specs.Takes.{takes}
use Rattle.kp_words_options.specs.Texts.{texts}
use Rattle.kp_words_options.proofs.assign.parsed.Goals as goal

-- words that the command takes fail for want of memory alone
pub unreachable-requires : goal.unreachable-requires
unreachable-requires c =
    let kind = c.in-Err.ensures.passes (ap (λ (a : App). takes a (texts c.args.words.now)) c.in_ok-command.ensures ∙ c.requires) in
    absurd (cc (c.is_memory.ensures.1 kind, c.if-is_memory.false))
