use Rattle.std.proofs.Common.{Err, sym, subst}
use Rattle.kp_words_options.specs.Texts.{texts}
use Rattle.kp_words.specs.Command.{AreWords, IsCommand}
use Rattle.kp_words.proofs.Public.{bench_is_sized}
use Rattle.kp_run.specs.Outcomes.{IsDue, usage}
use Rattle.kp_run.proofs.Reading.{due_of}
use Rattle.kp_run.proofs.entry.due_of.Goals as goal

pub come_to-requires : goal.come_to-requires
come_to-requires g c bench = bench_is_sized (texts c.args.texts.now) c.in-Ok.asked c.in-Ok.ensures.ok bench

-- the texts ask for a command
pub returns-in-Ok-clause-due : goal.returns-in-Ok-clause-due
returns-in-Ok-clause-due g c words same utf8 =
    let is : IsCommand words c.in-Ok.asked = record { utf8 = utf8; are_words = subst (λ ws. AreWords ws c.in-Ok.asked) (sym same) c.in-Ok.ensures.ok } in
    due_of words (g.S.Shelf.contents c.args.shelf.now) c.in-Ok.asked c.come_to.result is c.come_to.ensures.comes_to

pub returns-in-Ok-clause-only : goal.returns-in-Ok-clause-only
returns-in-Ok-clause-only g c words same utf8 =
    let is : IsCommand words c.in-Ok.asked = record { utf8 = utf8; are_words = subst (λ ws. AreWords ws c.in-Ok.asked) (sym same) c.in-Ok.ensures.ok } in
    let only = c.come_to.ensures.only in
    record { failed = λ failed. (c.in-Ok.asked, is, only.failed failed); get_faults = only.get_faults; contents = only.contents; put_faults = only.put_faults }

-- they ask for none
pub returns-in_ok-usage_outcome-in-Err-Usage-clause-due : goal.returns-in_ok-usage_outcome-in-Err-Usage-clause-due
returns-in_ok-usage_outcome-in-Err-Usage-clause-due g c words same utf8 =
    subst (IsDue words (g.S.Shelf.contents c.args.shelf.now)) (sym c.in_ok-usage_outcome-in-Err-Usage.ensures)
    (usage (λ d is. c.in-Err-Usage.ensures.err c.in-Err-Usage.field-0-is d (subst (λ ws. AreWords ws d) same is.are_words)))
