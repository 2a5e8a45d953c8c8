use Rattle.std.proofs.Common.{◌∙◌, sym, subst, ap}
use Rattle.kp_words_options.specs.Texts.{texts}
use Rattle.kp_run.specs.Outcomes.{IsDue, usage}
use Rattle.kp_run.proofs.entry.due.Goals as goal

-- a word isn't UTF-8
pub returns-in_ok-usage_outcome-in-None-clause-due : goal.returns-in_ok-usage_outcome-in-None-clause-due
returns-in_ok-usage_outcome-in-None-clause-due g c =
    subst (IsDue c.args.words.now (g.S.Shelf.contents c.args.shelf.now)) (sym c.in_ok-usage_outcome-in-None.ensures) (usage (λ d is. (rw c.in-None.is at c.in_ok-texts.ensures) is.utf8))

-- all words are
pub returns-in-Some-clause-due : goal.returns-in-Some-clause-due
returns-in-Some-clause-due g c =
    let held = rw c.in-Some.is at c.in_ok-texts.ensures in
    c.due_of-outcome.ensures.due c.args.words.now (sym (ap texts c.as_slice.ensures.value ∙ held.0)) held.1

pub returns-in-Some-clause-only : goal.returns-in-Some-clause-only
returns-in-Some-clause-only g c =
    let held = rw c.in-Some.is at c.in_ok-texts.ensures in
    c.due_of-outcome.ensures.only c.args.words.now (sym (ap texts c.as_slice.ensures.value ∙ held.0)) held.1
