use Rattle.std.proofs.Common.{◌≡◌, ◌∙◌, map, ap, subst, sym}
use Rattle.kp_words_options.specs.Texts.{texts}
use Rattle.kp_words.specs.Command.{AreUtf8, AreWords, IsCommand}
use Rattle.kp_words.proofs.Calls.{err_is, when_some}
use Rattle.kp_words.proofs.entry.command.Goals as goal

-- the texts ask for nothing
pub returns-in_err-asked-clause-usage : goal.returns-in_err-asked-clause-usage
returns-in_err-asked-clause-usage c e d is =
    let held = when_some c.in_ok-found.field-0 c.in-Some.found _ (λ ts. (texts ts.items ≡ map (λ w. w.items) c.args.words.now) × AreUtf8 (map (λ w. w.items) c.args.words.now)) c.in_ok-found.ensures c.in-Some.is in
    let same : texts c.as_slice.result.now ≡ map (λ w. w.items) c.args.words.now = ap texts c.as_slice.ensures.value ∙ held.0 in
    c.in_err-asked.ensures.err (err_is c.from_residual-in_err-asked.result c.in_err-asked.field-0.0 _ c.from_residual-in_err-asked.ensures.1 e) d
    (subst (λ ws. AreWords ws d) (sym same) is.are_words)

pub to_owned-requires : goal.to_owned-requires
to_owned-requires c = let behind = c.in_ok-asked.ensures.ok.behind in (behind.places, behind.values, behind.are_of)

-- they ask for this
pub returns-clause-ok : goal.returns-clause-ok
returns-clause-ok c =
    let held = when_some c.in_ok-found.field-0 c.in-Some.found _ (λ ts. (texts ts.items ≡ map (λ w. w.items) c.args.words.now) × AreUtf8 (map (λ w. w.items) c.args.words.now)) c.in_ok-found.ensures c.in-Some.is in
    let same : texts c.as_slice.result.now ≡ map (λ w. w.items) c.args.words.now = ap texts c.as_slice.ensures.value ∙ held.0 in
    subst (IsCommand c.args.words.now) (sym c.in_ok-to_owned.ensures)
    (record { utf8 = held.1; are_words = subst (λ ws. AreWords ws c.in_ok-asked.asked) same c.in_ok-asked.ensures.ok })
