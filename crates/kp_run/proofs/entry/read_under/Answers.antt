use Rattle.std.proofs.Common.{◌∙◌, ◌++◌, ◌∷◌, [], option_map, sym, ap, subst}
use Rattle.kp_words.specs.Command.{file_under}
use Rattle.kp_run.specs.CommandParts.{AreReadUnder}
use Rattle.kp_run.proofs.Reading.{content_of, read_more, read_as_before, fails_alone}
use Rattle.kp_run.proofs.entry.read_under.Goals as goal

-- the file is read
pub returns-in-Ok-clause-read : goal.returns-in-Ok-clause-read
returns-in-Ok-clause-read g c names was =
    let held = g.S.Shelf.contents c.args.shelf.now in
    let file = c.in-Some.file.now in
    let t = content_of held file c.in-Ok.got c.in-Ok.ensures.got c.in-Ok.ensures.within in
    subst (AreReadUnder held (names ++ c.args.name.now ∷ []) c.args.asked.now) (sym c.set.ensures)
    (read_more held c.args.asked.now names c.args.name.now c.args.inputs.now file t.0 c.in-Ok.got (sym c.file.ensures ∙ ap (option_map (λ f. f.now)) c.in-Some.is) t.1 t.2 was)

-- the get failed
pub returns-in-Err-clause-only : goal.returns-in-Err-clause-only
returns-in-Err-clause-only g c =
    fails_alone _ _ _ (file_under c.args.asked.now) c.args.name.now c.in-Some.file.now c.in-Err.stop c.get.result (sym c.file.ensures ∙ ap (option_map (λ f. f.now)) c.in-Some.is) c.in-Err.is c.get.ensures.faults c.get.ensures.contents c.get.ensures.put_faults

-- there is no file
pub returns-in-None-clause-read : goal.returns-in-None-clause-read
returns-in-None-clause-read g c names was =
    read_as_before (g.S.Shelf.contents c.args.shelf.now) c.args.asked.now names c.args.name.now c.args.inputs.now (sym c.file.ensures ∙ ap (option_map (λ f. f.now)) c.in-None.is) was
