use Rattle.std.proofs.Common.{length, ltb-true, ◌∙◌, sym}
use Rattle.kp_ground.proofs.NamesByNumber.{text_there, no_text}
use Rattle.kp_ground.proofs.names.name.Goals as goal

pub returns-in_ok-copy-in-Some : goal.returns-in_ok-copy-in-Some
returns-in_ok-copy-in-Some c =
    let found = c.in-Some.ensures.lookup in
    c.in_ok-copy-in-Some.ensures ∙ sym (text_there c.args.names.now c.args.number c.in-Some.text.now (ltb-true c.args.number (length c.args.names.now) (sym found.0)) found.1)

pub returns-in-None : goal.returns-in-None
returns-in-None c = c.new.ensures ∙ sym (no_text c.args.names.now c.args.number c.in-None.ensures.lookup.3)
