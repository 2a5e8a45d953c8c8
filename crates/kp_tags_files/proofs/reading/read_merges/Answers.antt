use Rattle.std.proofs.lemmas.Result.{err_from_is_err_and}
use Rattle.kp_tags_files.proofs.WholeFiles.{uncut}
use Rattle.kp_tags_files.proofs.reading.read_merges.Goals as goal

-- a byte begins no token
pub returns-in_err-tokens : goal.returns-in_err-tokens
returns-in_err-tokens c =
    let p = err_from_is_err_and c.from_residual.result c.from_residual.ensures.1 in
    rw (p.1, p.2) (uncut c.args.ground.now.atoms c.args.bytes.now c.in_err-tokens.field-0.0 c.in_err-tokens.ensures.right)
