use Rattle.kp_tags_files.proofs.WholeFiles.{read_all, refused}
use Rattle.kp_tags_files.proofs.reading.read_cut.Goals as goal

-- the tokens are merges
pub returns-in-Ok : goal.returns-in-Ok
returns-in-Ok c = read_all c.args.ground.now.atoms c.args.bytes.now c.args.tokens.now c.in-Ok.merges c.requires.cut c.in-Ok.ensures

-- a token is refused
pub returns-in-Err : goal.returns-in-Err
returns-in-Err c = refused c.args.ground.now.atoms c.args.bytes.now c.args.tokens.now c.in-Err.halt c.told.result c.requires.cut c.in-Err.ensures c.told.ensures
