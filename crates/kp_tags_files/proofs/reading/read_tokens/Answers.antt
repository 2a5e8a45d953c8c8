use Rattle.std.proofs.Common.{◌≡◌, map}
use Rattle.kp_tree_cursor.specs.Lexemes.{lexed}
use Rattle.kp_tags_files.specs.Parts.{numbers_of}
use Rattle.kp_tags_files.proofs.WholeFiles.{of_tokens}
use Rattle.kp_tags_files.proofs.reading.read_tokens.Goals as goal

pub returns : goal.returns
returns c =
    let read : c.new.result ≡ map (lexed c.in_ok-lower.lower.items) c.args.tokens.now = rw (← c.deref.ensures.value) c.new.ensures in
    of_tokens (numbers_of c.args.table.now) c.args.bytes.now c.in_ok-lower.lower.items c.args.tokens.now c.new.result c.in_ok-lower.ensures read c.merges-merges.result c.merges-merges.ensures
