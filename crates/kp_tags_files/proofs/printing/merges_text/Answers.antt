use Rattle.std.proofs.Common.{◌≡◌, rules, sym, subst, List, ℕ}
use Rattle.kp_tags_files.specs.MergesFiles.{IsMergesOf}
use Rattle.kp_tags_files.specs.Printed.{merges_of, merges_text}
use Rattle.kp_tags_files.proofs.ReadsBack.{written_merges_read}
use Rattle.kp_tags_files.proofs.printing.merges_text.Goals as goal

-- the text is what is written, and that reads so
pub returns-clause-reads : goal.returns-clause-reads
returns-clause-reads c =
    let is : c.from_vec.result ≡ merges_text c.args.ground.now.atoms (merges_of c.args.table.now) = search rules in
    λ h. subst (λ (text : List ℕ). IsMergesOf c.args.ground.now.atoms text (merges_of c.args.table.now)) (sym is) (written_merges_read c.args.ground.now.atoms (merges_of c.args.table.now) h)
