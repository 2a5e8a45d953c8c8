use Rattle.std.proofs.Common.{◌≡◌, true, ◌∙◌, ℕ, List, [], ◌∷◌, Err, refl, sym, subst}
use Rattle.std.specs.List.{list_all}
use Rattle.kp_base.specs.declared.refused.Part.TheVariants as parts
use Rattle.kp_base.specs.declared.refused.Refused.TheVariants as refusals
use Rattle.kp_base.specs.Files.{most_bytes}
use Rattle.kp_primes.specs.Held.{formula}
use Rattle.kp_tags_files.specs.MergesFiles.{IsMergesOf, AnswersMergesFile}
use Rattle.kp_tags.specs.MergeTables.{has_tags_of_atoms}
use Rattle.kp_run_messages.specs.Refusals.{nothing}
use Rattle.kp_run_prepare.proofs.Public.{whole_content_is_read}
use Rattle.kp_words.specs.Asked.{of_file}
use Rattle.kp_run_inputs.specs.SourceTables.{long_file}
use Rattle.kp_run_inputs.proofs.FileMerges.{tags_of_atoms}
use Rattle.kp_run_inputs.proofs.Lengths.{over_length, short_length}
use Rattle.kp_run_inputs.proofs.Ended.{ends_at_table, of_merges, no_file_table}
use Rattle.kp_run_inputs.proofs.tables.table_with.Goals as goal

-- there are more bytes than may be
pub returns-then-merges : goal.returns-then-merges
returns-then-merges c name text front =
    let x = c.args.prepared.now in
    ends_at_table x.ground (formula x.primes) (of_file name) (text ∷ []) nothing (refusals.TooLong parts.Merges)
    (long_file name text (over_length most_bytes text c.args.merges.more refl front.1 c.if-merges.true)) c.ended_by.result c.ended_by.ensures

pub table_for-requires : goal.table_for-requires
table_for-requires c = record { of_atoms = subst (λ n. list_all (has_tags_of_atoms n) c.in-Ok.merges ≡ true) c.args.prepared.now.atoms (tags_of_atoms c.args.prepared.now.ground.atoms c.slice.result.now c.in-Ok.merges c.in-Ok.ensures) }

-- the text has merges
pub returns-in-Ok : goal.returns-in-Ok
returns-in-Ok c name text front =
    let x = c.args.prepared.now in
    let its = c.slice.ensures ∙ whole_content_is_read most_bytes text c.args.merges.bytes c.args.merges.more front.0 front.1 c.if-merges.false in
    of_merges x.ground x.primes.atoms (formula x.primes) name text c.in-Ok.merges c.table_for.result (sym x.atoms)
    (short_length most_bytes text c.args.merges.more refl front.1 c.if-merges.false)
    (subst (λ (bytes : List ℕ). IsMergesOf x.ground.atoms bytes c.in-Ok.merges) its c.in-Ok.ensures) c.table_for.ensures

-- it has none
pub returns : goal.returns
returns c name text front =
    let x = c.args.prepared.now in
    let its = c.slice.ensures ∙ whole_content_is_read most_bytes text c.args.merges.bytes c.args.merges.more front.0 front.1 c.if-merges.false in
    no_file_table x.ground (formula x.primes) name text c.in-Err.stop (short_length most_bytes text c.args.merges.more refl front.1 c.if-merges.false)
    (subst (λ (bytes : List ℕ). AnswersMergesFile x.ground.atoms bytes (Err c.in-Err.stop)) its c.in-Err.ensures) c.ended_by-in-Err.result c.ended_by-in-Err.ensures
