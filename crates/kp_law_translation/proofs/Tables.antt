-- Tables for the ground problem of two texts.
use Rattle.std.proofs.Common.{[], length, refl, arith}
use Rattle.std.proofs.lemmas.Option.{slice_get_within}
use Rattle.kp_base.proofs.Lits.{has-member}
use Rattle.kp_base.proofs.Each.{each_from, each_member}
use Rattle.kp_base.proofs.Closures.{closure_over_first_atoms}
use Rattle.kp_write.specs.Grounds.{IsOfAtom}
use Rattle.kp_law_tagged_machine.proofs.Public.{one_tag_is_a_table}
use Rattle.kp_law_ktask.specs.Writable.{IsRowOn, IsTag, IsMergeOn}
use Rattle.kp_law_translation.specs.OfTrees.{ground_of, initial_of, start_of}
use Rattle.kp_law_translation.specs.Tables.{TablesCanBeWritten, EmptyTagIsTable}
use Rattle.kp_law_translation.proofs.Starts.{formulas_over_atoms}
use Rattle.kp_law_translation.proofs.Written.{grounds_written}

pub tables_written : TablesCanBeWritten
tables_written domain_text problem_text x table h =
    let atoms = (ground_of x.domain x.problem).atoms in
    let tags = length table.tags in
    let first = h.right.first in
    record {
      ground = grounds_written domain_text problem_text x;
      some_tag = slice_get_within table.tags 0 first.0 first.1;
      tags_fit = h.tags_fit;
      rows = each_from (IsRowOn atoms) table.tags (λ row m. record { closure = each_from (IsOfAtom atoms) row.closure (λ l i. (h.right.closures row m).of_atoms l (has-member row.closure l i)) });
      merges = each_from (IsMergeOn atoms tags) table.merges (λ x m. record { target = each_member (λ y. IsOfAtom atoms y.target) table.merges x h.targets m; tags_are = each_from (IsTag tags) x.tags (λ t i. record { below = h.right.tags x t m i }) });
      merges_fit = h.merges_fit;
    }

pub empty_tag_is_table : EmptyTagIsTable
empty_tag_is_table d p =
    let closed = (closure_over_first_atoms (initial_of d p) (length (ground_of d p).atoms) (formulas_over_atoms d p) [] refl).closure in
    let table = one_tag_is_a_table (ground_of d p) (initial_of d p) (start_of d p) closed in
    record { right = table.0; valid = table.1; targets = tt; tags_fit = omega arith; merges_fit = omega arith }
