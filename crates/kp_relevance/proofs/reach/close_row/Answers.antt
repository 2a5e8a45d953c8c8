use Rattle.std.proofs.Common.{◌∙◌, Bool, List, [], sym, ap, subst, set, length}
use Rattle.std.proofs.lemmas.List.{get_or_default}
use Rattle.kp_bits.specs.Rows.{both}
use Rattle.kp_relevance.specs.Tabled.{Grows, IsFollowed, ClosesRow}
use Rattle.kp_relevance.proofs.Alone.{followed_lone, still_lone}
use Rattle.kp_relevance.proofs.Searching.{row_closed}
use Rattle.kp_relevance.proofs.reach.close_row.Goals as goal

pub follow_all-requires-clause-followed : goal.follow_all-requires-clause-followed
follow_all-requires-clause-followed c =
    let rows = c.args.rows.now in
    let n = length rows in
    let begins = c.copy_from.ensures ∙ get_or_default rows c.args.j c.index-rows-j.result [] c.requires.row in
    let row = c.copy_from.new.self in
    let lone = c.args.spare.now.lone in
    let ends = c.and_with.ensures ∙ ap (λ xs. both xs row) c.copy_from-2.ensures in
    subst (λ (xs : List Bool). IsFollowed n rows row xs) (sym ends)
    (followed_lone n rows row lone (ap length begins ∙ c.requires.square.bits c.args.j c.requires.row) c.requires.spare.wide_lone c.requires.spare.alone)

closes : goal.returns-clause-closes
closes c =
    let rows = c.args.rows.now in
    let n = length rows in
    let j = c.args.j in
    let row = c.follow_all.new.row in
    let begins = c.copy_from.ensures ∙ get_or_default rows j c.index-rows-j.result [] c.requires.row in
    let grows = subst (λ (xs : List Bool). Grows n rows xs row) begins c.follow_all.ensures.grows in
    subst (λ (xs : List Bool). ClosesRow n j rows (set rows j xs)) (sym c.copy_from-3.ensures) (row_closed n j rows row c.requires.square c.requires.row grows c.follow_all.ensures.closed)

pub returns-clause-closes : goal.returns-clause-closes
returns-clause-closes c = closes c

pub returns-clause-spare : goal.returns-clause-spare
returns-clause-spare c =
    let rows = c.args.rows.now in
    record {
      alone = still_lone (length rows) c.args.j rows (set rows c.args.j c.copy_from-3.new.self) c.args.spare.now.lone c.requires.row c.requires.spare.alone (closes c);
      wide_lone = c.requires.spare.wide_lone;
      wide = c.follow_all.ensures.grows.wide;
      wide_done = c.follow_all.ensures.wide;
    }
