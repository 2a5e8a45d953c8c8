use Rattle.std.proofs.Common.{◌<◌, ◌∙◌, true, false, Bool, List, [], sym, ap, subst, get_or, set, length}
use Rattle.std.proofs.lemmas.List.{get_or_default}
use Rattle.std.proofs.lemmas.Option.{get_or_from_slice_get}
use Rattle.kp_bits.specs.Rows.{either}
use Rattle.kp_relevance.specs.Tabled.{Grows, IsFollowed, unset}
use Rattle.kp_relevance.proofs.Searching.{grows_by, followed_on, followed_past, fewer_on, fewer_past}
use Rattle.kp_relevance.proofs.reach.follow.Goals as goal

pub returns-then-get-clause-grows : goal.returns-then-get-clause-grows
returns-then-get-clause-grows c =
    let rows = c.args.rows.now in
    let k = c.args.k in
    let row = c.args.row.now in
    let e = c.index-rows-k.is ∙ get_or_default rows k c.index-rows-k.result [] c.requires.next.below in
    subst (λ (xs : List Bool). Grows (length rows) rows row xs) (sym (c.or_with.ensures ∙ ap (λ xs. either row xs) e))
    (grows_by (length rows) rows row c.args.done.now k c.requires.square c.requires.followed c.requires.next)

pub returns-then-get-clause-followed : goal.returns-then-get-clause-followed
returns-then-get-clause-followed c =
    let rows = c.args.rows.now in
    let k = c.args.k in
    let row = c.args.row.now in
    let done = c.args.done.now in
    let found = c.index-rows-k.result in
    let e = c.index-rows-k.is ∙ get_or_default rows k found [] c.requires.next.below in
    let ends = c.or_with-then-get.ensures ∙ (ap (λ xs. either xs found) c.set.ensures ∙ ap (λ xs. either (set done k true) xs) e) in
    let bit = get_or_from_slice_get c.args.closed.now k c.get.result false c.get.ensures ∙ c.if-get.true in
    subst (λ (xs : List Bool). IsFollowed (length rows) rows xs c.or_with-then-get.new.self) (sym (c.or_with.ensures ∙ ap (λ xs. either row xs) e))
    (subst (λ (xs : List Bool). IsFollowed (length rows) rows (either row (get_or rows k [])) xs) (sym ends)
    (followed_past (length rows) rows row done k c.requires.square c.requires.followed c.requires.next (c.requires.closed k c.requires.next.below bit)))

pub returns-then-get-clause-fewer : goal.returns-then-get-clause-fewer
returns-then-get-clause-fewer c =
    let rows = c.args.rows.now in
    let k = c.args.k in
    let done = c.args.done.now in
    let found = c.index-rows-k.result in
    let e = c.index-rows-k.is ∙ get_or_default rows k found [] c.requires.next.below in
    let ends = c.or_with-then-get.ensures ∙ (ap (λ xs. either xs found) c.set.ensures ∙ ap (λ xs. either (set done k true) xs) e) in
    subst (λ (xs : List Bool). unset xs < unset done) (sym ends) (fewer_past (length rows) rows c.args.row.now done k c.requires.square c.requires.followed c.requires.next)

pub returns-else-get-clause-grows : goal.returns-else-get-clause-grows
returns-else-get-clause-grows c =
    let rows = c.args.rows.now in
    let k = c.args.k in
    let row = c.args.row.now in
    let e = c.index-rows-k.is ∙ get_or_default rows k c.index-rows-k.result [] c.requires.next.below in
    subst (λ (xs : List Bool). Grows (length rows) rows row xs) (sym (c.or_with.ensures ∙ ap (λ xs. either row xs) e))
    (grows_by (length rows) rows row c.args.done.now k c.requires.square c.requires.followed c.requires.next)

pub returns-else-get-clause-followed : goal.returns-else-get-clause-followed
returns-else-get-clause-followed c =
    let rows = c.args.rows.now in
    let k = c.args.k in
    let row = c.args.row.now in
    let e = c.index-rows-k.is ∙ get_or_default rows k c.index-rows-k.result [] c.requires.next.below in
    subst (λ (xs : List Bool). IsFollowed (length rows) rows xs c.set.new.self) (sym (c.or_with.ensures ∙ ap (λ xs. either row xs) e))
    (subst (λ (xs : List Bool). IsFollowed (length rows) rows (either row (get_or rows k [])) xs) (sym c.set.ensures)
    (followed_on (length rows) rows row c.args.done.now k c.requires.square c.requires.followed c.requires.next))

pub returns-else-get-clause-fewer : goal.returns-else-get-clause-fewer
returns-else-get-clause-fewer c =
    let rows = c.args.rows.now in
    let done = c.args.done.now in
    subst (λ (xs : List Bool). unset xs < unset done) (sym c.set.ensures) (fewer_on (length rows) rows c.args.row.now done c.args.k c.requires.square c.requires.followed c.requires.next)
