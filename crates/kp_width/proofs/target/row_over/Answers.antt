use Rattle.std.proofs.Common.{◌∙◌, ◌+◌, List, refl, sym, ap, subst}
use Rattle.kp_base.specs.declared.lit.Lit.{Lit}
use Rattle.kp_base.specs.Covering.{AreTagsOfClauses}
use Rattle.kp_primes.specs.Held.{formula}
use Rattle.kp_cover.specs.Covering.{pick}
use Rattle.kp_cover.specs.Tested.{tells_cover}
use Rattle.kp_width.specs.Rows.{HasLeastCover}
use Rattle.kp_width.proofs.Searched.{least_is, too_many, are_passed}
use Rattle.kp_width.proofs.target.row_over.Goals as goal

-- a set covers
pub returns-in_ok-row-in-Found : goal.returns-in_ok-row-in-Found
returns-in_ok-row-in-Found c =
    let h = c.args.primes.now in
    let cs = c.args.clauses.now in
    let row = c.in_ok-row-in-Found.row in
    let places = c.in-Found.places.items in
    let tells = c.covers_are_told.ensures h c.clauses-whole.ensures.whole cs in
    let set = c.in_ok-row-in-Found.ensures.clauses_there ∙ ap (pick cs) c.deref.ensures.value in
    let tags = subst (λ (z : List (List Lit)). AreTagsOfClauses (formula h) z row.tags) set c.in_ok-row-in-Found.ensures.its_tags in (
      c.in_ok-row-in-Found.ensures.same_target,
      subst (λ (z : List (List Lit)). HasLeastCover c.args.limit c.args.bound (formula h) cs z row.tags) (sym set)
          (least_is (formula h) cs (tells_cover h cs) tells c.args.limit c.args.bound c.in-Found.size places row.tags (rw c.in-Found.is at c.in_ok-places.ensures) tags),
    )

-- a size has too many sets
pub returns-in-TooMany : goal.returns-in-TooMany
returns-in-TooMany c =
    let h = c.args.primes.now in
    let cs = c.args.clauses.now in
    let tells = c.covers_are_told.ensures h c.clauses-whole.ensures.whole cs in
    (c.in-TooMany.size, refl, too_many (formula h) cs (tells_cover h cs) tells c.args.limit c.args.bound c.in-TooMany.size (rw c.in-TooMany.is at c.in_ok-places.ensures))

-- no set covers
pub returns-in-Nothing : goal.returns-in-Nothing
returns-in-Nothing c =
    let h = c.args.primes.now in
    let cs = c.args.clauses.now in
    let tells = c.covers_are_told.ensures h c.clauses-whole.ensures.whole cs in
    are_passed (formula h) cs (tells_cover h cs) tells c.args.limit (c.args.bound + 1) (rw c.in-Nothing.is at c.in_ok-places.ensures)
