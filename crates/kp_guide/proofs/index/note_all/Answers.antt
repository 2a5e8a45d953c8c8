use Rattle.std.proofs.Common.{◌<◌, ◌∷◌, [], length, slice_index_or, sym, subst}
use Rattle.std.proofs.lemmas.Option.{slice_get-get_or}
use Rattle.kp_guide.specs.Waiting.{Notes}
use Rattle.kp_guide.proofs.Noting.{notes_on, notes_one}
use Rattle.kp_guide.proofs.Waiting.{below_at}
use Rattle.kp_guide.proofs.index.note_all.Goals as goal

-- the number is put to one more
pub loop-fact-preserved : goal.loop-fact-preserved
loop-fact-preserved c =
    let facts = c.args.facts.now in
    let i = c.loop-fact.fact-index in
    let f = slice_index_or facts i 0 in
    let mid = c.loop-fact.users in
    let inside : f < length mid = subst (λ n. f < n) (sym c.loop-fact.invariant.long) (below_at (length c.args.users.now) facts i f c.requires (slice_get-get_or facts i 0 c.loop-fact-test.true)) in
    notes_on facts i c.args.number c.args.users.now mid c.put.new.rows c.loop-fact-test.true c.loop-fact.invariant
    (subst (Notes (f ∷ []) c.args.number mid) (sym c.in_ok-put.ensures) (notes_one mid f c.args.number inside))
