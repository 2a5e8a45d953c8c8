use Rattle.std.proofs.Common.{◌≡◌, Bool, true, false, not, if◌then◌else◌, List, ◌++◌, ◌∷◌, [], take, sym, ap, ◌∙◌, refl}
use Rattle.std.specs.List.{list_any}
use Rattle.kp_ground_flatten.specs.declared.shape.Shape.{Shape}
use Rattle.kp_ground_flatten.proofs.Shapes.{same_shape, known, new, shapes_more, shapes_before}
use Rattle.kp_ground_flatten.proofs.effects.Effects.note.Goals as goal

-- what an insertion tells of whether the shape was there
was_there : (r t : Bool) → r ≡ not t → r ≡ false → t ≡ true
was_there r true e h = refl
was_there r false e h = cc (e, h)

wasnt_there : (r t : Bool) → r ≡ not t → r ≡ true → t ≡ false
wasnt_there r true e h = cc (e, h)
wasnt_there r false e h = refl

-- the keys after an insertion of what wasn't there
one_more : (s : Shape) (ts us : List Shape) (t : Bool) → us ≡ (if t then ts else ts ++ s ∷ []) → t ≡ false → us ≡ ts ++ s ∷ []
one_more s ts us t e h = e ∙ ap (λ (b : Bool). if b then ts else ts ++ s ∷ []) h

pub returns-then-not-branch : goal.returns-then-not-branch
returns-then-not-branch c =
    let there : list_any (same_shape c.args.shape) c.self.inside.seen.keys ≡ true = was_there _ _ c.in_ok-insert.ensures.added c.if-not-branch.true in
    rw (← c.self.view_is) (sym (known c.args.shape c.args.effect c.requires c.self.inside.seen.keys c.self.inside.rows.items c.self.invariant there))

pub invariant_of-self-in_default : goal.invariant_of-self-in_default
invariant_of-self-in_default c =
    let absent : list_any (same_shape c.args.shape) c.self.inside.seen.keys ≡ false = wasnt_there _ _ c.in_ok-insert.ensures.added c.if-not-branch.false in
    let keys : c.insert.new.self.keys ≡ c.self.inside.seen.keys ++ c.args.shape ∷ [] = one_more c.args.shape c.self.inside.seen.keys c.insert.new.self.keys _ c.in_ok-insert.ensures.keys absent in
    let rows : c.push.new.self.items ≡ c.self.inside.rows.items ++ c.args.effect ∷ [] = c.in_default.ensures.items in
    rw (keys, rows) (shapes_more c.args.shape c.args.effect c.requires c.self.inside.seen.keys c.self.inside.rows.items c.self.invariant)

pub returns : goal.returns
returns c =
    let absent : list_any (same_shape c.args.shape) c.self.inside.seen.keys ≡ false = wasnt_there _ _ c.in_ok-insert.ensures.added c.if-not-branch.false in
    rw (← c.self.view_is) (c.in_default.ensures.items ∙ sym (new c.args.shape c.args.effect c.requires c.self.inside.seen.keys c.self.inside.rows.items c.self.invariant absent))

-- where the row has no room the shape is taken out again
pub invariant_of-self-in-Err : goal.invariant_of-self-in-Err
invariant_of-self-in-Err c =
    let absent : list_any (same_shape c.args.shape) c.self.inside.seen.keys ≡ false = wasnt_there _ _ c.in_ok-insert.ensures.added c.if-not-branch.false in
    let keys : c.insert.new.self.keys ≡ c.self.inside.seen.keys ++ c.args.shape ∷ [] = one_more c.args.shape c.self.inside.seen.keys c.insert.new.self.keys _ c.in_ok-insert.ensures.keys absent in
    let rows : c.push.new.self.items ≡ c.self.inside.rows.items = c.in-Err.ensures.items in
    let left : c.truncate.new.self.keys ≡ c.self.inside.seen.keys = c.truncate.ensures.keys ∙ (ap (take c.len-count.result) keys ∙ (ap (λ n. take n (c.self.inside.seen.keys ++ c.args.shape ∷ [])) c.len-count.ensures.len ∙ shapes_before c.self.inside.seen.keys (c.args.shape ∷ []))) in
    rw (left, rows) c.self.invariant
