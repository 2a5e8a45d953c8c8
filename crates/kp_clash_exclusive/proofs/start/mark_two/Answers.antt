use Rattle.std.proofs.Common.{◌≡◌, ◌&&◌, true, not, [], ◌∷◌, sym, ap₂, ◌∙◌}
use Rattle.std.proofs.lemmas.Bool.{and_parts, false≢true, not-true}
use Rattle.kp_clash_exclusive.specs.Starting.{denies, pair_of}
use Rattle.kp_clash_exclusive.proofs.Starting.{marked_none, marked_alike, two_deny, deny_two}
use Rattle.kp_clash_exclusive.proofs.start.mark_two.Goals as goal

pub returns-then-are_negative : goal.returns-then-are_negative
returns-then-are_negative c =
    let both = and_parts (not c.args.one.positive) (not c.args.other.positive) (sym c.are_negative.ensures ∙ c.if-are_negative.true) in
    marked_alike c.args.atoms (pair_of c.args.one.atom.0 c.args.other.atom.0) (denies (c.args.one ∷ c.args.other ∷ [])) c.args.table.now c.mark_both.new.table (two_deny c.args.one c.args.other (not-true c.args.one.positive both.0) (not-true c.args.other.positive both.1)) (λ r s _ h _ _. (deny_two c.args.one c.args.other c.requires.in_order r s h).2) c.mark_both.ensures

pub returns-else-are_negative : goal.returns-else-are_negative
returns-else-are_negative c = marked_none c.args.atoms (denies (c.args.one ∷ c.args.other ∷ [])) c.args.table.now c.requires.square (λ r s _ h.
    let x = deny_two c.args.one c.args.other c.requires.in_order r s h in
    let negative : (not c.args.one.positive && not c.args.other.positive) ≡ true = ap₂ (λ a b. not a && not b) x.0 x.1 in
    false≢true (sym c.if-are_negative.false ∙ (c.are_negative.ensures ∙ negative)))
