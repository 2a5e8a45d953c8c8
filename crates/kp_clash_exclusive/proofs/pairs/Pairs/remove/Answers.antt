use Rattle.std.proofs.Common.{◌≡◌, ◌*◌, ℕ, Bool, false, List, length, set, sym, ap, ap₂, subst, ◌∙◌}
use Rattle.std.proofs.lemmas.List.{length-set}
use Rattle.kp_clash_exclusive.specs.Paired.{words_of, marked, IsSquare}
use Rattle.kp_clash_exclusive.specs.Removed.{IsWithout}
use Rattle.kp_clash_exclusive.proofs.Marked.{pair_in, place_below, inside}
use Rattle.kp_clash_exclusive.proofs.Written.{both_set, cleared}
use Rattle.kp_clash_exclusive.proofs.pairs.Pairs.remove.Goals as goal

pub place-requires-clause-first : goal.place-requires-clause-first
place-requires-clause-first c = (pair_in c.self.inside.atoms c.self.inside.table c.self.invariant c.args.p.0 c.args.q.0 (rw c.self.view_is c.requires)).1

pub place-requires-clause-second : goal.place-requires-clause-second
place-requires-clause-second c = (pair_in c.self.inside.atoms c.self.inside.table c.self.invariant c.args.p.0 c.args.q.0 (rw c.self.view_is c.requires)).2

pub clear-requires : goal.clear-requires
clear-requires c =
    let x = pair_in c.self.inside.atoms c.self.inside.table c.self.invariant c.args.p.0 c.args.q.0 (rw c.self.view_is c.requires) in
    rw (c.place.ensures, c.self.invariant.square) (place_below c.self.inside.atoms c.args.p.0 c.args.q.0 x.1 (inside c.self.inside.atoms c.args.q.0 x.2))

pub place-requires-2-clause-first : goal.place-requires-2-clause-first
place-requires-2-clause-first c = (pair_in c.self.inside.atoms c.self.inside.table c.self.invariant c.args.p.0 c.args.q.0 (rw c.self.view_is c.requires)).2

pub place-requires-2-clause-second : goal.place-requires-2-clause-second
place-requires-2-clause-second c = (pair_in c.self.inside.atoms c.self.inside.table c.self.invariant c.args.p.0 c.args.q.0 (rw c.self.view_is c.requires)).1

pub clear-requires-2 : goal.clear-requires-2
clear-requires-2 c =
    let x = pair_in c.self.inside.atoms c.self.inside.table c.self.invariant c.args.p.0 c.args.q.0 (rw c.self.view_is c.requires) in
    let size : length c.clear.new.self ≡ c.self.inside.atoms * (words_of c.self.inside.atoms * 64) = ap length c.clear.ensures ∙ (length-set c.self.inside.table c.place.result false ∙ c.self.invariant.square) in
    rw (c.place-2.ensures, size) (place_below c.self.inside.atoms c.args.q.0 c.args.p.0 x.2 (inside c.self.inside.atoms c.args.p.0 x.1))

pub invariant_of-self : goal.invariant_of-self
invariant_of-self c =
    let table : c.clear-2.new.self ≡ both_set c.self.inside.atoms c.self.inside.table c.args.p.0 c.args.q.0 false = c.clear-2.ensures ∙ ap₂ (λ t i. set t i false) (c.clear.ensures ∙ ap (λ i. set c.self.inside.table i false) c.place.ensures) c.place-2.ensures in
    subst (λ (t : List Bool). IsSquare c.self.inside.atoms t) (sym table) (cleared c.self.inside.atoms c.self.inside.table c.self.invariant c.args.p.0 c.args.q.0 (rw c.self.view_is c.requires)).0

pub returns : goal.returns
returns c =
    let table : c.clear-2.new.self ≡ both_set c.self.inside.atoms c.self.inside.table c.args.p.0 c.args.q.0 false = c.clear-2.ensures ∙ ap₂ (λ t i. set t i false) (c.clear.ensures ∙ ap (λ i. set c.self.inside.table i false) c.place.ensures) c.place-2.ensures in
    subst (λ (ps : List (ℕ × ℕ)). IsWithout c.args.p.0 c.args.q.0 ps (marked c.self.inside.atoms c.clear-2.new.self)) c.self.view_is
    (subst (λ (t : List Bool). IsWithout c.args.p.0 c.args.q.0 (marked c.self.inside.atoms c.self.inside.table) (marked c.self.inside.atoms t)) (sym table)
    (cleared c.self.inside.atoms c.self.inside.table c.self.invariant c.args.p.0 c.args.q.0 (rw c.self.view_is c.requires)).1)
