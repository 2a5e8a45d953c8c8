-- Where no effect adds an atom that is a pair with the one that an effect adds, it adds no pair with another.
use Rattle.std.proofs.Common.{◌≡◌, false, ◌&&◌, sym, ◌∙◌}
use Rattle.std.proofs.lemmas.Bool.{and_parts, false≢true, false_from_ne_true}
use Rattle.std.specs.List.{list_any}
use Rattle.kp_base.specs.declared.ground.Effect.{Effect}
use Rattle.kp_base.specs.declared.ground.Action.{Action}
use Rattle.kp_base.specs.Clashes.{Pairs, compatible_effects}
use Rattle.kp_base.proofs.Lists.{any_from, any_member}
use Rattle.kp_clash_exclusive.specs.Removed.{adds_pair}

pub adds_none : (pairs : Pairs) (a : Action) (e : Effect) → list_any (λ f. f.result.positive && pairs e.result.atom.0 f.result.atom.0) a.effects ≡ false → list_any (adds_pair pairs a e) a.effects ≡ false
adds_none pairs a e none = false_from_ne_true (list_any (adds_pair pairs a e) a.effects) (λ h.
    let x = any_member (adds_pair pairs a e) a.effects h in
    let both = and_parts (e.result.positive && (x.0.result.positive && pairs e.result.atom.0 x.0.result.atom.0)) (compatible_effects pairs a e x.0) x.2 in
    let adds = and_parts e.result.positive (x.0.result.positive && pairs e.result.atom.0 x.0.result.atom.0) both.0 in
    false≢true (sym none ∙ any_from (λ f. f.result.positive && pairs e.result.atom.0 f.result.atom.0) a.effects x.0 x.1 adds.1))
