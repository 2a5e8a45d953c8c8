use Rattle.std.proofs.Common.{◌≡◌, refl, sym, ap, subst}
use Rattle.kp_words.specs.declared.verb.Verb.{Verb}
use Rattle.kp_words.specs.Asked.{Asked}
use Rattle.kp_words.specs.Owned.{kept}
use Rattle.kp_words.proofs.Kept.{is_kept, usual_beside_file}
use Rattle.kp_words.proofs.asked.Asked.to_owned.Goals as goal

pub owned_by-requires-clause-kept : goal.owned_by-requires-clause-kept
owned_by-requires-clause-kept c =
    subst (λ (v : Verb). c.args.self.now ≡ kept v c.args.self.now) (sym (ap (λ (k : Asked). k.verb) c.self.view_is))
    (is_kept c.args.self.now.verb c.requires.0 c.requires.1 c.args.self.now refl c.requires.2)

pub owned_by-requires-clause-source : goal.owned_by-requires-clause-source
owned_by-requires-clause-source c = usual_beside_file c.args.self.now.verb c.requires.0 c.requires.1 c.args.self.now refl c.requires.2
