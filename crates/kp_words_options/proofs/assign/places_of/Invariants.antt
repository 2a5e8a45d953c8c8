use Rattle.std.proofs.Common.{◌≡◌, drop, take, map, Some, is_some, true}
use Rattle.std.specs.List.{list_all}
use Rattle.clap.specs.Words.{first_value, found_of}
use Rattle.kp_words_options.proofs.assign.places_of.Given as goal

abbrev pub invariant-loop-id : goal.invariant-loop-id
invariant-loop-id l = (map (λ p. Some p.now) l.places.items ≡ map (λ id. first_value (found_of l.matches) id.now) (take l.id-index l.ids))
    × (list_all (λ id. is_some (first_value (found_of l.matches) id.now)) (drop l.id-index l.ids) ≡ true)
