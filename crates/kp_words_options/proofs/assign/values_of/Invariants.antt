use Rattle.std.proofs.Common.{◌≡◌, take, map, option_map}
use Rattle.clap.specs.Words.{first_value, found_of}
use Rattle.kp_words_options.proofs.assign.values_of.Given as goal

abbrev pub invariant-loop-name : goal.invariant-loop-name
invariant-loop-name l = map (option_map (λ s. s.now)) l.values.items ≡ map (λ name. first_value (found_of l.matches) name.now) (take l.name-index l.options)
