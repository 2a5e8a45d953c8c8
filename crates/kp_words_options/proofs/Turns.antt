-- Each of these words passes.
use Rattle.std.proofs.Common.{◌≡◌, ℕ, true, false, List, [], ◌∷◌, ◌++◌, refl, codes}
use Rattle.clap.specs.Walk.{Held, Rule, Row, settled}
use Rattle.clap.specs.Takes.{settle_passes, turn_passes, use_passes}
use Rattle.kp_words_options.specs.Words.{is_plain}
use Rattle.kp_words_options.specs.Clap.{Knows, HasPlace, built_option, built_shape}
use Rattle.kp_words_options.proofs.Steps.{plain_long, plain_short, plain_dashes, standing, awaiting, and_false}

module _ (name : List ℕ) (c : List Rule) where
  pub word_turn : (h : Held) (k : ℕ) (id w : List ℕ) → is_plain w ≡ true → HasPlace c k id → settle_passes c false h ≡ true
      → turn_passes (built_shape name c) [] (standing h k) w ≡ true
  word_turn h k id w plain place passes = rw (plain_dashes w plain, plain_long w plain, plain_short w plain, place.by_index, and_false, passes) refl

  pub joined_turn : (h : Held) (k : ℕ) (option value : List ℕ) → Knows c option → settle_passes c false h ≡ true
      → use_passes false (built_option option) (value ∷ []) (settled c h).rows ≡ true
      → turn_passes (built_shape name c) [] (standing h k) (codes "--" ++ (option ++ (codes "=" ++ value))) ≡ true
  joined_turn h k option value knows passes uses = rw (knows.not_alone value, knows.joined value, knows.by_long, passes, uses) refl

  pub option_turn : (h : Held) (k : ℕ) (option : List ℕ) → Knows c option → settle_passes c false h ≡ true
      → turn_passes (built_shape name c) [] (standing h k) (codes "--" ++ option) ≡ true
  option_turn h k option knows passes = rw (knows.alone, knows.apart, knows.by_long, passes) refl

  pub value_turn : (rows : List Row) (skip k : ℕ) (option value : List ℕ) → is_plain value ≡ true
      → turn_passes (built_shape name c) [] (awaiting rows option skip k) value ≡ true
  value_turn rows skip k option value plain = rw (plain_dashes value plain, plain_long value plain, plain_short value plain) refl
