-- What one word does to a walk of `clap` that waits for nothing.
use Rattle.std.proofs.Common.{◌≡◌, ◌+◌, ◌<◌, ◌==◌, ◌&&◌, ℕ, Bool, true, false, not, List, [], ◌∷◌, ◌++◌, Some, None, refl, sym, arith, min, codes}
use Rattle.std.specs.Str.{bytes_eq}
use Rattle.kp_base.proofs.Lists.{same-refl}
use Rattle.clap.specs.Lexer.{long_of, short_of, usize_max}
use Rattle.clap.specs.Walk.{Held, Rule, Row, Walk, idle, option as waits_for, settled, used, walked}
use Rattle.kp_words_options.specs.Words.{is_plain}
use Rattle.kp_words_options.specs.Clap.{Knows, HasPlace, built_option}

-- ---- words that don't begin with a dash

no_dash : (b : ℕ) → not (b == 45) ≡ true → (b == 45) ≡ false
no_dash b e = go (b == 45) e
  where
    go : (t : Bool) → not t ≡ true → t ≡ false
    go true e = sym e
    go false e = refl

pub plain_long : (w : List ℕ) → is_plain w ≡ true → long_of w ≡ None
plain_long [] e = refl
plain_long (b ∷ rest) e = rw (no_dash b e) refl

pub plain_short : (w : List ℕ) → is_plain w ≡ true → short_of w ≡ None
plain_short [] e = refl
plain_short (b ∷ rest) e = rw (no_dash b e) refl

pub plain_dashes : (w : List ℕ) → is_plain w ≡ true → bytes_eq w (codes "--") ≡ false
plain_dashes [] e = refl
plain_dashes (b ∷ rest) e = rw (no_dash b e) refl

-- ---- the walk between two words

abbrev pub standing : Held → ℕ → Walk
standing h k = record { held = h; waiting = idle; position = k; is_trailing = false; stopped = None }

abbrev pub holding : List Row → List ℕ → List ℕ → ℕ → Held
holding rows id w skip = record { rows = rows; pending = Some (id, w ∷ []); skip = skip }

abbrev pub resting : List Row → ℕ → Held
resting rows skip = record { rows = rows; pending = None; skip = skip }

abbrev pub awaiting : List Row → List ℕ → ℕ → ℕ → Walk
awaiting rows name skip k =
    record { held = record { rows = rows; pending = Some (name, []); skip = skip }; waiting = waits_for name; position = k; is_trailing = false; stopped = None }

pub and_false : (b : Bool) → (b && false) ≡ false
and_false true = refl
and_false false = refl

module _ (c : List Rule) where
  next_place : (k : ℕ) → k < 100 → min (k + 1) usize_max ≡ k + 1
  next_place k small = omega arith

  -- a positional word is held for its place
  pub word_step : (h : Held) (k : ℕ) (id w : List ℕ) → is_plain w ≡ true → HasPlace c k id
      → walked c [] (standing h k) w ≡ standing (holding (settled c h).rows id w h.skip) (k + 1)
  unfolding walked
  word_step h k id w plain place = rw (plain_dashes w plain, plain_long w plain, plain_short w plain, place.by_index, and_false, next_place k place.small) refl

  -- an option with its value takes it
  pub joined_step : (h : Held) (k : ℕ) (name value : List ℕ) → Knows c name
      → walked c [] (standing h k) (codes "--" ++ (name ++ (codes "=" ++ value))) ≡ standing (resting (used (built_option name) (value ∷ []) (settled c h).rows) h.skip) k
  unfolding walked
  joined_step h k name value knows = rw (knows.not_alone value, knows.joined value, knows.by_long) refl

  -- an option waits for its value
  pub option_step : (h : Held) (k : ℕ) (name : List ℕ) → Knows c name
      → walked c [] (standing h k) (codes "--" ++ name) ≡ awaiting (settled c h).rows name h.skip k
  unfolding walked
  option_step h k name knows = rw (knows.alone, knows.apart, knows.by_long) refl

  -- and a word that doesn't begin with a dash is its value
  pub value_step : (rows : List Row) (skip k : ℕ) (name value : List ℕ) → is_plain value ≡ true → Knows c name
      → walked c [] (awaiting rows name skip k) value ≡ standing (holding rows name value skip) k
  unfolding walked
  value_step rows skip k name value plain knows =
      rw (plain_dashes value plain, plain_long value plain, plain_short value plain, knows.by_id, same-refl name) refl
