-- `clap` takes words that say something that fits.
use Rattle.std.proofs.Common.{◌≡◌, ◌∙◌, ◌+◌, ◌||◌, ℕ, Bool, true, false, not, List, [], ◌∷◌, ◌++◌, refl, ap, sym, subst, fold, cond, codes, arith, eqb-true}
use Rattle.std.specs.List.{list_all}
use Rattle.clap.proofs.WalkLemmas.{both}
use Rattle.clap.specs.Walk.{Held, Rule, Row, Walk, default_rows, has_row, is_empty, reading_by, settled, used, walked, with_default}
use Rattle.clap.specs.Takes.{default_passes, turn_passes, use_passes, walk_passes}
use Rattle.kp_words_options.specs.Words.{Said, Says, nothing, a_word, apart, joined, differ}
use Rattle.kp_words_options.specs.Clap.{Takes, a_place, an_option, option_rule, built_option, built_shape, placed, ids_of, is_loose}
use Rattle.kp_words_options.proofs.Rows.{use_new}
use Rattle.kp_words_options.proofs.Steps.{standing, holding, resting, awaiting, word_step, joined_step, option_step, value_step}
use Rattle.kp_words_options.proofs.Turns.{word_turn, joined_turn, option_turn, value_turn}
use Rattle.kp_words_options.proofs.Walks.{Pairs, Holds, held_place, held_option, held_joined, is_new, moved}

module _ (name : List ℕ) (c : List Rule) where
  first_and : (s : Walk) (w : List ℕ) (words : List (List ℕ)) (next : Walk) → turn_passes (built_shape name c) [] s w ≡ true → walked c [] s w ≡ next
      → walk_passes (built_shape name c) [] next words ≡ true → walk_passes (built_shape name c) [] s (w ∷ words) ≡ true
  unfolding walk_passes
  first_and s w words next turn step rest = rw (turn, step, rest) refl

  -- each word passes
  pub walk_goes : (words : List (List ℕ)) (said : List Said) (ids : List (List ℕ)) (k : ℕ) (h : Held) (ps : Pairs) → Says words said → Takes c k ids said
      → Holds c h ps → differ (ids_of (ps ++ placed ids said)) ≡ true
      → walk_passes (built_shape name c) [] (standing h k) words ≡ true
  unfolding walk_passes
  walk_goes _ _ ids k h ps nothing takes holds e = refl
  walk_goes _ _ _ _ h ps (a_word w words said plain says) (a_place _ k id ids _ _ place takes) holds e =
      let held = held_place name c (settled c h).rows ps k h.skip id w place holds.rows (is_new ps (placed ids said) (id, w) e) in
      let rest = walk_goes words said ids (k + 1) (holding (settled c h).rows id w h.skip) (ps ++ (id, w) ∷ []) says takes held
      (subst (λ (qs : Pairs). differ (ids_of qs) ≡ true) (sym (moved ps (placed ids said) (id, w))) e) in
      first_and (standing h k) w words _ (word_turn name c h k id w plain place holds.passes) (word_step c h k id w plain place) rest
  walk_goes _ _ ids k h ps (apart n value words said named plain says) (an_option _ _ _ _ _ _ knows takes) holds e =
      let held = held_option name c (settled c h).rows ps h.skip n value knows holds.rows (is_new ps (placed ids said) (n, value) e) in
      let rest = walk_goes words said ids k (holding (settled c h).rows n value h.skip) (ps ++ (n, value) ∷ []) says takes held
      (subst (λ (qs : Pairs). differ (ids_of qs) ≡ true) (sym (moved ps (placed ids said) (n, value))) e) in
      first_and (standing h k) (codes "--" ++ n) (value ∷ words) _ (option_turn name c h k n knows holds.passes) (option_step c h k n knows)
      (first_and (awaiting (settled c h).rows n h.skip k) value words _ (value_turn name c (settled c h).rows h.skip k n value plain) (value_step c (settled c h).rows h.skip k n value plain knows) rest)
  walk_goes _ _ ids k h ps (joined n value words said named plain says) (an_option _ _ _ _ _ _ knows takes) holds e =
      let new = is_new ps (placed ids said) (n, value) e in
      let held = held_joined name c (settled c h).rows ps h.skip n value holds.rows new in
      let uses : use_passes false (built_option n) (value ∷ []) (settled c h).rows ≡ true = rw holds.rows (use_new (option_rule n) ps value refl new) in
      let rest = walk_goes words said ids k (resting (used (built_option n) (value ∷ []) (settled c h).rows) h.skip) (ps ++ (n, value) ∷ []) says takes held
      (subst (λ (qs : Pairs). differ (ids_of qs) ≡ true) (sym (moved ps (placed ids said) (n, value))) e) in
      first_and (standing h k) (codes "--" ++ (n ++ (codes "=" ++ value))) words _ (joined_turn name c h k n value knows holds.passes uses) (joined_step c h k n value knows) rest

-- ---- after the walk

no_defaults : (r : Rule) (rows : List Row) → is_empty r.defaults ≡ true → with_default rows r ≡ rows
no_defaults r rows e = go r.defaults e (has_row r.id rows)
  where
    go : (texts : List (List ℕ)) → is_empty texts ≡ true → (b : Bool) → cond b rows (default_rows r.id (reading_by r) texts rows) ≡ rows
    go [] e true = refl
    go [] e false = refl
    go (t ∷ texts) e true = refl
    go (t ∷ texts) e false = absurd (omega (arith, eqb-true _ _ e))

pub loose_defaults : (c : List Rule) (rows : List Row) → list_all is_loose c ≡ true → fold with_default rows c ≡ rows
loose_defaults [] rows e = refl
loose_defaults (r ∷ c) rows e =
    let parts = both (is_loose r) (list_all is_loose c) e in
    let more = both (not r.required) _ parts.0 in
    let empty = both (is_empty r.defaults) r.is_free more.1 in
    ap (λ rs. fold with_default rs c) (no_defaults r rows empty.0) ∙ loose_defaults c rows parts.1

pub loose_passes : (c : List Rule) → list_all is_loose c ≡ true → list_all default_passes c ≡ true
loose_passes [] e = refl
loose_passes (r ∷ c) e =
    let parts = both (is_loose r) (list_all is_loose c) e in
    let more = both (not r.required) _ parts.0 in
    let empty = both (is_empty r.defaults) r.is_free more.1 in
    rw (empty.0, loose_passes c parts.1) refl

pub loose_free : (c : List Rule) → list_all is_loose c ≡ true → list_all (λ a. a.is_free) c ≡ true
loose_free [] e = refl
loose_free (r ∷ c) e =
    let parts = both (is_loose r) (list_all is_loose c) e in
    let more = both (not r.required) _ parts.0 in
    let empty = both (is_empty r.defaults) r.is_free more.1 in
    rw (empty.1, loose_free c parts.1) refl

pub loose_optional : (c : List Rule) (given : Rule → Bool) → list_all is_loose c ≡ true → list_all (λ a. not a.required || given a) c ≡ true
loose_optional [] given e = refl
loose_optional (r ∷ c) given e =
    let parts = both (is_loose r) (list_all is_loose c) e in
    let more = both (not r.required) _ parts.0 in
    rw (more.0, loose_optional c given parts.1) refl
