-- `clap` walks over words that say something: it gives each place and each option the value that is said.
use Rattle.std.proofs.Common.{◌≡◌, ◌+◌, ℕ, true, false, List, [], ◌∷◌, ◌++◌, Some, None, refl, ap, sym, subst, map, fold, append_assoc, append-nil}
use Rattle.clap.specs.Walk.{Held, Rule, Row, Walk, settled, used, walked}
use Rattle.clap.specs.Takes.{settle_passes}
use Rattle.clap.specs.Simple.{new_rule}
use Rattle.kp_words_options.specs.Words.{Said, Says, nothing, a_word, apart, joined, has_text, differ}
use Rattle.kp_words_options.specs.Clap.{Knows, HasPlace, Takes, a_place, an_option, option_rule, built_option, placed, ids_of, row_of_pair}
use Rattle.kp_words_options.proofs.Rows.{not_before, used_new, use_new}
use Rattle.kp_words_options.proofs.Steps.{standing, holding, resting, word_step, joined_step, option_step, value_step}

abbrev pub Pairs : Type 0
Pairs = List (List ℕ × List ℕ)

-- what is held is fine, and comes to these rows
pub record Holds (c : List Rule) (h : Held) (ps : Pairs) : Type 0 where
  pub rows : (settled c h).rows ≡ map row_of_pair ps
  pub passes : settle_passes c false h ≡ true

-- the walk stopped at no subcommand, and holds these rows
pub record Ends (c : List Rule) (w : Walk) (ps : Pairs) : Type 0 where
  pub holds : Holds c w.held ps
  pub goes_on : w.stopped ≡ None

-- a row is new, among pairs whose names differ
pub is_new : (ps rest : Pairs) (p : List ℕ × List ℕ) → differ (ids_of (ps ++ p ∷ rest)) ≡ true → has_text (ids_of ps) p.0 ≡ false
is_new ps rest p e = not_before (ids_of ps) (ids_of rest) p.0 (subst (λ (xs : List (List ℕ)). differ xs ≡ true) (cut ps) e)
  where
    cut : (qs : Pairs) → ids_of (qs ++ p ∷ rest) ≡ ids_of qs ++ p.0 ∷ ids_of rest
    cut [] = refl
    cut (q ∷ qs) = ap (λ xs. q.0 ∷ xs) (cut qs)

-- and the next ones are one behind it
pub moved : (ps rest : Pairs) (p : List ℕ × List ℕ) → (ps ++ p ∷ []) ++ rest ≡ ps ++ p ∷ rest
moved ps rest p = append_assoc ps (p ∷ []) rest

module _ (name : List ℕ) (c : List Rule) where
  pub held_place : (rows : List Row) (ps : Pairs) (k skip : ℕ) (id w : List ℕ) → HasPlace c k id → rows ≡ map row_of_pair ps → has_text (ids_of ps) id ≡ false
      → Holds c (holding rows id w skip) (ps ++ (id, w) ∷ [])
  held_place rows ps k skip id w place e new = record {
    rows = rw (place.by_id, e) (used_new (record (new_rule id) { index = Some k }) ps w new);
    passes = rw (place.by_id, e) (use_new (record (new_rule id) { index = Some k }) ps w refl new);
  }

  pub held_option : (rows : List Row) (ps : Pairs) (skip : ℕ) (id w : List ℕ) → Knows c id → rows ≡ map row_of_pair ps → has_text (ids_of ps) id ≡ false
      → Holds c (holding rows id w skip) (ps ++ (id, w) ∷ [])
  held_option rows ps skip id w knows e new = record {
    rows = rw (knows.by_id, e) (used_new (option_rule id) ps w new);
    passes = rw (knows.by_id, e) (use_new (option_rule id) ps w refl new);
  }

  pub held_joined : (rows : List Row) (ps : Pairs) (skip : ℕ) (id w : List ℕ) → rows ≡ map row_of_pair ps → has_text (ids_of ps) id ≡ false
      → Holds c (resting (used (built_option id) (w ∷ []) rows) skip) (ps ++ (id, w) ∷ [])
  held_joined rows ps skip id w e new = record { rows = rw e (used_new (option_rule id) ps w new); passes = refl }

  -- the rows at the end
  pub walk_ends : (words : List (List ℕ)) (said : List Said) (ids : List (List ℕ)) (k : ℕ) (h : Held) (ps : Pairs) → Says words said → Takes c k ids said
      → Holds c h ps → differ (ids_of (ps ++ placed ids said)) ≡ true
      → Ends c (fold (walked c []) (standing h k) words) (ps ++ placed ids said)
  walk_ends _ _ ids k h ps nothing takes holds e = subst (Ends c (standing h k)) (sym (append-nil ps)) (record { holds = holds; goes_on = refl })
  walk_ends _ _ _ _ h ps (a_word w words said plain says) (a_place _ k id ids _ _ place takes) holds e =
      let held = held_place (settled c h).rows ps k h.skip id w place holds.rows (is_new ps (placed ids said) (id, w) e) in
      let rest = walk_ends words said ids (k + 1) (holding (settled c h).rows id w h.skip) (ps ++ (id, w) ∷ []) says takes held
      (subst (λ (qs : Pairs). differ (ids_of qs) ≡ true) (sym (moved ps (placed ids said) (id, w))) e) in
      subst (λ (v : Walk). Ends c (fold (walked c []) v words) (ps ++ (id, w) ∷ placed ids said)) (sym (word_step c h k id w plain place))
      (subst (Ends c _) (moved ps (placed ids said) (id, w)) rest)
  walk_ends _ _ ids k h ps (apart n value words said named plain says) (an_option _ _ _ _ _ _ knows takes) holds e =
      let held = held_option (settled c h).rows ps h.skip n value knows holds.rows (is_new ps (placed ids said) (n, value) e) in
      let rest = walk_ends words said ids k (holding (settled c h).rows n value h.skip) (ps ++ (n, value) ∷ []) says takes held
      (subst (λ (qs : Pairs). differ (ids_of qs) ≡ true) (sym (moved ps (placed ids said) (n, value))) e) in
      subst (λ (v : Walk). Ends c (fold (walked c []) (walked c [] v value) words) (ps ++ (n, value) ∷ placed ids said)) (sym (option_step c h k n knows))
      (subst (λ (v : Walk). Ends c (fold (walked c []) v words) (ps ++ (n, value) ∷ placed ids said)) (sym (value_step c (settled c h).rows h.skip k n value plain knows))
      (subst (Ends c _) (moved ps (placed ids said) (n, value)) rest))
  walk_ends _ _ ids k h ps (joined n value words said named plain says) (an_option _ _ _ _ _ _ knows takes) holds e =
      let held = held_joined (settled c h).rows ps h.skip n value holds.rows (is_new ps (placed ids said) (n, value) e) in
      let rest = walk_ends words said ids k (resting (used (built_option n) (value ∷ []) (settled c h).rows) h.skip) (ps ++ (n, value) ∷ []) says takes held
      (subst (λ (qs : Pairs). differ (ids_of qs) ≡ true) (sym (moved ps (placed ids said) (n, value))) e) in
      subst (λ (v : Walk). Ends c (fold (walked c []) v words) (ps ++ (n, value) ∷ placed ids said)) (sym (joined_step c h k n value knows))
      (subst (Ends c _) (moved ps (placed ids said) (n, value)) rest)
