-- What is given by the rows that `clap` finds.
use Rattle.std.proofs.Common.{◌≡◌, ◌∙◌, ◌||◌, ℕ, Bool, true, false, not, List, [], ◌∷◌, ◌++◌, Option, Some, refl, ap, ap₂, sym, map, length, arith, true≢false, append_assoc, append-nil}
use Rattle.std.specs.List.{list_all}
use Rattle.std.specs.Str.{bytes_eq}
use Rattle.std.proofs.lemmas.Bool.{or_parts, not-true}
use Rattle.kp_base.proofs.Lists.{same-refl}
use Rattle.clap.proofs.WalkLemmas.{both, first_value-rows}
use Rattle.clap.specs.Walk.{Rule, first_of, rows_of}
use Rattle.clap.specs.Simple.{App, matches_of, new_rule}
use Rattle.clap.specs.Matches.{first_value}
use Rattle.clap.specs.declared.parser.matches.Found.{Found}
use Rattle.kp_words_options.specs.Words.{Said, has_text, differ, option_names, positionals, value_of}
use Rattle.kp_words_options.specs.Scan.{at_first, scan}
use Rattle.kp_words_options.specs.Clap.{Fits, Gives, Suits, app_of_form, app_with, option_rule, place_of, placed, row_of_pair, with_options, with_places}
use Rattle.kp_words_options.proofs.Rows.{other_way}
use Rattle.kp_words_options.proofs.Assigned.{among_append, not_among_some, places_not}
use Rattle.kp_words_options.proofs.Found.{option_found, place_found, rows_are}
use Rattle.kp_words_options.proofs.Scanned.{all_fresh, complete, sound}

abbrev Texts : Type 0
Texts = List (List ℕ)

-- ---- the command that is made

places_are : (name : List ℕ) (rules : List Rule) (ids : Texts) → with_places (app_with name rules) ids ≡ app_with name (rules ++ map new_rule ids)
places_are name rules [] = ap (app_with name) (sym (append-nil rules))
places_are name rules (id ∷ ids) = places_are name (rules ++ new_rule id ∷ []) ids ∙ ap (app_with name) (append_assoc rules (new_rule id ∷ []) (map new_rule ids))

options_are : (name : List ℕ) (rules : List Rule) (options : Texts) → with_options (app_with name rules) options ≡ app_with name (rules ++ map option_rule options)
options_are name rules [] = ap (app_with name) (sym (append-nil rules))
options_are name rules (o ∷ options) = options_are name (rules ++ option_rule o ∷ []) options ∙ ap (app_with name) (append_assoc rules (option_rule o ∷ []) (map option_rule options))

pub made_is : (name : List ℕ) (ids options : Texts) → with_options (with_places (app_with name []) ids) options ≡ app_of_form name ids options
made_is name ids options = ap (λ (a : App). with_options a options) (places_are name [] ids) ∙ options_are name (map new_rule ids) options

-- ---- the places in order

-- the first place hides no other
other_places : (i w : List ℕ) (ids ws js : Texts) → has_text js i ≡ false → map (place_of (i ∷ ids) (w ∷ ws)) js ≡ map (place_of ids ws) js
other_places i w ids ws [] e = refl
other_places i w ids ws (j ∷ js) e =
    let parts = or_parts (bytes_eq j i) (has_text js i) e in
    rw (other_way j i parts.0) (ap (λ (rest : List (Option (List ℕ))). place_of ids ws j ∷ rest) (other_places i w ids ws js parts.1))

pub in_order : (ids ws : Texts) → differ ids ≡ true → length ws ≡ length ids → map (place_of ids ws) ids ≡ map Some ws
in_order [] [] d e = refl
in_order [] (w ∷ ws) d e = absurd (omega (arith, e))
in_order (i ∷ ids) [] d e = absurd (omega (arith, e))
in_order (i ∷ ids) (w ∷ ws) d e =
    let parts = both (not (has_text ids i)) (differ ids) d in
    rw (same-refl i) (ap (λ (rest : List (Option (List ℕ))). Some w ∷ rest) (other_places i w ids ws ids (not-true _ parts.0) ∙ in_order ids ws parts.1 (omega (arith, e))))

some_same : (xs ys : Texts) → map Some xs ≡ map Some ys → xs ≡ ys
some_same [] [] e = refl
some_same [] (y ∷ ys) e = absurd cc
some_same (x ∷ xs) [] e = absurd cc
some_same (x ∷ xs) (y ∷ ys) e =
    let heads : x ≡ y = cc in
    let tails : map Some xs ≡ map Some ys = cc in
    ap₂ (λ (a : List ℕ) (rest : Texts). a ∷ rest) heads (some_same xs ys tails)

differ_first : (ids options : Texts) → differ (ids ++ options) ≡ true → differ ids ≡ true
differ_first [] options e = refl
differ_first (i ∷ ids) options e =
    let parts = both (not (has_text (ids ++ options) i)) (differ (ids ++ options)) e in
    let apart = or_parts (has_text ids i) (has_text options i) (sym (among_append ids options i) ∙ not-true _ parts.0) in
    rw (apart.0, differ_first ids options parts.1) refl

-- two functions are the same at each text of a list
map_same : (f g : List ℕ → Option (List ℕ)) (xs all : Texts) → ((x : List ℕ) → has_text all x ≡ true → f x ≡ g x) → list_all (has_text all) xs ≡ true → map f xs ≡ map g xs
map_same f g [] all same e = refl
map_same f g (x ∷ xs) all same e =
    let parts = both (has_text all x) (list_all (has_text all) xs) e in
    ap₂ (λ (y : Option (List ℕ)) (ys : List (Option (List ℕ))). y ∷ ys) (same x parts.0) (map_same f g xs all same parts.1)

more_among : (x : List ℕ) (xs ys : Texts) → list_all (has_text xs) ys ≡ true → list_all (has_text (x ∷ xs)) ys ≡ true
more_among x xs [] e = refl
more_among x xs (y ∷ ys) e =
    let parts = both (has_text xs y) (list_all (has_text xs) ys) e in
    rw (go (bytes_eq x y) (has_text xs y) parts.0, more_among x xs ys parts.1) refl
  where
    go : (a b : Bool) → b ≡ true → (a || b) ≡ true
    go true b e = refl
    go false b e = e

all_among : (xs : Texts) → list_all (has_text xs) xs ≡ true
all_among [] = refl
all_among (x ∷ xs) = rw (same-refl x, more_among x xs xs (all_among xs)) refl

-- a place is no option
options_not : (ids options : Texts) (id : List ℕ) → differ (ids ++ options) ≡ true → has_text ids id ≡ true → has_text options id ≡ false
options_not ids options id e f = go (has_text options id) refl
  where
    go : (b : Bool) → has_text options id ≡ b → b ≡ false
    go false g = refl
    go true g = absurd (true≢false (sym f ∙ places_not options ids id e g))

module _ (name : List ℕ) (ids options words : Texts) (fits : Fits name ids options) (f : Found) (rows : rows_of f ≡ matches_of (app_of_form name ids options) words) where
  module _ (said : List Said) (suits : Suits ids options words said) where
    found : rows_of f ≡ map row_of_pair (placed ids said)
    found = rows ∙ rows_are name ids options words said fits suits

    pub option_value : (o : List ℕ) → has_text options o ≡ true → first_value f o ≡ value_of o said
    option_value o e = first_value-rows f o ∙ (ap (first_of o) found ∙ option_found ids said o (places_not options ids o fits.names_differ e))

    pub place_value : (id : List ℕ) → has_text ids id ≡ true → first_value f id ≡ place_of ids (positionals said) id
    place_value id e = first_value-rows f id ∙ (ap (first_of id) found ∙ place_found ids said id (not_among_some options (option_names said) id suits.known (options_not ids options id fits.names_differ e)))

    pub places_given : map (first_value f) ids ≡ map Some (positionals said)
    places_given = map_same (first_value f) (place_of ids (positionals said)) ids ids place_value (all_among ids) ∙ in_order ids (positionals said) (differ_first ids options fits.names_differ) suits.count

    pub values_given : map (first_value f) options ≡ map (λ o. value_of o said) options
    values_given = map_same (first_value f) (λ o. value_of o said) options options option_value (all_among options)

    pub gives : (places : Texts) (values : List (Option (List ℕ))) → map Some places ≡ map (first_value f) ids → values ≡ map (first_value f) options → Gives ids options words places values
    gives places values p v = record { said = said; suits = suits; in_order = some_same places (positionals said) (p ∙ places_given); by_name = v ∙ values_given }

-- ---- reading the words

module _ (name : List ℕ) (ids options words : Texts) (fits : Fits name ids options) where
  pub suits_of : (n : ℕ) → scan options at_first words ≡ Some n → n ≡ length ids → (said : List Said) × Suits ids options words said
  suits_of n e count =
      let reads = (sound options fits.named words).0 [] 0 n e in
      (reads.0, record { says = reads.1.says; count = omega (arith, reads.1.count, count); known = reads.1.known; once = reads.1.once })

  pub scan_of : (said : List Said) → Suits ids options words said → scan options at_first words ≡ Some (length ids)
  scan_of said suits = complete options words said [] 0 (length ids) suits.says suits.known (all_fresh (option_names said)) suits.once (omega (arith, suits.count))
