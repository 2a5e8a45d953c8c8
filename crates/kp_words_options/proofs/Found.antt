-- What `clap` finds for each name.
use Rattle.std.proofs.Common.{◌≡◌, ◌∙◌, ℕ, Bool, true, false, List, [], ◌∷◌, Option, Some, refl, map, fold, cond, find, slice_get, option_and_then, arith}
use Rattle.std.specs.Str.{bytes_eq}
use Rattle.std.proofs.lemmas.Bool.Decides.{nat_tests}
use Rattle.std.proofs.lemmas.Bool.{or_parts}
use Rattle.clap.specs.Walk.{Row, first_of, nothing_held, settled, walk, walked, with_default}
use Rattle.clap.specs.Takes.{is_given, takes}
use Rattle.clap.specs.Simple.{matches_of}
use Rattle.kp_words_options.specs.Words.{Said, word, option, has_text, differ, option_names, positionals, value_of}
use Rattle.kp_words_options.specs.Clap.{Every, Fits, HasPlaces, Knows, Suits, Takes, app_of_form, built_rules, ids_of, place_of, placed, row_of_pair}
use Rattle.kp_words_options.proofs.Steps.{standing}
use Rattle.kp_words_options.proofs.Walks.{Ends, Holds, walk_ends}
use Rattle.kp_words_options.proofs.Passing.{loose_defaults, loose_free, loose_optional, loose_passes, walk_goes}
use Rattle.kp_words_options.proofs.Fitting.{each_known, each_place}
use Rattle.kp_words_options.proofs.Assigned.{can_take, placed_differ}

module _ (name : List ℕ) (ids options words : List (List ℕ)) (said : List Said) (fits : Fits name ids options) (suits : Suits ids options words said) where
  known : Every (Knows (built_rules ids options)) options
  known = each_known (built_rules ids options) options fits.named fits.options_by_long fits.options_by_id

  places : HasPlaces (built_rules ids options) 1 ids
  places = each_place (built_rules ids options) 1 ids (let few = fits.few in grind (arith, nat_tests)) fits.places_by_index fits.places_by_id

  takes_all : Takes (built_rules ids options) 1 ids said
  takes_all = can_take (built_rules ids options) options ids 1 said known places suits.count suits.known

  at_start : Holds (built_rules ids options) nothing_held []
  at_start = record { rows = refl; passes = refl }

  apart : differ (ids_of (placed ids said)) ≡ true
  apart = placed_differ options ids said fits.names_differ suits.known suits.once

  ends : Ends (built_rules ids options) (fold (walked (built_rules ids options) []) (standing nothing_held 1) words) (placed ids said)
  ends = walk_ends name (built_rules ids options) words said ids 1 nothing_held [] suits.says takes_all at_start apart

  -- the command takes the words
  pub is_taken : takes (app_of_form name ids options) words ≡ true
  is_taken = rw (
    fits.simple,
    ends.goes_on,
    walk_goes name (built_rules ids options) words said ids 1 nothing_held [] suits.says takes_all at_start apart,
    ends.holds.passes,
    loose_passes (built_rules ids options) fits.loose,
    loose_free (built_rules ids options) fits.loose,
    loose_optional (built_rules ids options) (λ r. is_given r.id (fold with_default (settled (built_rules ids options) (walk (built_rules ids options) [] nothing_held words).held).rows (built_rules ids options))) fits.loose,
  ) refl

  -- and these are its rows
  pub rows_are : matches_of (app_of_form name ids options) words ≡ map row_of_pair (placed ids said)
  rows_are = loose_defaults (built_rules ids options) (settled (built_rules ids options) (walk (built_rules ids options) [] nothing_held words).held).rows fits.loose ∙ ends.holds.rows

-- ---- by name

-- a first pair, and the others
abbrev first_or : Bool → List ℕ × List ℕ → List ℕ → List Row → Option (List ℕ)
first_or b p name rows = option_and_then (λ (r : Row). slice_get r.values 0) (cond b (Some (row_of_pair p)) (find (λ r. bytes_eq r.id name) rows))

first_either : (b : Bool) (p : List ℕ × List ℕ) (name : List ℕ) (rows : List Row) (other : Option (List ℕ)) → first_of name rows ≡ other → first_or b p name rows ≡ cond b (Some p.1) other
first_either true p name rows other e = refl
first_either false p name rows other e = e

pub option_found : (ids : List (List ℕ)) (said : List Said) (name : List ℕ) → has_text ids name ≡ false → first_of name (map row_of_pair (placed ids said)) ≡ value_of name said
option_found ids [] name e = refl
option_found [] (word w ∷ said) name e = option_found [] said name e
option_found (id ∷ ids) (word w ∷ said) name e =
    let parts = or_parts (bytes_eq id name) (has_text ids name) e in
    rw parts.0 (option_found ids said name parts.1)
option_found ids (option n value ∷ said) name e = first_either (bytes_eq n name) (n, value) name _ _ (option_found ids said name e)

pub place_found : (ids : List (List ℕ)) (said : List Said) (id : List ℕ) → has_text (option_names said) id ≡ false → first_of id (map row_of_pair (placed ids said)) ≡ place_of ids (positionals said) id
place_found [] [] id e = refl
place_found (i ∷ ids) [] id e = refl
place_found [] (word w ∷ said) id e = place_found [] said id e
place_found (i ∷ ids) (word w ∷ said) id e = first_either (bytes_eq i id) (i, w) id _ _ (place_found ids said id e)
place_found [] (option n value ∷ said) id e =
    let parts = or_parts (bytes_eq n id) (has_text (option_names said) id) e in
    rw parts.0 (place_found [] said id parts.1)
place_found (i ∷ ids) (option n value ∷ said) id e =
    let parts = or_parts (bytes_eq n id) (has_text (option_names said) id) e in
    rw parts.0 (place_found (i ∷ ids) said id parts.1)
