-- Names such that `clap` tells the arguments apart: what computing shows of all of them, and what follows for each.
use Rattle.std.proofs.Common.{◌≡◌, ◌+◌, ◌≤◌, ℕ, true, List, [], ◌∷◌, ◌++◌, Some, map, length, nat_lt, refl, sym, true≢false, arith}
use Rattle.std.specs.List.{list_all}
use Rattle.clap.proofs.WalkLemmas.{both}
use Rattle.clap.specs.Walk.{Rule, arg_by_id, arg_by_index, arg_by_long}
use Rattle.clap.specs.Simple.{is_simple}
use Rattle.kp_words_options.specs.Words.{differ, is_option_name}
use Rattle.kp_words_options.specs.Clap.{Every, Fits, HasPlaces, Knows, app_of_form, built_option, built_place, built_rules, found_from, is_loose, places_from}
use Rattle.kp_words_options.proofs.Options.{long_apart, long_joined}

-- each premise is shown by computing
pub computed : {name : List ℕ} {ids options : List (List ℕ)} → is_simple (app_of_form name ids options) ≡ true → list_all is_loose (built_rules ids options) ≡ true
    → map (arg_by_long (built_rules ids options)) options ≡ map (λ o. Some (built_option o)) options → map (arg_by_id (built_rules ids options)) options ≡ map (λ o. Some (built_option o)) options
    → found_from (built_rules ids options) 1 ids ≡ places_from 1 ids → map (arg_by_id (built_rules ids options)) ids ≡ places_from 1 ids
    → nat_lt (length ids) 100 ≡ true → differ (ids ++ options) ≡ true → list_all is_option_name options ≡ true → Fits name ids options
computed simple loose longs by_id by_index places few differ named =
    record { simple = simple; loose = loose; options_by_long = longs; options_by_id = by_id; places_by_index = by_index; places_by_id = places; few = few; names_differ = differ; named = named }

pub each_known : (c : List Rule) (options : List (List ℕ)) → list_all is_option_name options ≡ true → map (arg_by_long c) options ≡ map (λ o. Some (built_option o)) options
    → map (arg_by_id c) options ≡ map (λ o. Some (built_option o)) options → Every (Knows c) options
each_known c [] named longs ids = tt
each_known c ([] ∷ options) named longs ids = absurd (true≢false (sym named))
each_known c ((b ∷ rest) ∷ options) named longs ids =
    let parts = both (is_option_name (b ∷ rest)) (list_all is_option_name options) named in
    let by_long : arg_by_long c (b ∷ rest) ≡ Some (built_option (b ∷ rest)) = cc longs in
    let by_id : arg_by_id c (b ∷ rest) ≡ Some (built_option (b ∷ rest)) = cc ids in
    let longs_behind : map (arg_by_long c) options ≡ map (λ o. Some (built_option o)) options = cc longs in
    let ids_behind : map (arg_by_id c) options ≡ map (λ o. Some (built_option o)) options = cc ids in (
      record { by_long = by_long; by_id = by_id; alone = refl; apart = long_apart (b ∷ rest) parts.0; joined = λ value. long_joined (b ∷ rest) value parts.0; not_alone = λ value. refl },
      each_known c options parts.1 longs_behind ids_behind,
    )

pub each_place : (c : List Rule) (k : ℕ) (ids : List (List ℕ)) → k + length ids ≤ 100 → found_from c k ids ≡ places_from k ids → map (arg_by_id c) ids ≡ places_from k ids → HasPlaces c k ids
each_place c k [] few found named = tt
each_place c k (id ∷ ids) few found named =
    let by_index : arg_by_index c k ≡ Some (built_place k id) = cc found in
    let by_id : arg_by_id c id ≡ Some (built_place k id) = cc named in
    let found_behind : found_from c (k + 1) ids ≡ places_from (k + 1) ids = cc found in
    let named_behind : map (arg_by_id c) ids ≡ places_from (k + 1) ids = cc named in
    (record { small = omega (arith, few); by_index = by_index; by_id = by_id }, each_place c (k + 1) ids (omega (arith, few)) found_behind named_behind)
