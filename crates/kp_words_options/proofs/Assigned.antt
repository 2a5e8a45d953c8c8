-- A command whose names fit takes all lines of its form, and each argument gets what is said.
use Rattle.std.proofs.Common.{◌≡◌, ◌∙◌, ◌+◌, ◌||◌, ℕ, Bool, true, false, not, List, [], ◌∷◌, ◌++◌, refl, sym, subst, length, true≢false, arith}
use Rattle.std.specs.List.{list_all}
use Rattle.std.specs.Str.{bytes_eq}
use Rattle.std.proofs.lemmas.Slice.Eq.{bytes_eq-Decides}
use Rattle.std.proofs.lemmas.Bool.{or_parts, not-true}
use Rattle.clap.proofs.WalkLemmas.{both}
use Rattle.clap.specs.Walk.{Rule}
use Rattle.kp_words_options.specs.Words.{Said, word, option, has_text, differ, option_names, positionals}
use Rattle.kp_words_options.specs.Clap.{Every, HasPlaces, Knows, Takes, no_more, a_place, an_option, ids_of, placed}

-- ---- what is said has arguments that take it

known_at : (c : List Rule) (options : List (List ℕ)) (name : List ℕ) → Every (Knows c) options → has_text options name ≡ true → Knows c name
known_at c [] name all e = absurd (true≢false (sym e))
known_at c (o ∷ options) name all e = go (bytes_eq o name) refl e (known_at c options name all.1)
  where
    go : (b : Bool) → bytes_eq o name ≡ b → (b || has_text options name) ≡ true → (has_text options name ≡ true → Knows c name) → Knows c name
    go true f g next = subst (Knows c) ((bytes_eq-Decides o name).0 f) all.0
    go false f g next = next g

pub can_take : (c : List Rule) (options : List (List ℕ)) (ids : List (List ℕ)) (k : ℕ) (said : List Said) → Every (Knows c) options → HasPlaces c k ids
    → length (positionals said) ≡ length ids → list_all (has_text options) (option_names said) ≡ true → Takes c k ids said
can_take c options ids k [] known places count among = no_more c k ids
can_take c options [] k (word w ∷ said) known places count among = absurd (omega (arith, count))
can_take c options (id ∷ ids) k (word w ∷ said) known places count among =
    a_place c k id ids w said places.0 (can_take c options ids (k + 1) said known places.1 (omega (arith, count)) among)
can_take c options ids k (option name value ∷ said) known places count among =
    let parts = both (has_text options name) (list_all (has_text options) (option_names said)) among in
    an_option c k ids name value said (known_at c options name known parts.0) (can_take c options ids k said known places count parts.1)

-- ---- the names of what is said differ

-- each text of the second is one of the first
abbrev pub AllAmong : List (List ℕ) → List (List ℕ) → Type 0
AllAmong all texts = list_all (has_text all) texts ≡ true

-- what is not among texts is not among some of them
pub not_among_some : (options texts : List (List ℕ)) (id : List ℕ) → AllAmong options texts → has_text options id ≡ false → has_text texts id ≡ false
not_among_some options [] id all e = refl
not_among_some options (t ∷ texts) id all e =
    let parts = both (has_text options t) (list_all (has_text options) texts) all in
    let head : bytes_eq t id ≡ false = go (bytes_eq t id) refl parts.0 in
    rw (head, not_among_some options texts id parts.1 e) refl
  where
    go : (b : Bool) → bytes_eq t id ≡ b → has_text options t ≡ true → b ≡ false
    go false f g = refl
    go true f g = absurd (true≢false (sym (subst (λ (x : List ℕ). has_text options x ≡ true) ((bytes_eq-Decides t id).0 f) g) ∙ e))

pub among_append : (xs ys : List (List ℕ)) (t : List ℕ) → has_text (xs ++ ys) t ≡ (has_text xs t || has_text ys t)
among_append [] ys t = refl
among_append (x ∷ xs) ys t = go (bytes_eq x t) (among_append xs ys t)
  where
    go : (b : Bool) → has_text (xs ++ ys) t ≡ (has_text xs t || has_text ys t) → (b || has_text (xs ++ ys) t) ≡ ((b || has_text xs t) || has_text ys t)
    go true e = refl
    go false e = e

-- the names of pairs are among the places and the options
placed_not : (ids : List (List ℕ)) (said : List Said) (t : List ℕ) → has_text ids t ≡ false → has_text (option_names said) t ≡ false → has_text (ids_of (placed ids said)) t ≡ false
placed_not ids [] t a b = refl
placed_not [] (word w ∷ said) t a b = placed_not [] said t a b
placed_not (id ∷ ids) (word w ∷ said) t a b =
    let parts = or_parts (bytes_eq id t) (has_text ids t) a in
    rw (parts.0, placed_not ids said t parts.1 b) refl
placed_not ids (option name value ∷ said) t a b =
    let parts = or_parts (bytes_eq name t) (has_text (option_names said) t) b in
    rw (parts.0, placed_not ids said t a parts.1) refl

differ_by : (options : List (List ℕ)) (x name : List ℕ) → has_text options x ≡ false → has_text options name ≡ true → bytes_eq x name ≡ false
differ_by options x name u v = go (bytes_eq x name) refl
  where
    go : (b : Bool) → bytes_eq x name ≡ b → b ≡ false
    go false g = refl
    go true g = absurd (true≢false (sym v ∙ subst (λ (t : List ℕ). has_text options t ≡ false) ((bytes_eq-Decides x name).0 g) u))

-- an option is no place
pub places_not : (options xs : List (List ℕ)) (name : List ℕ) → differ (xs ++ options) ≡ true → has_text options name ≡ true → has_text xs name ≡ false
places_not options [] name e f = refl
places_not options (x ∷ xs) name e f =
    let parts = both (not (has_text (xs ++ options) x)) (differ (xs ++ options)) e in
    let apart = or_parts (has_text xs x) (has_text options x) (sym (among_append xs options x) ∙ not-true _ parts.0) in
    rw (differ_by options x name apart.1 f, places_not options xs name parts.1 f) refl

pub placed_differ : (options ids : List (List ℕ)) (said : List Said) → differ (ids ++ options) ≡ true → AllAmong options (option_names said) → differ (option_names said) ≡ true
    → differ (ids_of (placed ids said)) ≡ true
placed_differ options ids [] d among once = refl
placed_differ options [] (word w ∷ said) d among once = placed_differ options [] said d among once
placed_differ options (id ∷ ids) (word w ∷ said) d among once =
    let parts = both (not (has_text (ids ++ options) id)) (differ (ids ++ options)) d in
    let apart = or_parts (has_text ids id) (has_text options id) (sym (among_append ids options id) ∙ not-true _ parts.0) in
    rw (placed_not ids said id apart.0 (not_among_some options (option_names said) id among apart.1), placed_differ options ids said parts.1 among once) refl
placed_differ options ids (option name value ∷ said) d among once =
    let parts = both (has_text options name) (list_all (has_text options) (option_names said)) among in
    let more = both (not (has_text (option_names said) name)) (differ (option_names said)) once in
    let apart : has_text ids name ≡ false = places_not options ids name d parts.0 in
    rw (placed_not ids said name apart (not-true _ more.0), placed_differ options ids said d parts.1 more.1) refl
