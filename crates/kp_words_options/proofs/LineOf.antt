-- What `line_of` ensures, from what its calls ensure.
use Rattle.std.proofs.Common.{◌≡◌, ◌≢◌, ◌∙◌, ℕ, true, List, [], ◌∷◌, Option, Some, None, refl, ap, sym, map, length, is_some, arith}
use Rattle.std.proofs.lemmas.Grind.{common_steps}
use Rattle.std.specs.Borrow.{Bor}
use Rattle.std.specs.List.{list_all}
use Rattle.clap.specs.Walk.{rows_of}
use Rattle.clap.specs.Simple.{matches_of}
use Rattle.clap.specs.Takes.{takes}
use Rattle.clap.specs.Matches.{first_value}
use Rattle.clap.specs.declared.parser.matches.Found.{Found}
use Rattle.kp_words_options.specs.Words.{Said, Line, positionals}
use Rattle.kp_words_options.specs.Texts.{texts}
use Rattle.kp_words_options.specs.Scan.{at_first, scan}
use Rattle.kp_words_options.specs.Clap.{Fits, Gives, Suits, app_of_form}
use Rattle.kp_words_options.proofs.Found.{is_taken}
use Rattle.kp_words_options.proofs.Giving.{gives, places_given, scan_of, suits_of}

abbrev Refs : Type 0
Refs = List (Bor (List ℕ))

pub texts_map : {X : Type 0} (f : List ℕ → X) (xs : Refs) → map (λ id. f id.now) xs ≡ map f (texts xs)
texts_map f [] = refl
texts_map {X} f (x ∷ xs) = ap (λ (ys : List X). f x.now ∷ ys) (texts_map f xs)

all_some : (f : List ℕ → Option (List ℕ)) (xs : Refs) (ws : List (List ℕ)) → map f (texts xs) ≡ map Some ws → list_all (λ id. is_some (f id.now)) xs ≡ true
all_some f [] ws e = refl
all_some f (x ∷ xs) [] e = absurd cc
all_some f (x ∷ xs) (w ∷ ws) e =
    let here : f x.now ≡ Some w = cc in
    let rest : map f (texts xs) ≡ map Some ws = cc in
    rw (here, all_some f xs ws rest) refl

module _ (name : List ℕ) (ids options words : Refs) (fits : Fits name (texts ids) (texts options)) where
  -- the words aren't read, so they say nothing that suits
  pub not_read : scan (texts options) at_first (texts words) ≡ None → (said : List Said) → Suits (texts ids) (texts options) (texts words) said → ⊥
  not_read e said suits = absurd (let f = sym e ∙ scan_of name (texts ids) (texts options) (texts words) fits said suits in cc)

  -- nor with another number of positional words
  pub other_count : (n : ℕ) → scan (texts options) at_first (texts words) ≡ Some n → n ≢ length (texts ids) → (said : List Said) → Suits (texts ids) (texts options) (texts words) said → ⊥
  other_count n e differs said suits = differs (let f = sym e ∙ scan_of name (texts ids) (texts options) (texts words) fits said suits in cc)

  -- `clap` takes as many positional words as there are places
  pub taken : (n : ℕ) → scan (texts options) at_first (texts words) ≡ Some n → n ≡ length (texts ids) → takes (app_of_form name (texts ids) (texts options)) (texts words) ≡ true
  taken n e count =
      let suits = suits_of name (texts ids) (texts options) (texts words) fits n e count in
      is_taken name (texts ids) (texts options) (texts words) suits.0 fits suits.1

  module _ (f : Found) (rows : rows_of f ≡ matches_of (app_of_form name (texts ids) (texts options)) (texts words)) where
    -- and finds each place
    pub none_missing : (n : ℕ) → scan (texts options) at_first (texts words) ≡ Some n → n ≡ length (texts ids) → list_all (λ id. is_some (first_value f id.now)) ids ≡ true
    none_missing n e count =
        let suits = suits_of name (texts ids) (texts options) (texts words) fits n e count in
        all_some (first_value f) ids (positionals suits.0) (places_given name (texts ids) (texts options) (texts words) fits f rows suits.0 suits.1)

    -- what is found is what is said
    pub line : (n : ℕ) → scan (texts options) at_first (texts words) ≡ Some n → n ≡ length (texts ids) → (places : Refs) (values : List (Option (List ℕ)))
        → map (λ p. Some p.now) places ≡ map (λ id. first_value f id.now) ids → values ≡ map (λ o. first_value f o.now) options
        → Gives (texts ids) (texts options) (texts words) (texts places) values
    line n e count places values p v =
        let suits = suits_of name (texts ids) (texts options) (texts words) fits n e count in
        gives name (texts ids) (texts options) (texts words) fits f rows suits.0 suits.1 (texts places) values
        (sym (texts_map Some places) ∙ (p ∙ texts_map (first_value f) ids)) (v ∙ texts_map (first_value f) options)

pub length_texts : (xs : Refs) → length (texts xs) ≡ length xs
length_texts [] = refl
length_texts (x ∷ xs) = let rest = length_texts xs in grind (arith, common_steps, rest)

-- lists with the same values are as long
pub same_length : {X Y Z : Type 0} (f : X → Z) (g : Y → Z) (xs : List X) (ys : List Y) → map f xs ≡ map g ys → length xs ≡ length ys
same_length f g [] [] e = refl
same_length f g [] (y ∷ ys) e = absurd cc
same_length f g (x ∷ xs) [] e = absurd cc
same_length f g (x ∷ xs) (y ∷ ys) e =
    let rest = same_length f g xs ys (let same : map f xs ≡ map g ys = cc in same) in
    grind (arith, common_steps, rest)

-- what is given is a line
pub line_given : (ids options words places : List (List ℕ)) (values : List (Option (List ℕ))) → Gives ids options words places values → Line words places options values
line_given ids options words places values g =
    record { said = g.said; says = g.suits.says; places_are = sym g.in_order; known = g.suits.known; once = g.suits.once; values_are = sym g.by_name }

-- and a line with as many places suits
pub suits_line : (ids options words places : List (List ℕ)) (values : List (Option (List ℕ))) (line : Line words places options values) → length places ≡ length ids
    → Suits ids options words line.said
suits_line ids options words places values line count = record { says = line.says; count = ap length line.places_are ∙ count; known = line.known; once = line.once }
