-- Words are a line of options, or none: the test of their shape tells.
use Rattle.std.proofs.Common.{◌≡◌, ◌∙◌, ◌⊎◌, inl, inr, refl, sym, map, ℕ, true, List, [], length, Option, Some, None, arith}
use Rattle.std.specs.List.{list_all}
use Rattle.kp_words_options.specs.Words.{Said, Line, is_option_name, option_names, positionals, value_of}
use Rattle.kp_words_options.specs.Scan.{at_first, scan}
use Rattle.kp_words_options.proofs.Scanned.{all_fresh, complete, sound}

abbrev Texts : Type 0
Texts = List (List ℕ)

-- a line of these options that the words are
abbrev pub SomeLine : Texts → Texts → Type 0
SomeLine words options = (said : List Said) × Line words (positionals said) options (map (λ name. value_of name said) options)

scanned : (words options : Texts) (places : Texts) (values : List (Option (List ℕ))) (line : Line words places options values) → scan options at_first words ≡ Some (length (positionals line.said))
scanned words options places values line = complete options words line.said [] 0 (length (positionals line.said)) line.says line.known (all_fresh (option_names line.said)) line.once (omega arith)

pub line_decided : (words options : Texts) → list_all is_option_name options ≡ true → SomeLine words options ⊎ ((places : Texts) (values : List (Option (List ℕ))) → Line words places options values → ⊥)
line_decided words options named = by (scan options at_first words) refl
  where
    by : (o : Option ℕ) → scan options at_first words ≡ o → SomeLine words options ⊎ ((places : Texts) (values : List (Option (List ℕ))) → Line words places options values → ⊥)
    by None e = inr (λ places values line. let other = sym e ∙ scanned words options places values line in absurd cc)
    by (Some n) e =
        let reads = (sound options named words).0 [] 0 n e in
        inl (reads.0, record { said = reads.0; says = reads.1.says; places_are = refl; known = reads.1.known; once = reads.1.once; values_are = refl })
