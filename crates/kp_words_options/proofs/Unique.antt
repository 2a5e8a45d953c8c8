-- Words say one thing at most, and what it is can be computed.
use Rattle.std.proofs.Common.{◌≡◌, ◌∙◌, ℕ, false, List, [], ◌∷◌, Option, Some, None, true≢false, refl, ap, sym, option_map, map, if◌then◌else◌}
use Rattle.clap.specs.Lexer.{long_of}
use Rattle.kp_words_options.specs.Words.{Said, Says, Line, word, option, nothing, a_word, apart, joined, is_plain, differ, option_names, positionals, value_of}
use Rattle.kp_words_options.proofs.Options.{long_apart, long_joined}

-- what an option says, by what is said behind it
abbrev after : Option (List ℕ × Option (List ℕ)) → Option (List Said) → (List ℕ → Option (List Said)) → Option (List Said)
after None said waits = None
after (Some (n, None)) said waits = waits n
after (Some (n, Some v)) said waits = if is_plain v then option_map (λ s. option n v ∷ s) said else None

-- what words say, where an option may wait for its value
abbrev pub what_is_said : Option (List ℕ) → List (List ℕ) → Option (List Said)
what_is_said None [] = Some []
what_is_said (Some n) [] = None
what_is_said (Some n) (w ∷ words) = if is_plain w then option_map (λ s. option n w ∷ s) (what_is_said None words) else None
what_is_said None (w ∷ words) = if is_plain w then option_map (λ s. word w ∷ s) (what_is_said None words) else after (long_of w) (what_is_said None words) (λ n. what_is_said (Some n) words)

pub is_said : (words : List (List ℕ)) (said : List Said) → Says words said → what_is_said None words ≡ Some said
is_said _ _ nothing = refl
is_said _ _ (a_word w words said plain says) = rw (plain, is_said words said says) refl
is_said _ _ (apart n v words said named plain says) = rw (long_apart n named, plain, is_said words said says) refl
is_said _ _ (joined n v words said named plain says) = rw (long_joined n v named, plain, is_said words said says) refl

pub says_one : (words : List (List ℕ)) (a b : List Said) → Says words a → Says words b → a ≡ b
says_one words a b p q = let same = sym (is_said words a p) ∙ is_said words b q in cc

-- words are one line at most
pub one_line : (words options ps qs : List (List ℕ)) (vs us : List (Option (List ℕ))) → Line words ps options vs → Line words qs options us → (ps ≡ qs) × (vs ≡ us)
one_line words options ps qs vs us a b =
    let same = says_one words a.said b.said a.says b.says in (
      sym a.places_are ∙ (ap positionals same ∙ b.places_are),
      sym a.values_are ∙ (ap (λ said. map (λ name. value_of name said) options) same ∙ b.values_are),
    )

-- words whose options cannot be told say nothing
pub unsaid : (words options ps : List (List ℕ)) (vs : List (Option (List ℕ))) → what_is_said None words ≡ None → Line words ps options vs → ⊥
unsaid words options ps vs e line = let f = sym e ∙ is_said words line.said line.says in absurd cc

-- nor do those that say an option twice
pub said_twice : (words options ps : List (List ℕ)) (vs : List (Option (List ℕ))) (said : List Said) → what_is_said None words ≡ Some said → differ (option_names said) ≡ false → Line words ps options vs → ⊥
said_twice words options ps vs said e twice line =
    let f : Some line.said ≡ Some said = sym (is_said words line.said line.says) ∙ e in
    let same : line.said ≡ said = cc in
    true≢false (sym line.once ∙ (ap (λ s. differ (option_names s)) same ∙ twice))

-- what words say is what a line of them has
pub said_line : (words options ps : List (List ℕ)) (vs : List (Option (List ℕ))) (said : List Said) → what_is_said None words ≡ Some said → Line words ps options vs
    → (positionals said ≡ ps) × (map (λ name. value_of name said) options ≡ vs)
said_line words options ps vs said e line =
    let f : Some said ≡ Some line.said = sym e ∙ is_said words line.said line.says in
    let same : said ≡ line.said = cc in
    (ap positionals same ∙ line.places_are, ap (λ s. map (λ name. value_of name s) options) same ∙ line.values_are)
