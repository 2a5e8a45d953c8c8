-- Commands by their words.
use Rattle.std.proofs.Common.{◌≡◌, ◌≢◌, ◌∙◌, List, ◌∷◌, ℕ, MatchOption, Vec, map, sym, subst}
use Rattle.std.specs.declared.alloc.Global.{Global}
use Rattle.kp_words.specs.Asked.{Asked}
use Rattle.kp_words.specs.Forms.{form, all_verbs, verb_named}
use Rattle.kp_words.specs.Command.{Behind, AreWords, IsCommand, IsNoCommand}
use Rattle.kp_words.specs.declared.verb.Verb.{Verb}
use Rattle.kp_words.proofs.Fitting.{found}
use Rattle.kp_words.proofs.Named.{named_is, one_named}

-- the word of a command
abbrev pub verb_word : Verb → List ℕ
verb_word v = (form v).word

-- ---- a word is one command at most

pub verb_named_is : (w : List ℕ) → MatchOption (verb_named w) ((v : Verb) → w ≢ verb_word v) (λ v. w ≡ verb_word v)
verb_named_is w = named_is verb_word all_verbs found w

pub one_verb : (v w : Verb) → verb_word v ≡ verb_word w → v ≡ w
one_verb v w e = one_named verb_word all_verbs found v w e

-- ---- words are no command

-- words of one command say nothing of another
pub behind_it : (v : Verb) (rest : List (List ℕ)) (words : List (List ℕ)) (c : Asked) → words ≡ verb_word v ∷ rest → AreWords words c → (c.verb ≡ v) × Behind v rest c
behind_it v rest words c e are =
    let f : verb_word v ∷ rest ≡ verb_word c.verb ∷ are.rest = sym e ∙ are.are in
    let same : c.verb ≡ v = one_verb c.verb v (let g : verb_word c.verb ≡ verb_word v = cc in g) in
    let others : are.rest ≡ rest = cc in
    (same, subst (λ x. Behind x rest c) same (subst (λ ws. Behind c.verb ws c) others are.behind))

-- where nothing is said behind a word, the words are no command
pub no_command : (v : Verb) (words : List (Vec ℕ Global)) (rest : List (List ℕ)) → map (λ w. w.items) words ≡ verb_word v ∷ rest → ((c : Asked) → Behind v rest c → ⊥) → IsNoCommand words
no_command v words rest e none c is = none c (behind_it v rest (map (λ w. w.items) words) c e is.are_words).1
