-- Words behind that of a command that say nothing of it.
use Rattle.std.proofs.Common.{◌≡◌, ◌∙◌, List, [], ◌∷◌, ℕ, Option, codes, length, subst, Result, Ok, Err, IfErr, IsErrAnd, sym, Some, MatchOption}
use Rattle.kp_words_options.specs.Words.{Line}
use Rattle.kp_words_options.proofs.Public.{words_are_one_line}
use Rattle.kp_words_options.specs.declared.stop.WordStop.{WordStop}
use Rattle.kp_words.specs.declared.verb.Verb.{Verb}
use Rattle.kp_words.specs.Asked.{Asked}
use Rattle.kp_words.specs.Forms.{form}
use Rattle.kp_words.specs.Options.{IsOfRange, SaysSize, AreApart}
use Rattle.kp_words.specs.declared.verb.Verb.TheVariants as verbs
use Rattle.kp_words.specs.Command.{said, place_in, AreOf, Behind, AreWords}

abbrev Texts : Type 0
Texts = List (List ℕ)

abbrev Values : Type 0
Values = List (Option (List ℕ))

-- they are no line with as many positional words
pub no_line : (v : Verb) (words : Texts) → ((places : Texts) (values : Values) → length places ≡ length (form v).places → Line words places (form v).options values → ⊥) → (c : Asked) → Behind v words c → ⊥
no_line v words none c behind = none behind.places behind.values behind.are_of.as_many behind.line

-- what is said behind it is said by the one line that the words are
pub of_line : (v : Verb) (words places : Texts) (values : Values) (c : Asked) → Line words places (form v).options values → Behind v words c → AreOf v places values c
of_line v words places values c line behind =
    let same = words_are_one_line words (form v).options behind.places places behind.values values behind.line line in
    subst (λ us. AreOf v places us c) same.1 (subst (λ qs. AreOf v qs behind.values c) same.0 behind.are_of)

-- what an error says is handed up
pub err_up : {T : Type 0} (r : Result T WordStop) (e : WordStop) (P : WordStop → Type 0) → IsErrAnd r (λ y. y ≡ e) → P e → IfErr r P
err_up (Ok x) e P is h = tt
err_up (Err y) e P is h = subst P (sym is) h

pub err_is : {T : Type 0} (r : Result T WordStop) (e s : WordStop) → IsErrAnd r (λ y. y ≡ e) → r ≡ Err s → e ≡ s
err_is (Ok x) e s is h = absurd is
err_is (Err y) e s is h = let same : y ≡ s = cc in sym is ∙ same

-- what an option holds
pub when_some : {X : Type 0} (o : Option X) (x : X) (N : Type 0) (P : X → Type 0) → MatchOption o N P → o ≡ Some x → P x
when_some o x N P h e = subst (λ p. MatchOption p N P) e h

-- ---- a generated problem

-- the size of one is in its range
pub bench_is_sized : (words : Texts) (c : Asked) → AreWords words c → c.verb ≡ verbs.Bench → IsOfRange 2 100 c.size
bench_is_sized words c are bench = let a = subst (λ v. AreOf v are.behind.places are.behind.values c) bench are.behind.are_of in go are.behind.places a.as_many a.are_asked.generated.size
  where
    go : (places : Texts) → length places ≡ 2 → SaysSize (place_in verbs.Bench places (codes "N")) c.size → IsOfRange 2 100 c.size
    go [] e says = absurd cc
    go (x ∷ []) e says = absurd cc
    go (x ∷ y ∷ []) e says = says.0
    go (x ∷ y ∷ z ∷ zs) e says = absurd cc

-- ---- a translation

-- the names of the two files that one writes differ
pub outputs_differ : (words : Texts) (c : Asked) → AreWords words c → c.verb ≡ verbs.Translate → (c.domain_out ≡ c.problem_out) → ⊥
outputs_differ words c are translate = let a = subst (λ v. AreOf v are.behind.places are.behind.values c) translate are.behind.are_of in go are.behind.places a.as_many a.are_asked.files.domain_out a.are_asked.files.problem_out a.are_asked.files.outputs_differ
  where
    go : (places : Texts) → length places ≡ 4 → c.domain_out ≡ said (place_in verbs.Translate places (codes "OD")) → c.problem_out ≡ said (place_in verbs.Translate places (codes "OP")) → AreApart (place_in verbs.Translate places (codes "OD")) (place_in verbs.Translate places (codes "OP")) → c.domain_out ≡ c.problem_out → ⊥
    go [] e first second apart same = absurd cc
    go (d ∷ []) e first second apart same = absurd cc
    go (d ∷ p ∷ []) e first second apart same = absurd cc
    go (d ∷ p ∷ x ∷ []) e first second apart same = absurd cc
    go (d ∷ p ∷ x ∷ y ∷ []) e first second apart same = apart (sym first ∙ (same ∙ second))
    go (d ∷ p ∷ x ∷ y ∷ z ∷ zs) e first second apart same = absurd cc
