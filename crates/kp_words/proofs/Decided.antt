-- Words are a command, or none.
use Rattle.std.proofs.Common.{◌≡◌, ◌∙◌, inl, inr, refl, sym, subst, ap, ℕ, List, [], ◌∷◌, Option, map, length, codes, arith}
use Rattle.std.specs.Str.{is_utf8, IsUtf8}
use Rattle.std.proofs.lemmas.Bool.{cases_lt}
use Rattle.std.proofs.lemmas.Str.{IsUtf8-from_is_utf8, is_utf8-from_IsUtf8}
use Rattle.kp_words_options.specs.Words.{positionals, value_of}
use Rattle.kp_words_options.proofs.Public.{line_decided}
use Rattle.kp_words.specs.declared.source.Family.{Family}
use Rattle.kp_words.specs.declared.verb.Verb.{Verb}
use Rattle.kp_base.specs.declared.limits.Mode.{Mode}
use Rattle.kp_words.specs.Asked.{Asked}
use Rattle.kp_words.specs.Forms.{form, all_verbs}
use Rattle.kp_words.specs.Options.{SaysFamily, SaysSize, SaysMode, SaysLimit, SaysBudget, SaysBound, AreApart, AreNotBoth}
use Rattle.kp_words.specs.Command.{said, place_in, value_in, AreAsked, AreOf, Behind, AreUtf8, AreWords}
use Rattle.kp_words.specs.Laws.{WordsAreDecided}
use Rattle.kp_words.proofs.Calls.{of_line}
use Rattle.kp_words.proofs.Decisions.{Decided, named_decided, both, by_test, like, mode_decided, not_both_decided, limit_decided, budget_decided, bound_decided, family_decided, size_decided, apart_decided}
use Rattle.kp_words.proofs.Fitting.{are_names, found}
use Rattle.kp_words.proofs.Verbs.{verb_word, behind_it}

abbrev Texts : Type 0
Texts = List (List ℕ)

-- ---- what is said under names asks for something, or for nothing

module _ (place value : List ℕ → Option (List ℕ)) where
  abbrev Outputs : Type 0
  Outputs = AreApart (place (codes "OD")) (place (codes "OP"))

  abbrev Generated : Type 0
  Generated = ((f : Family) × SaysFamily (place (codes "FAMILY")) f) × ((n : ℕ) × SaysSize (place (codes "N")) n)

  abbrev Tags : Type 0
  Tags = (((m : Mode) × SaysMode (value (codes "mode")) m) × AreNotBoth (value (codes "mode")) (value (codes "merges"))) × ((n : ℕ) × SaysLimit (value (codes "implicates")) n)

  abbrev Bounds : Type 0
  Bounds = ((n : ℕ) × SaysBudget (value (codes "budget")) n) × ((n : ℕ) × SaysBound (value (codes "bound")) n)

  parts_decided : Decided ((Outputs × Generated) × (Tags × Bounds))
  parts_decided =
      both (Outputs × Generated) (Tags × Bounds)
      (both Outputs Generated (apart_decided (place (codes "OD")) (place (codes "OP"))) (both _ _ (family_decided (place (codes "FAMILY"))) (size_decided (place (codes "N")))))
      (both Tags Bounds (both _ _ (both _ _ (mode_decided (value (codes "mode"))) (not_both_decided (value (codes "mode")) (value (codes "merges")))) (limit_decided (value (codes "implicates")))) (both _ _ (budget_decided (value (codes "budget"))) (bound_decided (value (codes "bound")))))

  asked_of : (v : Verb) → (Outputs × Generated) × (Tags × Bounds) → (c : Asked) × (c.verb ≡ v) × AreAsked place value c
  asked_of v ((apart, (family, size)), (((mode, alone), limit), (budget, bound))) = (
    record {
      verb = v;
      domain = said (place (codes "D"));
      problem = said (place (codes "P"));
      plan = said (place (codes "PLAN"));
      written = said (place (codes "T"));
      domain_out = said (place (codes "OD"));
      problem_out = said (place (codes "OP"));
      mode = mode.0;
      merges = value (codes "merges");
      implicates = limit.0;
      budget = budget.0;
      bound = bound.0;
      classical = value (codes "classical");
      family = family.0;
      size = size.0;
    },
    refl,
    record {
      files = record { domain = refl; problem = refl; plan = refl; written = refl; domain_out = refl; problem_out = refl; outputs_differ = apart; classical = refl };
      source = record { mode = mode.1; merges = refl; one_source = alone };
      numbers = record { implicates = limit.1; budget = budget.1; bound = bound.1 };
      generated = record { family = family.1; size = size.1 };
    },
  )

  back : (c : Asked) → AreAsked place value c → (Outputs × Generated) × (Tags × Bounds)
  back c a =
      let g = a.generated in
      let s = a.source in
      let n = a.numbers in
      ((a.files.outputs_differ, ((c.family, g.family), (c.size, g.size))), ((((c.mode, s.mode), s.one_source), (c.implicates, n.implicates)), ((c.budget, n.budget), (c.bound, n.bound))))

  pub asked_decided : (v : Verb) → Decided ((c : Asked) × (c.verb ≡ v) × AreAsked place value c)
  asked_decided v = like _ _ (asked_of v) (λ h. back h.0 h.2) parts_decided

-- ---- words behind that of a command

same_count : (n m : ℕ) → Decided (n ≡ m)
same_count n m = elim (cases_lt n m) [
  | inl less ↦ inr (λ e. absurd (omega (arith, less, e)))
  | inr le ↦ elim (cases_lt m n) [ inl more ↦ inr (λ e. absurd (omega (arith, more, e))) | inr ge ↦ inl (omega (arith, le, ge)) ]
]

are_decided : (v : Verb) (places : Texts) (values : List (Option (List ℕ))) → Decided ((c : Asked) × (c.verb ≡ v) × AreOf v places values c)
are_decided v places values = elim (same_count (length places) (length (form v).places)) [
  | inl same ↦ like _ _ (λ h. (h.0, h.1, record { as_many = same; are_asked = h.2 })) (λ h. (h.0, h.1, h.2.are_asked)) (asked_decided (place_in v places) (value_in v values) v)
  | inr other ↦ inr (λ h. other h.2.as_many)
]

behind_decided : (v : Verb) (words : Texts) → Decided ((c : Asked) × (c.verb ≡ v) × Behind v words c)
behind_decided v words = elim (line_decided words (form v).options (are_names v)) [
  | inl l ↦ elim (are_decided v (positionals l.0) (map (λ name. value_of name l.0) (form v).options)) [
    | inl h ↦ inl (h.0, h.1, record { places = positionals l.0; values = map (λ name. value_of name l.0) (form v).options; line = l.1; are_of = h.2 })
    | inr none ↦ inr (λ h. none (h.0, h.1, of_line v words (positionals l.0) (map (λ name. value_of name l.0) (form v).options) h.0 l.1 h.2))
  ]
  | inr none ↦ inr (λ h. none h.2.places h.2.values h.2.line)
]

-- ---- all words

utf8_decided : (words : Texts) → Decided (AreUtf8 words)
utf8_decided [] = inl tt
utf8_decided (word ∷ words) = both (IsUtf8 word) (AreUtf8 words) (by_test (IsUtf8 word) (is_utf8 word) (IsUtf8-from_is_utf8 word) (is_utf8-from_IsUtf8 word)) (utf8_decided words)

words_are : (v : Verb) (word : List ℕ) (rest : Texts) (c : Asked) → word ≡ verb_word v → c.verb ≡ v → Behind v rest c → AreWords (word ∷ rest) c
words_are v word rest c e same behind = record { rest = rest; are = ap (λ w. w ∷ rest) (e ∙ ap verb_word (sym same)); behind = subst (λ x. Behind x rest c) (sym same) behind }

read_decided : (words : Texts) → Decided ((c : Asked) × AreWords words c)
read_decided [] = inr (λ h. let e = h.1.are in absurd cc)
read_decided (word ∷ rest) = elim (named_decided verb_word all_verbs found word) [
  | inl v ↦ like _ _ (λ h. (h.0, words_are v.0 word rest h.0 v.1 h.1 h.2)) (λ h. let b = behind_it v.0 rest (word ∷ rest) h.0 (ap (λ w. w ∷ rest) v.1) h.1 in (h.0, b.0, b.1)) (behind_decided v.0 rest)
  | inr none ↦ inr (λ h. let e = h.1.are in none (h.0.verb, let same : word ≡ verb_word h.0.verb = cc in same))
]

pub words_decided : WordsAreDecided
words_decided words = elim (utf8_decided (map (λ w. w.items) words)) [
  | inl utf8 ↦ elim (read_decided (map (λ w. w.items) words)) [
    | inl h ↦ inl (h.0, record { utf8 = utf8; are_words = h.1 })
    | inr none ↦ inr (λ c is. none (c, is.are_words))
  ]
  | inr none ↦ inr (λ c is. none is.utf8)
]
