-- For examples: that words are a command, by what computing shows. What isn't said needs no word of its own.
use Rattle.std.proofs.Common.{◌≡◌, ◌∙◌, List, ◌∷◌, ℕ, true, Option, None, Vec, codes, map, length, refl, sym, ap, subst}
use Rattle.std.specs.List.{list_all}
use Rattle.std.specs.declared.alloc.Global.{Global}
use Rattle.kp_base.specs.declared.limits.Mode.{Mode}
use Rattle.kp_words_options.specs.Words.{Said, Says, positionals, option_names, value_of, has_text, differ}
use Rattle.kp_words.specs.declared.verb.Verb.{Verb}
use Rattle.kp_words.specs.declared.source.Family.{Family}
use Rattle.kp_words.specs.Asked.{Asked}
use Rattle.kp_words.specs.Forms.{form}
use Rattle.kp_words.specs.Options.{SaysLimit, SaysBudget, SaysBound, SaysMode, SaysFamily, SaysSize, AreApart, AreNotBoth, usual_limit, usual_budget, usual_bound, usual_mode, no_family, no_size}
use Rattle.kp_words.specs.Command.{said, place_in, value_in, AreFiles, IsSource, AreNumbers, IsGenerated, AreAsked, Behind, AreUtf8, IsCall}

-- words that say this are a call that asks for what it says
pub call_by_words : (v : Verb) (words : List (Vec ℕ Global)) (c : Asked) (rest : List (List ℕ)) (says : List Said) → AreUtf8 (map (λ w. w.items) words) → map (λ w. w.items) words ≡ (form v).word ∷ rest → Says rest says
    → list_all (has_text (form v).options) (option_names says) ≡ true → differ (option_names says) ≡ true → length (positionals says) ≡ length (form v).places → c.verb ≡ v
    → AreAsked (place_in v (positionals says)) (value_in v (map (λ name. value_of name says) (form v).options)) c → IsCall v words c
call_by_words v words c rest says utf8 are line known once many is asked =
    let behind : Behind v rest c = record {
      places = positionals says;
      values = map (λ name. value_of name says) (form v).options;
      line = record { said = says; says = line; places_are = refl; known = known; once = once; values_are = refl };
      are_of = record { as_many = many; are_asked = asked };
    } in
    let first = subst (λ (u : Verb). map (λ w. w.items) words ≡ (form u).word ∷ rest) (sym is) are in
    record { is_command = record { utf8 = utf8; are_words = record { rest = rest; are = first; behind = subst (λ (u : Verb). Behind u rest c) (sym is) behind } }; of_verb = is }

-- ---- the parts of what is asked for

abbrev Names : Type 0
Names = List ℕ × List ℕ × List ℕ × List ℕ × List ℕ × List ℕ × Option (List ℕ)

abbrev Word : Type 0
Word = Option (List ℕ)

-- the names of files
abbrev names_of : Asked → Names
names_of c = (c.domain, c.problem, c.plan, c.written, c.domain_out, c.problem_out, c.classical)

abbrev said_names : (List ℕ → Word) → (List ℕ → Word) → Names
said_names place value = (said (place (codes "D")), said (place (codes "P")), said (place (codes "PLAN")), said (place (codes "T")), said (place (codes "OD")), said (place (codes "OP")), value (codes "classical"))

pub files_by_computing : {place value : List ℕ → Word} {c : Asked} → names_of c ≡ said_names place value → AreApart (place (codes "OD")) (place (codes "OP")) → AreFiles place value c
files_by_computing e apart = record {
  domain = ap (λ (n : Names). n.0) e;
  problem = ap (λ (n : Names). n.1) e;
  plan = ap (λ (n : Names). n.2) e;
  written = ap (λ (n : Names). n.3) e;
  domain_out = ap (λ (n : Names). n.4) e;
  problem_out = ap (λ (n : Names). n.5) e;
  outputs_differ = apart;
  classical = ap (λ (n : Names). n.6) e;
}

-- nothing is said of tags
abbrev Tags : Type 0
Tags = Word × Word × Mode × Word

abbrev tags_of : (List ℕ → Word) → Asked → Tags
tags_of value c = (value (codes "mode"), value (codes "merges"), c.mode, c.merges)

abbrev usual_tags : Tags
usual_tags = (None, None, usual_mode, None)

pub usual_source : {value : List ℕ → Word} {c : Asked} → tags_of value c ≡ usual_tags → IsSource value c
usual_source {value} {c} e =
    let none : value (codes "mode") ≡ None = ap (λ (t : Tags). t.0) e in
    record {
      mode = subst (λ o. SaysMode o c.mode) (sym none) (ap (λ (t : Tags). t.2) e);
      merges = ap (λ (t : Tags). t.3) e ∙ sym (ap (λ (t : Tags). t.1) e);
      one_source = subst (λ o. AreNotBoth o (value (codes "merges"))) (sym none) tt;
    }

-- no number is said
abbrev Numbers : Type 0
Numbers = Word × Word × Word × ℕ × ℕ × ℕ

abbrev numbers_of : (List ℕ → Word) → Asked → Numbers
numbers_of value c = (value (codes "implicates"), value (codes "budget"), value (codes "bound"), c.implicates, c.budget, c.bound)

abbrev no_numbers : Numbers
no_numbers = (None, None, None, usual_limit, usual_budget, usual_bound)

pub usual_numbers : {value : List ℕ → Word} {c : Asked} → numbers_of value c ≡ no_numbers → AreNumbers value c
usual_numbers {value} {c} e = record {
  implicates = subst (λ o. SaysLimit o c.implicates) (sym (ap (λ (n : Numbers). n.0) e)) (ap (λ (n : Numbers). n.3) e);
  budget = subst (λ o. SaysBudget o c.budget) (sym (ap (λ (n : Numbers). n.1) e)) (ap (λ (n : Numbers). n.4) e);
  bound = subst (λ o. SaysBound o c.bound) (sym (ap (λ (n : Numbers). n.2) e)) (ap (λ (n : Numbers). n.5) e);
}

-- no problem is generated
abbrev Generated : Type 0
Generated = Word × Word × Family × ℕ

abbrev generated_of : (List ℕ → Word) → Asked → Generated
generated_of place c = (place (codes "FAMILY"), place (codes "N"), c.family, c.size)

abbrev none_generated : Generated
none_generated = (None, None, no_family, no_size)

pub nothing_generated : {place : List ℕ → Word} {c : Asked} → generated_of place c ≡ none_generated → IsGenerated place c
nothing_generated {place} {c} e = record {
  family = subst (λ o. SaysFamily o c.family) (sym (ap (λ (g : Generated). g.0) e)) (ap (λ (g : Generated). g.2) e);
  size = subst (λ o. SaysSize o c.size) (sym (ap (λ (g : Generated). g.1) e)) (ap (λ (g : Generated). g.3) e);
}
