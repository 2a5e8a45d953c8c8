-- The names in the trees of files are names.
use Rattle.std.proofs.Common.{◌≡◌, ℕ, zero, suc, Bool, true, List, [], ◌∷◌, map, Some, slice_get, refl, ap, subst, ◌∙◌}
use Rattle.std.specs.List.{AllByRecursion}
use Rattle.std.specs.Char.{to_ascii_lowercase}
use Rattle.std.proofs.lemmas.Bool.{and_parts, both_ways}
use Rattle.std.proofs.lemmas.Str.Ascii.{lowercase-lowercase}
use Rattle.kp_lex.specs.declared.token.TokenKind.{TokenKind}
use Rattle.kp_lex.specs.declared.token.TokenKind.TheVariants as kinds
use Rattle.kp_lex.specs.declared.token.Token.{Token}
use Rattle.kp_lex.specs.Cutting.{IsToken, Cut}
use Rattle.kp_lex.specs.Words.{folded}
use Rattle.kp_lex.proofs.Public.{each_span_is_a_token}
use Rattle.kp_tree_grammar.specs.declared.symbol.Symbol.{Symbol}
use Rattle.kp_tree_grammar.specs.declared.tree.Word.{Word}
use Rattle.kp_tree_grammar.specs.Symbols.{Tok, symbol_of, all_seen_in, is_head, is_name}
use Rattle.kp_tree_grammar.specs.Sorts.{Sort, s_none, s_word, s_pair, s_seen, Seen, El, Maker, apply}
use Rattle.kp_tree_grammar.specs.Forms.{is_no_bracket, Named, n_cond, n_goal, n_eff, n_item, Form, token, none, refuse, ◌▹◌, ◌▸◌, many, run, maybe, make, choose, loose, bracket, within}
use Rattle.kp_tree_grammar.specs.Grammar.{rule}
use Rattle.kp_tree_grammar.specs.Reading.{ReadBy, r_token, r_none, r_both, r_after, r_end, r_more, r_last, r_next, r_absent, r_present, r_make, r_choice, r_loose, r_bracket, r_within}
use Rattle.kp_tree_grammar.proofs.KindTests.{keyword_fails}
use Rattle.kp_tree_grammar.specs.Words.{IsLow, IsName, IsHead, IsNamedCond, IsNamedEff, IsNamedItem}

-- ---- tokens of texts

-- what is known of such a token
pub record IsSeen (t : Tok Word) : Type 0 where
  pub kind : TokenKind
  pub token : IsToken kind t.word.text
  pub low : IsLow t.word.text
  pub symbol : t.symbol ≡ symbol_of kind t.word.text

low_twice : (bs : List ℕ) → IsLow (map to_ascii_lowercase bs)
low_twice [] = refl
low_twice (b ∷ bs) = ap (λ c. c ∷ map to_ascii_lowercase (map to_ascii_lowercase bs)) (lowercase-lowercase b) ∙ ap (λ cs. to_ascii_lowercase b ∷ cs) (low_twice bs)

all_seen : (text : List ℕ) (ts : List Token) → ((i : ℕ) (t : Token) → slice_get ts i ≡ Some t → IsToken t.kind (folded text t)) → AllByRecursion IsSeen (all_seen_in text ts)
all_seen text [] h = tt
all_seen text (t ∷ ts) h = (record { kind = t.kind; token = h zero t refl; low = low_twice _; symbol = refl }, all_seen text ts (λ i u e. h (suc i) u e))

pub tokens_seen : {text : List ℕ} (ts : List Token) → Cut 0 text ts → AllByRecursion IsSeen (all_seen_in text ts)
tokens_seen {text} ts h = all_seen text ts (λ i t e. (each_span_is_a_token ts i t h e).lowered)

-- ---- which symbols are of names

-- a token of no other kind has such a symbol
is_a_name : (k : TokenKind) (w : List ℕ) → is_name (symbol_of k w) ≡ true → k ≡ kinds.Name
unfolding symbol_of
is_a_name kinds.Name w h = refl
is_a_name kinds.Keyword w h = absurd (both_ways (is_name (symbol_of kinds.Keyword w)) (keyword_fails is_name w refl refl refl) h)
is_a_name _ w h = absurd cc

pub head_is_name : (s : Symbol) → is_head s ≡ true → is_name s ≡ true
head_is_name s h = rw h refl

pub named : (t : Tok Word) → IsSeen t → is_name t.symbol ≡ true → IsName t.word.text
named t s h =
    let e : s.kind ≡ kinds.Name = is_a_name s.kind t.word.text (subst (λ x. is_name x ≡ true) s.symbol h) in
    record { token = subst (λ k. IsToken k t.word.text) e s.token; low = s.low }

pub headed : (t : Tok Word) → IsSeen t → is_head t.symbol ≡ true → IsHead t.word.text
headed t s h =
    let e : s.kind ≡ kinds.Name = is_a_name s.kind t.word.text (subst (λ x. is_name x ≡ true) s.symbol (head_is_name t.symbol h)) in
    record { token = subst (λ k. IsToken k t.word.text) e s.token; low = s.low; head = subst (λ k. is_head (symbol_of k t.word.text) ≡ true) e (subst (λ x. is_head x ≡ true) s.symbol h) }

-- ---- forms

-- what the rules give
abbrev pub OfRule : {c : Sort} → Named c → El Word c → Type 0
OfRule n_cond c = IsNamedCond c
OfRule n_goal c = IsNamedCond c
OfRule n_eff e = IsNamedEff e
OfRule n_item i = IsNamedItem i

-- the form gives values with this property where the tokens are those of a text
pub data Gives : (b : Bool) (c : Sort) → Form b c → (El Word c → Type 0) → Type 1 where
  g_token : {c : Sort} {p : Symbol → Bool} {m : Symbol → Maker s_word c} {P : El Word c → Type 0} → ((t : Tok Word) → IsSeen t → p t.symbol ≡ true → P (apply Word (m t.symbol) t.word)) → Gives _ _ (token p m) P
  g_none : {c : Sort} {m : Maker s_none c} {P : El Word c → Type 0} → P (apply Word m tt) → Gives _ _ (none m) P
  g_nothing : {b : Bool} {c : Sort} {q : Symbol → Bool} {P : El Word c → Type 0} → Gives _ _ (refuse {b = b} {c = c} q) P
  g_both : {b d : Bool} {a c : Sort} {X : Form b a} {Y : Form d c} {P : El Word a → Type 0} {Q : El Word c → Type 0} → Gives _ _ X P → Gives _ _ Y Q → Gives _ _ (X ▹ Y) (λ x. P x.0 × Q x.1)
  g_after : {b : Bool} {a : Sort} {p : Symbol → Bool} {X : Form b a} {P : El Word a → Type 0} → Gives _ _ X P → Gives _ _ (p ▸ X) P
  g_many : {a : Sort} {p : Symbol → Bool} {X : Form true a} {P : El Word a → Type 0} → Gives _ _ X P → Gives _ _ (many p X) (AllByRecursion P)
  g_run : {a : Sort} {p : Symbol → Bool} {X : Seen → Form true (s_pair s_seen a)} {done : Seen → Bool} {s : Seen} {P : El Word a → Type 0} → ((s : Seen) → Gives _ _ (X s) (λ x. P x.1)) → Gives _ _ (run p X done s) (AllByRecursion P)
  g_maybe : {b : Bool} {a : Sort} {p : Symbol → Bool} {m : Maker s_none a} {X : Form b a} {P : El Word a → Type 0} → P (apply Word m tt) → Gives _ _ X P → Gives _ _ (maybe p m X) P
  g_make : {b : Bool} {a c : Sort} {m : Maker a c} {X : Form b a} {P : El Word a → Type 0} {Q : El Word c → Type 0} → Gives _ _ X P → ((x : El Word a) → P x → Q (apply Word m x)) → Gives _ _ (make m X) Q
  g_choose : {b : Bool} {a : Sort} {pick : Symbol → Form b a} {P : El Word a → Type 0} → ((s : Symbol) → Gives _ _ (pick s) P) → Gives _ _ (choose pick) P
  g_loose : {a : Sort} {X : Form true a} {P : El Word a → Type 0} → Gives _ _ X P → Gives _ _ (loose X) P
  g_bracket : {b : Bool} {a : Sort} {X : Form b a} {P : El Word a → Type 0} → Gives _ _ X P → Gives _ _ (bracket X) P
  g_within : {a : Sort} {n : Named a} → Gives _ _ (within n) (OfRule n)

module _ (rules : (c : Sort) (n : Named c) → Gives _ _ (rule n) (OfRule n)) where
  -- what it reads has the property, and the tokens that it leaves are those of the text
  pub given : {b : Bool} {c : Sort} {X : Form b c} {P : El Word c → Type 0} {ts rest : List (Tok Word)} {x : El Word c} → ReadBy b c X ts x rest → Gives _ _ X P → AllByRecursion IsSeen ts → P x × AllByRecursion IsSeen rest
  given (r_token {p = p} {t = t} e) (g_token f) s = (f t s.0 (and_parts (is_no_bracket t.symbol) (p t.symbol) e).1, s.1)
  given r_none (g_none f) s = (f, s)
  given (r_both h k) (g_both f g) s = let a = given h f s in let b = given k g a.1 in ((a.0, b.0), b.1)
  given (r_after e h) (g_after f) s = given h f s.1
  given (r_end e) (g_many f) s = (tt, s)
  given (r_more e h k) (g_many f) s = let a = given h f s in let b = given k (g_many f) a.1 in ((a.0, b.0), b.1)
  given (r_last e d) (g_run f) s = (tt, s)
  given (r_next {s = seen} e h k) (g_run f) s = let a = given h (f seen) s in let b = given k (g_run f) a.1 in ((a.0, b.0), b.1)
  given (r_absent e) (g_maybe f g) s = (f, s)
  given (r_present e h) (g_maybe f g) s = given h g s
  given (r_make {x = x} h) (g_make f g) s = let a = given h f s in (g x a.0, a.1)
  given (r_choice {t = t} h) (g_choose f) s = given h (f t.symbol) s
  given (r_loose h) (g_loose f) s = given h f s
  given (r_bracket e h k) (g_bracket f) s = let a = given h f s.1 in (a.0, a.1.1)
  given (r_within {n = n} h) g_within s = given h (g_bracket (rules _ n)) s
