-- Atoms and literals: how they are read, and where they are refused first.
use Rattle.std.proofs.Common.{◌≡◌, ℕ, suc, ◌≤◌, Bool, true, false, ◌&&◌, List, [], ◌∷◌, length, drop, ◌⊎◌, inl, inr, None, Some, cond, refl, sym, ap, subst, ◌∙◌, arith, true≢false}
use Rattle.kp_base.specs.declared.lit.Lit.{Lit as Literal}
use Rattle.kp_tree_grammar.specs.declared.tree.Word.{Word}
use Rattle.kp_tree_grammar.specs.declared.symbol.Symbol.{Symbol}
use Rattle.kp_tree_grammar.specs.declared.symbol.Symbol.TheVariants as symbols
use Rattle.kp_tree_grammar.specs.Language.{Atom, Lit, Tok, first_is, is_left, is_right, is_head, is_name, is_not, not_lit, s_lit, s_term, El, m_lit, m_name, Form, hits, token, ◌▸◌, many, make, choose, refuse, fact, fact_body, lit, lit_case, At, stop, stop_by, Reads, Stops, r_token, r_both, r_after, r_end, r_more, r_make, r_choice, r_bracket, s_token, s_nothing, s_first, s_second, s_here, s_later, s_make, s_none_there, s_choice, s_unopened, s_inside, s_unclosed}
use Rattle.kp_tree_grammar.proofs.Public.{a_form_reads_once, a_form_stops_once, form_never_both, form_reads_or_stops}
use Rattle.kp_tree_cursor.specs.declared.cursor.Class.TheVariants as classes
use Rattle.kp_tree_cursor.proofs.Public.{class_is_no_bracket}
use Rattle.kp_tags_files.specs.Grammar.{name_of_atom}
use Rattle.kp_tags_files.specs.Numbers.{Numbers, IsLit}
use Rattle.kp_tags_files.specs.Parts.{is_denied, Walk, arrived, word, closes, opens_inside, Reaches, Halts, stopped, unknown}
use Rattle.kp_tags_files.proofs.Walks.{follows, is_word, is_a_head, no_head, not_is_no_head, fact_is_long}
use Rattle.kp_tags_files.proofs.Contexts.{halts_inside, halts_unclosed, halts_after, halts_made, halts_choice}

-- ---- atoms

names_walk : {number : Numbers} {d : ℕ} {ts rest : List (Tok Word)} {xs : List (El Word s_term)} → Reads (many is_name (token is_name (λ _. m_name))) ts xs rest → Walk number d ts d rest
names_walk (r_end e) = arrived
names_walk (r_more e (r_token {t = t} h) k) = let w = is_word is_name t.symbol h in word w.0 w.1 (names_walk k)

names_never_stop : {ts : List (Tok Word)} {at : At Word} → Stops (many is_name (token is_name (λ _. m_name))) ts at → ⊥
names_never_stop (s_here {ts = []} e h) = true≢false (sym e)
names_never_stop (s_here {ts = t ∷ ts} e (s_token f)) = true≢false (sym e ∙ sym (class_is_no_bracket classes.Name t.symbol) ∙ f)
names_never_stop (s_later e g h) = names_never_stop h

-- no atom with no number stands here
abbrev pub HasNumbers : Numbers → List (Tok Word) → Type 0
HasNumbers number ts = (a : Atom Word) (rest : List (Tok Word)) → Reads fact ts a rest → number (name_of_atom a) ≡ None → ⊥

module _ {number : Numbers} {d : ℕ} where
  walk_inside : {ts rest : List (Tok Word)} {a : Atom Word} → HasNumbers number ts → Reads fact ts a rest → Walk number (suc d) ts (suc d) rest
  walk_inside n (r_bracket l (r_make (r_both (r_token {t = h} e) k)) r) = let w = is_word is_head h.symbol e in opens_inside l n (word w.0 w.1 (follows (names_walk k) (closes r arrived)))

  -- over an atom with a number
  pub walk_fact : {ts rest : List (Tok Word)} {a : Atom Word} {n : ℕ} → Reads fact ts a rest → number (name_of_atom a) ≡ Some n → Walk number (suc d) ts (suc d) rest
  walk_fact {ts} {rest} {a} {n} h e = walk_inside only h where
    only : HasNumbers number ts
    only b others k none =
        let same : a ≡ b = (a_form_reads_once _ _ fact ts rest others a b h k).0 in
        let both : Some n ≡ None = sym e ∙ ap (λ (x : Atom Word). number (name_of_atom x)) same ∙ none in
        cc

  -- where an atom stops
  pub fact_halts : {ts : List (Tok Word)} {at : At Word} → Stops fact ts at → Halts number (suc d) fact ts at.tokens
  fact_halts (s_unopened e) = stopped (s_unopened e) arrived (omega arith)
  fact_halts (s_inside l (s_make (s_first (s_token f)))) = stopped (s_inside l (s_make (s_first (s_token f)))) arrived (omega arith)
  fact_halts (s_inside l (s_make (s_second (r_token e) k))) = absurd (names_never_stop k)
  fact_halts (s_unclosed {t = t} {ts = us} {rest = rest} l (r_make (r_both (r_token {t = h} {ts = vs} e) k)) f) =
      let w = is_word is_head h.symbol e in
      let s : Stops fact (t ∷ h ∷ vs) (stop rest) = s_unclosed l (r_make (r_both (r_token e) k)) f in
      stopped {at = stop rest} s (opens_inside l (λ b others g none. form_never_both _ _ fact (t ∷ h ∷ vs) others b (stop rest) g s) (word w.0 w.1 (names_walk k))) (omega arith)

  -- an atom without a number is refused behind its bracket
  pub fact_unknown : {ts rest : List (Tok Word)} {a : Atom Word} → Reads fact ts a rest → number (name_of_atom a) ≡ None → Halts number (suc d) fact ts (drop 1 ts)
  fact_unknown {ts} {rest} {a} h none = unknown comes arrived h none where
    comes : Reaches fact ts (drop 1 ts)
    comes = record {
      reads = λ b others k. let same : rest ≡ others = (a_form_reads_once _ _ fact ts rest others a b h k).1 in omega (arith, fact_is_long h, ap (λ (us : List (Tok Word)). length us) same);
      stops = λ at k. absurd (form_never_both _ _ fact ts rest a at h k);
    }

-- ---- literals

case_of_head : (s : Symbol) → is_head s ≡ true → lit_case s ≡ make (m_lit true) fact_body
case_of_head symbols.Not e = absurd cc
case_of_head s e = ap (λ (v : Bool). cond v (make (m_lit true) fact_body) (refuse not_lit)) e

case_of_not : (s : Symbol) → is_not s ≡ true → lit_case s ≡ is_not ▸ make (m_lit false) fact
case_of_not symbols.Not e = refl
case_of_not _ e = absurd cc

case_of_other : (s : Symbol) → is_head s ≡ false → is_not s ≡ false → lit_case s ≡ refuse not_lit
case_of_other symbols.Not e f = absurd cc
case_of_other s e f = ap (λ (v : Bool). cond v (make (m_lit true) fact_body) (refuse not_lit)) e

hit_of_not : (s : Symbol) → is_not s ≡ true → hits is_not s ≡ true
hit_of_not symbols.Not e = refl
hit_of_not _ e = absurd cc

-- a literal is an atom, or a negated one
pub data Splits : List (Tok Word) → Lit Word → List (Tok Word) → Type 0 where
  plain : {ts rest : List (Tok Word)} {a : Atom Word} → Reads fact ts a rest → Splits ts (record { positive = true; atom = a }) rest
  negated : {t n u : Tok Word} {ts rest : List (Tok Word)} {a : Atom Word} → is_left t.symbol ≡ true → is_not n.symbol ≡ true → Reads fact ts a (u ∷ rest) → is_right u.symbol ≡ true → Splits (t ∷ n ∷ ts) (record { positive = false; atom = a }) rest

no_case : {ts rest : List (Tok Word)} {l : Lit Word} → Reads (refuse {b = true} {c = s_lit} not_lit) ts l rest → ⊥
no_case {ts} {rest} {l} h = form_never_both _ _ (refuse {b = true} {c = s_lit} not_lit) ts rest l (stop_by not_lit ts) h s_nothing

by_head : (v : Bool) {t n u : Tok Word} {ts rest : List (Tok Word)} {l : Lit Word} → is_left t.symbol ≡ true → Reads (cond v (make (m_lit true) fact_body) (refuse not_lit)) (n ∷ ts) l (u ∷ rest) → is_right u.symbol ≡ true → Splits (t ∷ n ∷ ts) l rest
by_head true left (r_make h) right = plain (r_bracket left h right)
by_head false left h right = absurd (no_case h)

by_case : (s : Symbol) {t n u : Tok Word} {ts rest : List (Tok Word)} {l : Lit Word} → n.symbol ≡ s → is_left t.symbol ≡ true → Reads (lit_case s) (n ∷ ts) l (u ∷ rest) → is_right u.symbol ≡ true → Splits (t ∷ n ∷ ts) l rest
by_case symbols.Not e left (r_after hit (r_make h)) right = negated left (ap is_not e) h right
by_case s e left h right = by_head (is_head s) left h right

pub lit_splits : {ts rest : List (Tok Word)} {l : Lit Word} → Reads lit ts l rest → Splits ts l rest
lit_splits (r_bracket left (r_choice {t = n} h) right) = by_case n.symbol refl left h right

-- the form that goes with a token
choose_as : {W : Type 0} (n : Tok W) (X : Form true s_lit) {ts rest : List (Tok W)} {l : Lit W} → lit_case n.symbol ≡ X → Reads X (n ∷ ts) l rest → Reads (choose lit_case) (n ∷ ts) l rest
choose_as {W} n X {ts} {rest} {l} e h = r_choice (subst (λ (Y : Form true s_lit). Reads Y (n ∷ ts) l rest) (sym e) h)

-- an atom is a literal
pub plain_reads : {W : Type 0} {ts rest : List (Tok W)} {a : Atom W} → Reads fact ts a rest → Reads lit ts (record { positive = true; atom = a }) rest
plain_reads (r_bracket left (r_make (r_both (r_token {t = n} e) k)) right) =
    r_bracket left (choose_as n (make (m_lit true) fact_body) (case_of_head n.symbol (is_a_head n.symbol e)) (r_make (r_make (r_both (r_token e) k)))) right

-- what stands in a negated literal
inside_negated : {W : Type 0} {n : Tok W} {ts rest : List (Tok W)} {a : Atom W} → is_not n.symbol ≡ true → Reads fact ts a rest → Reads (choose lit_case) (n ∷ ts) (record { positive = false; atom = a }) rest
inside_negated {n = n} e h = choose_as n (is_not ▸ make (m_lit false) fact) (case_of_not n.symbol e) (r_after (hit_of_not n.symbol e) (r_make h))

-- a negated atom is a literal
pub negated_reads : {W : Type 0} {t n u : Tok W} {ts rest : List (Tok W)} {a : Atom W} → is_left t.symbol ≡ true → is_not n.symbol ≡ true → Reads fact ts a (u ∷ rest) → is_right u.symbol ≡ true → Reads lit (t ∷ n ∷ ts) (record { positive = false; atom = a }) rest
negated_reads left e h right = r_bracket left (inside_negated e h) right

-- ---- where a literal without a negation stops

-- the two stop at one token
record StopsToo (ts : List (Tok Word)) (at : At Word) : Type 0 where
  there : At Word
  stops : Stops lit ts there
  same : there.tokens ≡ at.tokens

other_stops : {t : Tok Word} (ts : List (Tok Word)) → is_left t.symbol ≡ true → first_is (hits is_head) ts ≡ false → is_denied (t ∷ ts) ≡ false → StopsToo (t ∷ ts) (stop ts)
other_stops [] left f d = record { there = stop []; stops = s_inside left s_none_there; same = refl }
other_stops {t} (n ∷ ts) left f d = record {
  there = stop_by not_lit (n ∷ ts);
  stops = s_inside left (s_choice (subst (λ (X : Form true s_lit). Stops X (n ∷ ts) (stop_by not_lit (n ∷ ts))) (sym (case_of_other n.symbol (sym (class_is_no_bracket classes.Head n.symbol) ∙ f) no_not)) s_nothing));
  same = refl;
} where
  no_not : is_not n.symbol ≡ false
  no_not = ap (λ (v : Bool). v && is_not n.symbol) (sym left) ∙ d

lit_stops : {ts : List (Tok Word)} {at : At Word} → is_denied ts ≡ false → Stops fact ts at → StopsToo ts at
lit_stops {at = at} d (s_unopened e) = record { there = at; stops = s_unopened e; same = refl }
lit_stops d (s_inside {ts = ts} l (s_make (s_first (s_token f)))) = other_stops ts l f d
lit_stops d (s_inside l (s_make (s_second (r_token e) k))) = absurd (names_never_stop k)
lit_stops d (s_unclosed {rest = rest} l (r_make (r_both (r_token {t = n} e) k)) f) = record {
  there = stop rest;
  stops = s_unclosed l (choose_as n (make (m_lit true) fact_body) (case_of_head n.symbol (is_a_head n.symbol e)) (r_make (r_make (r_both (r_token e) k)))) f;
  same = refl;
}

-- a literal without a negation comes as far as its atom does
module _ {ts us : List (Tok Word)} (d : is_denied ts ≡ false) (k : Reaches fact ts us) where
  by_split : {l : Lit Word} {rest vs : List (Tok Word)} → vs ≡ ts → Splits vs l rest → length rest ≤ length us
  by_split {rest = rest} e (plain {a = a} h) = k.reads a rest (subst (λ (ws : List (Tok Word)). Reads fact ws a rest) e h)
  by_split e (negated {t = t} {n = n} {ts = ws} left nots h right) =
      let denied : is_denied (t ∷ n ∷ ws) ≡ true = ap (λ (v : Bool). v && is_not n.symbol) left ∙ nots in
      absurd (true≢false (sym denied ∙ ap is_denied e ∙ d))

  by_stop : (at : At Word) → Stops lit ts at → ((a : Atom Word) × (rest : List (Tok Word)) × Reads fact ts a rest) ⊎ ((there : At Word) × Stops fact ts there) → length at.tokens ≤ length us
  by_stop at s (inl h) = absurd (form_never_both _ _ lit ts h.1 _ at (plain_reads h.2) s)
  by_stop at s (inr h) =
      let too = lit_stops d h.1 in
      let same : too.there ≡ at = a_form_stops_once _ _ lit ts too.there at too.stops s in
      omega (arith, k.stops h.0 h.1, ap (λ (us : List (Tok Word)). length us) (sym (ap (λ (x : At Word). x.tokens) same) ∙ too.same))

  comes_too : Reaches lit ts us
  comes_too = record { reads = λ l rest h. by_split refl (lit_splits h); stops = λ at h. by_stop at h (form_reads_or_stops _ _ fact ts) }

-- ---- where literals are refused first

module _ {number : Numbers} {d : ℕ} where
  pub plain_halts : {ts here : List (Tok Word)} → is_denied ts ≡ false → Halts number (suc d) fact ts here → Halts number (suc d) lit ts here
  plain_halts {ts = ts} e (stopped {at = at} {e = o} {near = near} h w n) =
      let too = lit_stops e h in
      subst (λ (us : List (Tok Word)). Halts number (suc d) lit ts us) too.same (stopped too.stops w (omega (arith, n, ap (λ (us : List (Tok Word)). length us) too.same)))
  plain_halts e (unknown r w f none) = unknown (comes_too e r) w f none

  over_not : {n : Tok Word} {ts : List (Tok Word)} → is_not n.symbol ≡ true → Walk number (suc (suc d)) (n ∷ ts) (suc (suc d)) ts
  over_not {n = n} e = let w = is_word is_not n.symbol (hit_of_not n.symbol e) in word w.0 w.1 arrived

  -- a bracket and the word `not`
  module _ {t n : Tok Word} {ts : List (Tok Word)} (left : is_left t.symbol ≡ true) (e : is_not n.symbol ≡ true) where
    over_bracket : Walk number (suc d) (t ∷ n ∷ ts) (suc (suc d)) (n ∷ ts)
    over_bracket = opens_inside left (λ a rest h none. no_head (not_is_no_head n.symbol e) h) arrived

    pub negated_halts : {here : List (Tok Word)} → Halts number (suc (suc d)) fact ts here → Halts number (suc d) lit (t ∷ n ∷ ts) here
    negated_halts {here = here} h =
        halts_inside left over_bracket (halts_choice (subst (λ (X : Form true s_lit). Halts number (suc (suc d)) X (n ∷ ts) here) (sym (case_of_not n.symbol e)) (halts_after (hit_of_not n.symbol e) (over_not e) (halts_made h))))

    pub negated_unclosed : {rest : List (Tok Word)} {a : Atom Word} {k : ℕ} → Reads fact ts a rest → number (name_of_atom a) ≡ Some k → first_is is_right rest ≡ false → Halts number (suc d) lit (t ∷ n ∷ ts) rest
    negated_unclosed h is f = halts_unclosed left (inside_negated e h) f (follows over_bracket (follows (over_not e) (walk_fact h is)))

  -- over a literal whose atom has a number
  walk_split : {ts rest : List (Tok Word)} {l : Lit Word} (x : Literal) → IsLit number l x → Splits ts l rest → Walk number (suc d) ts (suc d) rest
  walk_split x is (plain h) = walk_fact h is.atom
  walk_split x is (negated left e h right) = follows (over_bracket left e) (follows (over_not e) (follows (walk_fact h is.atom) (closes right arrived)))

  pub walk_lit : {ts rest : List (Tok Word)} {l : Lit Word} (x : Literal) → IsLit number l x → Reads lit ts l rest → Walk number (suc d) ts (suc d) rest
  walk_lit x is h = walk_split x is (lit_splits h)
