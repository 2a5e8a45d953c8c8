-- How far a form comes, whether it reads or stops.
use Rattle.std.proofs.Common.{◌≡◌, ◌≤◌, Bool, true, List, ◌∷◌, length, sym, subst, ◌∙◌, arith, true≢false}
use Rattle.kp_tree_grammar.specs.declared.tree.Word.{Word}
use Rattle.kp_tree_grammar.specs.declared.symbol.Symbol.{Symbol}
use Rattle.kp_tree_grammar.specs.Language.{Tok, first_is, is_left, Sort, s_pair, El, Maker, Form, hits, ◌▹◌, ◌▸◌, many, make, choose, bracket, At, Reads, Stops, r_both, r_after, r_end, r_more, r_make, r_choice, r_bracket, s_first, s_second, s_before, s_after, s_here, s_later, s_make, s_choice, s_unopened, s_inside, s_unclosed}
use Rattle.kp_tree_grammar.proofs.Public.{stops_within, rest_is_no_longer, a_form_reads_once, form_never_both}
use Rattle.kp_tags_files.specs.Parts.{Reaches}

-- ---- into brackets

bracket_reads : {b : Bool} {c : Sort} {X : Form b c} {t : Tok Word} {ts us : List (Tok Word)} {x : El Word c} {rest : List (Tok Word)} (l : is_left t.symbol ≡ true) (k : Reaches X ts us) → Reads (bracket X) (t ∷ ts) x rest → length rest ≤ length us
bracket_reads l k (r_bracket {u = u} {rest = rest} e h r) = omega (arith, k.reads _ (u ∷ rest) h)

bracket_stops : {b : Bool} {c : Sort} {X : Form b c} {t : Tok Word} {ts us : List (Tok Word)} {at : At Word} (l : is_left t.symbol ≡ true) (k : Reaches X ts us) → Stops (bracket X) (t ∷ ts) at → length at.tokens ≤ length us
bracket_stops l k (s_unopened f) = absurd (true≢false (sym l ∙ f))
bracket_stops {at = at} l k (s_inside e h) = k.stops at h
bracket_stops l k (s_unclosed {rest = rest} e h r) = k.reads _ rest h

pub into_bracket : {b : Bool} {c : Sort} {X : Form b c} {t : Tok Word} {ts us : List (Tok Word)} (l : is_left t.symbol ≡ true) (k : Reaches X ts us) → Reaches (bracket X) (t ∷ ts) us
into_bracket l k = record { reads = λ x rest g. bracket_reads l k g; stops = λ at g. bracket_stops l k g }

-- ---- behind a token

after_reads : {b : Bool} {c : Sort} {p : Symbol → Bool} {X : Form b c} {t : Tok Word} {ts us : List (Tok Word)} {x : El Word c} {rest : List (Tok Word)} (l : hits p t.symbol ≡ true) (k : Reaches X ts us) → Reads (p ▸ X) (t ∷ ts) x rest → length rest ≤ length us
after_reads l k (r_after {rest = rest} e h) = k.reads _ rest h

after_stops : {b : Bool} {c : Sort} {p : Symbol → Bool} {X : Form b c} {t : Tok Word} {ts us : List (Tok Word)} {at : At Word} (l : hits p t.symbol ≡ true) (k : Reaches X ts us) → Stops (p ▸ X) (t ∷ ts) at → length at.tokens ≤ length us
after_stops l k (s_before f) = absurd (true≢false (sym l ∙ f))
after_stops {at = at} l k (s_after e h) = k.stops at h

pub behind_token : {b : Bool} {c : Sort} {p : Symbol → Bool} {X : Form b c} {t : Tok Word} {ts us : List (Tok Word)} (l : hits p t.symbol ≡ true) (k : Reaches X ts us) → Reaches (p ▸ X) (t ∷ ts) us
behind_token l k = record { reads = λ x rest g. after_reads l k g; stops = λ at g. after_stops l k g }

-- ---- in the first of two forms, or in the second

first_reads : {b d : Bool} {a c : Sort} {X : Form b a} {Y : Form d c} {ts us : List (Tok Word)} {x : El Word (s_pair a c)} {rest : List (Tok Word)} (k : Reaches X ts us) → Reads (X ▹ Y) ts x rest → length rest ≤ length us
first_reads k (r_both {mid = mid} {rest = rest} h m) = omega (arith, rest_is_no_longer mid rest m, k.reads _ mid h)

first_stops : {b d : Bool} {a c : Sort} {X : Form b a} {Y : Form d c} {ts us : List (Tok Word)} {at : At Word} (k : Reaches X ts us) → Stops (X ▹ Y) ts at → length at.tokens ≤ length us
first_stops {at = at} k (s_first h) = k.stops at h
first_stops k (s_second {mid = mid} h m) = omega (arith, stops_within m, k.reads _ mid h)

pub in_first_form : {b d : Bool} {a c : Sort} {X : Form b a} {Y : Form d c} {ts us : List (Tok Word)} (k : Reaches X ts us) → Reaches (X ▹ Y) ts us
in_first_form k = record { reads = λ x rest g. first_reads k g; stops = λ at g. first_stops k g }

second_reads : {b d : Bool} {a c : Sort} {X : Form b a} {Y : Form d c} {ts mid us : List (Tok Word)} {x : El Word a} {y : El Word (s_pair a c)} {rest : List (Tok Word)} (h : Reads X ts x mid) (k : Reaches Y mid us) → Reads (X ▹ Y) ts y rest → length rest ≤ length us
second_reads {b = b} {a = a} {X = X} {Y = Y} {ts = ts} {mid = mid} {x = x} h k (r_both {mid = other} {rest = rest} {x = z} {y = y} g m) = k.reads y rest (subst (λ (vs : List (Tok Word)). Reads Y vs y rest) (sym (a_form_reads_once b a X ts mid other x z h g).1) m)

second_stops : {b d : Bool} {a c : Sort} {X : Form b a} {Y : Form d c} {ts mid us : List (Tok Word)} {x : El Word a} {at : At Word} (h : Reads X ts x mid) (k : Reaches Y mid us) → Stops (X ▹ Y) ts at → length at.tokens ≤ length us
second_stops {b = b} {a = a} {X = X} {Y = Y} {ts = ts} {mid = mid} {x = x} {at = at} h k (s_first g) = absurd (form_never_both b a X ts mid x at h g)
second_stops {b = b} {a = a} {X = X} {Y = Y} {ts = ts} {mid = mid} {x = x} {at = at} h k (s_second {mid = other} {x = z} g m) = k.stops at (subst (λ (vs : List (Tok Word)). Stops Y vs at) (sym (a_form_reads_once b a X ts mid other x z h g).1) m)

pub in_second_form : {b d : Bool} {a c : Sort} {X : Form b a} {Y : Form d c} {ts mid us : List (Tok Word)} {x : El Word a} (h : Reads X ts x mid) (k : Reaches Y mid us) → Reaches (X ▹ Y) ts us
in_second_form h k = record { reads = λ x rest g. second_reads h k g; stops = λ at g. second_stops h k g }

-- ---- in the next of a repetition, or in a later one

here_reads : {c : Sort} {p : Symbol → Bool} {X : Form true c} {ts us : List (Tok Word)} {xs : List (El Word c)} {rest : List (Tok Word)} (l : first_is p ts ≡ true) (k : Reaches X ts us) → Reads (many p X) ts xs rest → length rest ≤ length us
here_reads l k (r_end e) = absurd (true≢false (sym l ∙ e))
here_reads l k (r_more {mid = mid} {rest = rest} e h m) = omega (arith, rest_is_no_longer mid rest m, k.reads _ mid h)

here_stops : {c : Sort} {p : Symbol → Bool} {X : Form true c} {ts us : List (Tok Word)} {at : At Word} (l : first_is p ts ≡ true) (k : Reaches X ts us) → Stops (many p X) ts at → length at.tokens ≤ length us
here_stops {at = at} l k (s_here e h) = k.stops at h
here_stops l k (s_later {mid = mid} e h m) = omega (arith, stops_within m, k.reads _ mid h)

pub in_next : {c : Sort} {p : Symbol → Bool} {X : Form true c} {ts us : List (Tok Word)} (l : first_is p ts ≡ true) (k : Reaches X ts us) → Reaches (many p X) ts us
in_next l k = record { reads = λ x rest g. here_reads l k g; stops = λ at g. here_stops l k g }

later_reads : {c : Sort} {p : Symbol → Bool} {X : Form true c} {ts mid us : List (Tok Word)} {x : El Word c} {xs : List (El Word c)} {rest : List (Tok Word)} (l : first_is p ts ≡ true) (h : Reads X ts x mid) (k : Reaches (many p X) mid us) → Reads (many p X) ts xs rest → length rest ≤ length us
later_reads l h k (r_end e) = absurd (true≢false (sym l ∙ e))
later_reads {c = c} {p = p} {X = X} {ts = ts} {mid = mid} {x = x} l h k (r_more {mid = other} {rest = rest} {x = z} {xs = zs} e g m) = k.reads zs rest (subst (λ (vs : List (Tok Word)). Reads (many p X) vs zs rest) (sym (a_form_reads_once true c X ts mid other x z h g).1) m)

later_stops : {c : Sort} {p : Symbol → Bool} {X : Form true c} {ts mid us : List (Tok Word)} {x : El Word c} {at : At Word} (l : first_is p ts ≡ true) (h : Reads X ts x mid) (k : Reaches (many p X) mid us) → Stops (many p X) ts at → length at.tokens ≤ length us
later_stops {c = c} {p = p} {X = X} {ts = ts} {mid = mid} {x = x} {at = at} l h k (s_here e g) = absurd (form_never_both true c X ts mid x at h g)
later_stops {c = c} {p = p} {X = X} {ts = ts} {mid = mid} {x = x} {at = at} l h k (s_later {mid = other} {x = z} e g m) = k.stops at (subst (λ (vs : List (Tok Word)). Stops (many p X) vs at) (sym (a_form_reads_once true c X ts mid other x z h g).1) m)

pub in_later : {c : Sort} {p : Symbol → Bool} {X : Form true c} {ts mid us : List (Tok Word)} {x : El Word c} (l : first_is p ts ≡ true) (h : Reads X ts x mid) (k : Reaches (many p X) mid us) → Reaches (many p X) ts us
in_later l h k = record { reads = λ x rest g. later_reads l h k g; stops = λ at g. later_stops l h k g }

-- ---- in what is made into another value, and in the form that goes with a token

make_reads : {b : Bool} {a c : Sort} {m : Maker a c} {X : Form b a} {ts us : List (Tok Word)} {x : El Word c} {rest : List (Tok Word)} (k : Reaches X ts us) → Reads (make m X) ts x rest → length rest ≤ length us
make_reads {rest = rest} k (r_make h) = k.reads _ rest h

make_stops : {b : Bool} {a c : Sort} {m : Maker a c} {X : Form b a} {ts us : List (Tok Word)} {at : At Word} (k : Reaches X ts us) → Stops (make m X) ts at → length at.tokens ≤ length us
make_stops {at = at} k (s_make h) = k.stops at h

pub in_made : {b : Bool} {a c : Sort} {m : Maker a c} {X : Form b a} {ts us : List (Tok Word)} (k : Reaches X ts us) → Reaches (make m X) ts us
in_made k = record { reads = λ x rest g. make_reads k g; stops = λ at g. make_stops k g }

choice_reads : {b : Bool} {c : Sort} {pick : Symbol → Form b c} {t : Tok Word} {ts us : List (Tok Word)} {x : El Word c} {rest : List (Tok Word)} (k : Reaches (pick t.symbol) (t ∷ ts) us) → Reads (choose pick) (t ∷ ts) x rest → length rest ≤ length us
choice_reads {rest = rest} k (r_choice h) = k.reads _ rest h

choice_stops : {b : Bool} {c : Sort} {pick : Symbol → Form b c} {t : Tok Word} {ts us : List (Tok Word)} {at : At Word} (k : Reaches (pick t.symbol) (t ∷ ts) us) → Stops (choose pick) (t ∷ ts) at → length at.tokens ≤ length us
choice_stops {at = at} k (s_choice h) = k.stops at h

pub in_choice : {b : Bool} {c : Sort} {pick : Symbol → Form b c} {t : Tok Word} {ts us : List (Tok Word)} (k : Reaches (pick t.symbol) (t ∷ ts) us) → Reaches (choose pick) (t ∷ ts) us
in_choice k = record { reads = λ x rest g. choice_reads k g; stops = λ at g. choice_stops k g }
