-- What a form leaves, and the tokens at which it stops, are at the end of its tokens.
use Rattle.std.proofs.Common.{◌≡◌, ◌≤◌, Bool, List, [], ◌∷◌, ◌++◌, drop, length, refl, sym, subst, arith}
use Rattle.kp_tree_grammar.specs.declared.tree.Word.{Word}
use Rattle.kp_tree_grammar.specs.Language.{Tok, Sort, El, Form, At, ReadBy, r_token, r_none, r_both, r_after, r_end, r_more, r_last, r_next, r_absent, r_present, r_make, r_choice, r_loose, r_bracket, r_within, StopBy, s_token, s_nothing, s_first, s_second, s_before, s_after, s_here, s_later, s_lacks, s_at, s_next, s_present, s_make, s_none_there, s_choice, s_loose, s_unopened, s_inside, s_unclosed, s_within, StopsWhole, within_form, after_form}
use Rattle.kp_tags_files.specs.Numbers.{Numbers}
use Rattle.kp_tags_files.specs.MergesFiles.{IsRefused, stops, no_ground_atom}

-- the tokens end with these
pub data Ends : List (Tok Word) → List (Tok Word) → Type 0 where
  all : {ts : List (Tok Word)} → Ends ts ts
  later : {t : Tok Word} {ts us : List (Tok Word)} → Ends ts us → Ends (t ∷ ts) us

both : {ts us vs : List (Tok Word)} → Ends ts us → Ends us vs → Ends ts vs
both all k = k
both (later h) k = later (both h k)

ends_fewer : {ts us : List (Tok Word)} → Ends ts us → length us ≤ length ts
ends_fewer all = omega arith
ends_fewer (later h) = omega (arith, ends_fewer h)

-- there is one end of a length
pub one_end : {ts us vs : List (Tok Word)} → Ends ts us → Ends ts vs → length us ≡ length vs → us ≡ vs
one_end all all e = refl
one_end all (later k) e = absurd (omega (arith, e, ends_fewer k))
one_end (later h) all e = absurd (omega (arith, e, ends_fewer h))
one_end (later h) (later k) e = one_end h k e

reads_end : {b : Bool} {c : Sort} {X : Form b c} {ts : List (Tok Word)} {x : El Word c} {rest : List (Tok Word)} → ReadBy b c X ts x rest → Ends ts rest
reads_end (r_token e) = later all
reads_end r_none = all
reads_end (r_both h k) = both (reads_end h) (reads_end k)
reads_end (r_after e h) = later (reads_end h)
reads_end (r_end e) = all
reads_end (r_more e h k) = both (reads_end h) (reads_end k)
reads_end (r_last e h) = all
reads_end (r_next e h k) = both (reads_end h) (reads_end k)
reads_end (r_absent e) = all
reads_end (r_present e h) = reads_end h
reads_end (r_make h) = reads_end h
reads_end (r_choice h) = reads_end h
reads_end (r_loose h) = reads_end h
reads_end (r_bracket e h k) = later (both (reads_end h) (later all))
reads_end (r_within h) = reads_end h

stops_end : {b : Bool} {c : Sort} {X : Form b c} {ts : List (Tok Word)} {at : At Word} → StopBy b c X ts at → Ends ts at.tokens
stops_end (s_token e) = all
stops_end s_nothing = all
stops_end (s_first h) = stops_end h
stops_end (s_second h k) = both (reads_end h) (stops_end k)
stops_end (s_before e) = all
stops_end (s_after e h) = later (stops_end h)
stops_end (s_here e h) = stops_end h
stops_end (s_later e h k) = both (reads_end h) (stops_end k)
stops_end (s_lacks e h) = all
stops_end (s_at e h) = stops_end h
stops_end (s_next e h k) = both (reads_end h) (stops_end k)
stops_end (s_present e h) = stops_end h
stops_end (s_make h) = stops_end h
stops_end s_none_there = all
stops_end (s_choice h) = stops_end h
stops_end (s_loose h) = stops_end h
stops_end (s_unopened e) = all
stops_end (s_inside e h) = later (stops_end h)
stops_end (s_unclosed e h k) = later (reads_end h)
stops_end (s_within h) = stops_end h

whole_end : {b : Bool} {c : Sort} {X : Form b c} {ts : List (Tok Word)} {at : At Word} → StopsWhole X ts at → Ends ts at.tokens
whole_end (within_form h) = stops_end h
whole_end (after_form h) = reads_end h

behind : (before us : List (Tok Word)) → Ends (before ++ us) us
behind [] us = all
behind (t ∷ before) us = later (behind before us)

behind_first : (us : List (Tok Word)) → Ends us (drop 1 us)
behind_first [] = all
behind_first (t ∷ us) = later all

-- a token that is refused is one of the file
pub refused_ends : {number : Numbers} {ts here : List (Tok Word)} → IsRefused number ts here → Ends ts here
refused_ends (stops at h) = whole_end h
refused_ends (no_ground_atom here a s none) = both (subst (λ (us : List (Tok Word)). Ends us here) (sym s.split) (behind s.before here)) (behind_first here)
