-- A bracket that opens a level too many and is answered stands before the place where the form stops, unless it is that place.
use Rattle.std.proofs.Common.{◌≡◌, ℕ, zero, suc, ◌<◌, ◌⊎◌, inl, inr, Bool, true, false, List, [], ◌∷◌, length, Ok, Err, refl, sym, ap, ◌∙◌, arith}
use Rattle.kp_tree_grammar.specs.declared.symbol.Symbol.{Symbol}
use Rattle.kp_tree_grammar.specs.Language.{s_seen, Seen, Sort, s_list, El, apply, s_pair, Form, many, run, At, stop, ReadBy, r_token, r_none, r_both, r_after, r_end, r_more, r_last, r_next, r_absent, r_present, r_make, r_choice, r_loose, r_bracket, r_within, StopBy, s_token, s_nothing, s_first, s_second, s_before, s_after, s_here, s_later, s_lacks, s_at, s_next, s_present, s_make, s_none_there, s_choice, s_loose, s_unopened, s_inside, s_unclosed, s_within, Tok, first_is, Outcome, ◌>>=◌, closed, go, level}
use Rattle.kp_tree_grammar.proofs.Public.{many_unfolds, run_unfolds, read_is_no_stop, rest_is_no_longer, other_token_stops, other_front_stops, no_bracket_stops, open_bracket_stops, reads_once, reads_or_stops, answered_is_read, stops_within}

module _ {W : Type 0} where
  err_is : {A B : Type 0} {at there : At W} → ◌≡◌ {A = Outcome W A} (Err there) (Err at) → ◌≡◌ {A = Outcome W B} (Err there) (Err at)
  err_is {at = at} {there = there} e = let same : there ≡ at = cc in ap (λ (a : At W). Err a) same

  same_place : {A : Type 0} {at there : At W} → ◌≡◌ {A = Outcome W A} (Err there) (Err at) → there ≡ at
  same_place e = cc

  tail_err : {A B : Type 0} {at : At W} (r : Outcome W A) (m : A × List (Tok W) → B × List (Tok W)) → (r >>= λ y. Ok (m y)) ≡ Err at → r ≡ Err at
  tail_err (Ok y) m e = absurd cc
  tail_err (Err there) m e = err_is e

  -- the same where the first part says what the second is
  seq_by : {A B C : Type 0} {at : At W} (r : Outcome W (A × B)) (g : A → List (Tok W) → Outcome W C) (m : (A × B) × List (Tok W) → C × List (Tok W) → C × List (Tok W)) (v : A) (mid : List (Tok W)) (P : Type 0)
      → (r >>= λ x. g x.0.0 x.1 >>= λ y. Ok (m x y)) ≡ Err at → ((x : (A × B) × List (Tok W)) → r ≡ Ok x → (x.0.0 ≡ v) × (x.1 ≡ mid)) → (r ≡ Err at → P) → (g v mid ≡ Err at → P) → P
  seq_by (Ok x) g m v mid P e same f h = let s = same x refl in h (rw (sym s.0, sym s.1) (tail_err (g x.0.0 x.1) (m x) e))
  seq_by (Err there) g m v mid P e same f h = f (err_is e)

  -- an error of two parts is one of the first, or of the second where the first ends
  seq : {A B C : Type 0} {at : At W} (r : Outcome W A) (g : List (Tok W) → Outcome W B) (m : A × List (Tok W) → B × List (Tok W) → C × List (Tok W)) (mid : List (Tok W)) (P : Type 0)
      → (r >>= λ x. g x.1 >>= λ y. Ok (m x y)) ≡ Err at → ((x : A × List (Tok W)) → r ≡ Ok x → x.1 ≡ mid) → (r ≡ Err at → P) → (g mid ≡ Err at → P) → P
  seq (Ok x) g m mid P e same f h = h (ap g (sym (same x refl)) ∙ tail_err (g x.1) (m x) e)
  seq (Err there) g m mid P e same f h = f (err_is e)

  first_err : {A B : Type 0} {at : At W} (r : Outcome W A) (g : A × List (Tok W) → Outcome W B) → (r >>= g) ≡ Err at → ((x : A × List (Tok W)) → r ≡ Ok x → ⊥) → r ≡ Err at
  first_err (Ok x) g e never = absurd (never x refl)
  first_err (Err there) g e never = err_is e

  closing : {A : Type 0} {at : At W} (r : Outcome W A) (P : Type 0)
      → (r >>= λ x. closed x.0 x.1) ≡ Err at → ((x : A × List (Tok W)) → r ≡ Ok x → closed x.0 x.1 ≡ Err at → P) → (r ≡ Err at → P) → P
  closing (Ok x) P e f h = f x refl e
  closing (Err there) P e f h = h (err_is e)

  ends_at : (d : ℕ) {b : Bool} {c : Sort} {X : Form b c} {ts : List (Tok W)} {x : El W c} {rest : List (Tok W)} → ReadBy b c X ts x rest → (y : El W c × List (Tok W)) → go (level d) b c X ts ≡ Ok y → y.1 ≡ rest
  ends_at d {b} {c} {X} {ts} {x} {rest} h y e = ap (λ (z : El W c × List (Tok W)). z.1) (reads_once (answered_is_read d b c X ts y.0 y.1 e) h)

  seen_at : (d : ℕ) {a : Sort} {X : Form true (s_pair s_seen a)} {ts : List (Tok W)} {x : Seen × El W a} {rest : List (Tok W)} → ReadBy true (s_pair s_seen a) X ts x rest → (y : (Seen × El W a) × List (Tok W)) → go (level d) true (s_pair s_seen a) X ts ≡ Ok y → (y.0.0 ≡ x.0) × (y.1 ≡ rest)
  seen_at d {a} {X} {ts} {x} {rest} h y e = let same = reads_once (answered_is_read d true (s_pair s_seen a) X ts y.0 y.1 e) h in (ap (λ (z : (Seen × El W a) × List (Tok W)). z.0.0) same, ap (λ (z : (Seen × El W a) × List (Tok W)). z.1) same)

  -- ---- where a form reads, an answered bracket stands before what is left

  pub halts_before : {b : Bool} {c : Sort} {X : Form b c} {ts : List (Tok W)} {x : El W c} {rest : List (Tok W)} {at : At W} → ReadBy b c X ts x rest → (d : ℕ) → go (level d) b c X ts ≡ Err at → length rest < length at.tokens
  halts_before (r_token {m = m} {t = t} {ts = ts} e) d k = absurd (read_is_no_stop {x = (apply W (m t.symbol) t.word, ts)} (rw e refl) k)
  halts_before r_none d k = absurd cc
  halts_before (r_both {b = b} {d = c} {a = a} {c = e} {X = X} {Y = Y} {ts = ts} {mid = mid} {rest = rest} h l) d k =
      seq (go (level d) b a X ts) (go (level d) c e Y) _ mid _ k (ends_at d h) (λ f. omega (arith, halts_before h d f, rest_is_no_longer mid rest l)) (λ f. halts_before l d f)
  halts_before (r_after e h) d k = halts_before h d (rw e at k)
  halts_before (r_end {p = p} {X = X} {ts = ts} e) d k = absurd (read_is_no_stop {x = ([], ts)} (many_unfolds d p X ts ∙ rw e refl) k)
  halts_before (r_more {a = a} {p = p} {X = X} {ts = ts} {mid = mid} {rest = rest} e h l) d k =
      seq (go (level d) true a X ts) (go (level d) false (s_list a) (many p X)) _ mid _ (rw e at (sym (many_unfolds d p X ts) ∙ k)) (ends_at d h) (λ f. omega (arith, halts_before h d f, rest_is_no_longer mid rest l)) (λ f. halts_before l d f)
  halts_before (r_last {p = p} {X = X} {done = done} {s = s} {ts = ts} e h) d k = absurd (read_is_no_stop {x = ([], ts)} (run_unfolds d p X done s ts ∙ rw (e, h) refl) k)
  halts_before (r_next {a = a} {p = p} {X = X} {done = done} {s = s} {ts = ts} {mid = mid} {rest = rest} {x = x} e h l) d k =
      seq_by (go (level d) true (s_pair s_seen a) (X s) ts) (λ v. go (level d) false (s_list a) (run p X done v)) _ x.0 mid _ (rw e at (sym (run_unfolds d p X done s ts) ∙ k)) (seen_at d h) (λ f. omega (arith, halts_before h d f, rest_is_no_longer mid rest l)) (λ f. halts_before l d f)
  halts_before (r_absent {m = m} {ts = ts} e) d k = absurd (read_is_no_stop {x = (apply W m tt, ts)} (rw e refl) k)
  halts_before (r_present e h) d k = halts_before h d (rw e at k)
  halts_before (r_make {b = b} {a = a} {X = X} {ts = ts} h) d k = halts_before h d (tail_err (go (level d) b a X ts) _ k)
  halts_before (r_choice h) d k = halts_before h d k
  halts_before (r_loose h) d k = halts_before h d k
  halts_before (r_bracket {b = b} {u = u} {ts = ts} {rest = rest} e h l) zero k = omega (arith, ap (λ (a : At W). length a.tokens) (same_place k), rest_is_no_longer ts (u ∷ rest) h)
  halts_before (r_bracket {b = b} {a = a} {X = X} {u = u} {ts = ts} {rest = rest} {x = x} e h l) (suc d) k =
      closing (go (level d) b a X ts) _ (rw e at k)
      (λ y f g. let same = reads_once (answered_is_read d b a X ts y.0 y.1 f) h in absurd (read_is_no_stop {x = (x, rest)} (ap (λ (z : El W a × List (Tok W)). closed z.0 z.1) same ∙ rw l refl) g))
      (λ f. omega (arith, halts_before h d f))
  halts_before (r_within h) d k = halts_before h d k

  lacks_at : {a : Sort} (d : ℕ) (p : Symbol → Bool) (X : Seen → Form true (s_pair s_seen a)) (done : Seen → Bool) (s : Seen) (ts : List (Tok W)) → first_is p ts ≡ false → done s ≡ false → go (level d) false (s_list a) (run p X done s) ts ≡ Err (stop ts)
  lacks_at d p X done s ts e h = run_unfolds d p X done s ts ∙ rw (e, h) refl

  -- ---- and before the place where it stops, or there

  abbrev pub Comes : At W → At W → Type 0
  Comes there at = (there ≡ at) ⊎ (length there.tokens < length at.tokens)

  pub stops_before : {b : Bool} {c : Sort} {X : Form b c} {ts : List (Tok W)} {there at : At W} → StopBy b c X ts there → (d : ℕ) → go (level d) b c X ts ≡ Err at → Comes there at
  stops_before (s_token {p = p} {m = m} {ts = ts} e) d k = inl (same_place (sym (other_token_stops p m ts e) ∙ k))
  stops_before s_nothing d k = inl (same_place k)
  stops_before (s_first {b = b} {a = a} {X = X} {ts = ts} h) d k = stops_before h d (first_err (go (level d) b a X ts) _ k (λ y f. reads_or_stops (answered_is_read d b a X ts y.0 y.1 f) h))
  stops_before (s_second {b = b} {d = c} {a = a} {c = e} {X = X} {Y = Y} {ts = ts} {mid = mid} h l) d k =
      seq (go (level d) b a X ts) (go (level d) c e Y) _ mid _ k (ends_at d h) (λ f. inr (omega (arith, halts_before h d f, stops_within l))) (λ f. stops_before l d f)
  stops_before (s_before {b = b} {a = a} {p = p} {X = X} {ts = ts} e) d k = inl (same_place (sym (other_front_stops p (go (level d) b a X) ts e) ∙ k))
  stops_before (s_after e h) d k = stops_before h d (rw e at k)
  stops_before (s_here {a = a} {p = p} {X = X} {ts = ts} e h) d k =
      stops_before h d (first_err (go (level d) true a X ts) _ (rw e at (sym (many_unfolds d p X ts) ∙ k)) (λ y f. reads_or_stops (answered_is_read d true a X ts y.0 y.1 f) h))
  stops_before (s_later {a = a} {p = p} {X = X} {ts = ts} {mid = mid} e h l) d k =
      seq (go (level d) true a X ts) (go (level d) false (s_list a) (many p X)) _ mid _ (rw e at (sym (many_unfolds d p X ts) ∙ k)) (ends_at d h) (λ f. inr (omega (arith, halts_before h d f, stops_within l))) (λ f. stops_before l d f)
  stops_before (s_lacks {p = p} {X = X} {done = done} {s = s} {ts = ts} e h) d k = inl (same_place {there = stop ts} (sym (lacks_at d p X done s ts e h) ∙ k))
  stops_before (s_at {a = a} {p = p} {X = X} {done = done} {s = s} {ts = ts} e h) d k =
      stops_before h d (first_err (go (level d) true (s_pair s_seen a) (X s) ts) _ (rw e at (sym (run_unfolds d p X done s ts) ∙ k)) (λ y f. reads_or_stops (answered_is_read d true (s_pair s_seen a) (X s) ts y.0 y.1 f) h))
  stops_before (s_next {a = a} {p = p} {X = X} {done = done} {s = s} {ts = ts} {mid = mid} {x = x} e h l) d k =
      seq_by (go (level d) true (s_pair s_seen a) (X s) ts) (λ v. go (level d) false (s_list a) (run p X done v)) _ x.0 mid _ (rw e at (sym (run_unfolds d p X done s ts) ∙ k)) (seen_at d h) (λ f. inr (omega (arith, halts_before h d f, stops_within l))) (λ f. stops_before l d f)
  stops_before (s_present e h) d k = stops_before h d (rw e at k)
  stops_before (s_make {b = b} {a = a} {X = X} {ts = ts} h) d k = stops_before h d (tail_err (go (level d) b a X ts) _ k)
  stops_before s_none_there d k = inl (same_place k)
  stops_before (s_choice h) d k = stops_before h d k
  stops_before (s_loose h) d k = stops_before h d k
  stops_before (s_unopened e) zero k = inl (same_place k)
  stops_before (s_unopened {b = b} {a = a} {X = X} {ts = ts} e) (suc d) k = inl (same_place (sym (no_bracket_stops (go (level d) b a X) ts e) ∙ k))
  stops_before (s_inside {ts = ts} e h) zero k = inr (omega (arith, ap (λ (a : At W). length a.tokens) (same_place k), stops_within h))
  stops_before (s_inside {b = b} {a = a} {X = X} {ts = ts} e h) (suc d) k =
      closing (go (level d) b a X ts) _ (rw e at k) (λ y f g. absurd (reads_or_stops (answered_is_read d b a X ts y.0 y.1 f) h)) (λ f. stops_before h d f)
  stops_before (s_unclosed {ts = ts} {rest = rest} e h l) zero k = inr (omega (arith, ap (λ (a : At W). length a.tokens) (same_place k), rest_is_no_longer ts rest h))
  stops_before (s_unclosed {b = b} {a = a} {X = X} {ts = ts} {rest = rest} {x = x} e h l) (suc d) k =
      closing (go (level d) b a X ts) _ (rw e at k)
      (λ y f g. let same = reads_once (answered_is_read d b a X ts y.0 y.1 f) h in
      inl (same_place (sym (open_bracket_stops x rest l) ∙ sym (ap (λ (z : El W a × List (Tok W)). closed z.0 z.1) same) ∙ g)))
      (λ f. inr (halts_before h d f))
  stops_before (s_within h) d k = stops_before h d k
