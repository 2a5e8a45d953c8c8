-- With enough levels reading answers what the definitions say. So a form reads in one way, or stops at one token.
use Rattle.std.proofs.Common.{◌≡◌, ℕ, zero, suc, ◌≤◌, ◌<◌, Bool, true, false, cond as if_then, List, [], ◌∷◌, length, ◌⊎◌, inl, inr, Option, None, Ok, Err, refl, sym, ap, subst, ◌∙◌, arith}
use Rattle.kp_base.proofs.Cases.{some_none}
use Rattle.kp_tree_grammar.specs.declared.symbol.Symbol.{Symbol}
use Rattle.kp_tree_grammar.specs.Sorts.{s_seen, Seen, Sort, s_word, El, Maker, s_pair}
use Rattle.kp_tree_grammar.specs.Forms.{hits, Form}
use Rattle.kp_tree_grammar.specs.Reading.{At, stop, ReadBy, r_token, r_none, r_both, r_after, r_end, r_more, r_last, r_next, r_absent, r_present, r_make, r_choice, r_loose, r_bracket, r_within, StopBy, s_token, s_nothing, s_first, s_second, s_before, s_after, s_here, s_later, s_lacks, s_at, s_next, s_present, s_make, s_none_there, s_choice, s_loose, s_unopened, s_inside, s_unclosed, s_within}
use Rattle.kp_tree_grammar.specs.Symbols.{Tok, is_left, is_right, first_is}
use Rattle.kp_tree_grammar.specs.Parsing.{Outcome, ◌>>=◌, token_at, after_at, closed, bracket_at, some_at, go, level, next_at}
use Rattle.kp_tree_grammar.specs.Depth.{deep_case, deep}
use Rattle.kp_tree_grammar.proofs.Tells.{less_any, shrinks, Tells, read_tells}

module _ {W : Type 0} where
  go_told : (d : ℕ) (b : Bool) (c : Sort) (X : Form b c) (ts : List (Tok W)) (r : Outcome W (El W c)) → go (level d) b c X ts ≡ r → Tells d b c X ts r
  go_told d b c X ts r e = subst (λ (o : Outcome W (El W c)). Tells d b c X ts o) e (read_tells d b c X ts)

  pub go_reads : (d : ℕ) (b : Bool) (c : Sort) (X : Form b c) (ts : List (Tok W)) (x : El W c) (rest : List (Tok W)) → go (level d) b c X ts ≡ Ok (x, rest) → ReadBy b c X ts x rest
  go_reads d b c X ts x rest e = (go_told d b c X ts (Ok (x, rest)) e).0

  -- ---- the number of a repetition does not matter, if it is enough

  module _ {a : Sort} (d : ℕ) (p : Symbol → Bool) (X : Form true a) where
    abbrev f : List (Tok W) → Outcome W (El W a)
    f = go (level d) true a X

    abbrev then : Outcome W (El W a) → (List (Tok W) → Outcome W (List (El W a))) → Outcome W (List (El W a))
    then r g = r >>= λ x. g x.1 >>= λ xs. Ok (x.0 ∷ xs.0, xs.1)

    same_then : (ts : List (Tok W)) (r : Outcome W (El W a)) (g h : List (Tok W) → Outcome W (List (El W a))) → ((x : El W a) (rest : List (Tok W)) → r ≡ Ok (x, rest) → g rest ≡ h rest)
        → then r g ≡ then r h
    same_then ts (Ok x) g h e = ap (λ (o : Outcome W (List (El W a))). o >>= λ xs. Ok (x.0 ∷ xs.0, xs.1)) (e x.0 x.1 refl)
    same_then ts (Err at) g h e = refl

    same_if : (ts : List (Tok W)) (v : Bool) (r : Outcome W (El W a)) (g h : List (Tok W) → Outcome W (List (El W a))) (other : Outcome W (List (El W a))) → ((x : El W a) (rest : List (Tok W)) → r ≡ Ok (x, rest) → g rest ≡ h rest)
        → if_then v (then r g) other ≡ if_then v (then r h) other
    same_if ts true r g h other e = same_then ts r g h e
    same_if ts false r g h other e = refl

    enough : (n m : ℕ) (ts : List (Tok W)) → length ts ≤ n → length ts ≤ m → some_at p f n ts ≡ some_at p f m ts
    unfolding some_at
    enough zero zero ts h k = refl
    enough zero (suc m) [] h k = refl
    enough zero (suc m) (t ∷ ts) h k = absurd (omega (arith, h))
    enough (suc n) zero [] h k = refl
    enough (suc n) zero (t ∷ ts) h k = absurd (omega (arith, k))
    enough (suc n) (suc m) ts h k =
        same_if ts (first_is p ts) (f ts) (some_at p f n) (some_at p f m) (Ok ([], ts))
        (λ x rest e. let less : length rest < length ts = shrinks (go_reads d true a X ts x rest e) in enough n m rest (omega (arith, less, h)) (omega (arith, less, k)))

    abbrev many_at : List (Tok W) → Outcome W (List (El W a))
    many_at ts = some_at p f (length ts) ts

    pub many_step : (ts : List (Tok W)) → many_at ts ≡ if_then (first_is p ts) (then (f ts) many_at) (Ok ([], ts))
    unfolding some_at
    many_step [] = refl
    many_step (t ∷ ts) =
        same_if (t ∷ ts) (p t.symbol) (f (t ∷ ts)) (some_at p f (length ts)) many_at (Ok ([], t ∷ ts))
        (λ x rest e. let less : length rest < length (t ∷ ts) = shrinks (go_reads d true a X (t ∷ ts) x rest e) in enough (length ts) (length rest) rest (omega (arith, less)) (omega arith))

  module _ {a : Sort} (d : ℕ) (p : Symbol → Bool) (X : Seen → Form true (s_pair s_seen a)) (done : Seen → Bool) where
    abbrev item : Seen → List (Tok W) → Outcome W (Seen × El W a)
    item v = go (level d) true (s_pair s_seen a) (X v)

    abbrev after : Outcome W (Seen × El W a) → (Seen → List (Tok W) → Outcome W (List (El W a))) → Outcome W (List (El W a))
    after r g = r >>= λ x. g x.0.0 x.1 >>= λ xs. Ok (x.0.1 ∷ xs.0, xs.1)

    abbrev last : Seen → List (Tok W) → Outcome W (List (El W a))
    last s ts = if_then (done s) (Ok ([], ts)) (Err (stop ts))

    same_after : (r : Outcome W (Seen × El W a)) (g h : Seen → List (Tok W) → Outcome W (List (El W a))) → ((x : Seen × El W a) (rest : List (Tok W)) → r ≡ Ok (x, rest) → g x.0 rest ≡ h x.0 rest) → after r g ≡ after r h
    same_after (Ok x) g h e = ap (λ (o : Outcome W (List (El W a))). o >>= λ xs. Ok (x.0.1 ∷ xs.0, xs.1)) (e x.0 x.1 refl)
    same_after (Err at) g h e = refl

    same_case : (v : Bool) (r : Outcome W (Seen × El W a)) (g h : Seen → List (Tok W) → Outcome W (List (El W a))) (other : Outcome W (List (El W a))) → ((x : Seen × El W a) (rest : List (Tok W)) → r ≡ Ok (x, rest) → g x.0 rest ≡ h x.0 rest)
        → if_then v (after r g) other ≡ if_then v (after r h) other
    same_case true r g h other e = same_after r g h e
    same_case false r g h other e = refl

    enough_next : (n m : ℕ) (s : Seen) (ts : List (Tok W)) → length ts ≤ n → length ts ≤ m → next_at p item done n s ts ≡ next_at p item done m s ts
    unfolding next_at
    enough_next zero zero s ts h k = refl
    enough_next zero (suc m) s [] h k = refl
    enough_next zero (suc m) s (t ∷ ts) h k = absurd (omega (arith, h))
    enough_next (suc n) zero s [] h k = refl
    enough_next (suc n) zero s (t ∷ ts) h k = absurd (omega (arith, k))
    enough_next (suc n) (suc m) s ts h k =
        same_case (first_is p ts) (item s ts) (next_at p item done n) (next_at p item done m) (last s ts)
        (λ x rest e. let less : length rest < length ts = shrinks (go_reads d true (s_pair s_seen a) (X s) ts x rest e) in enough_next n m x.0 rest (omega (arith, less, h)) (omega (arith, less, k)))

    abbrev run_at : Seen → List (Tok W) → Outcome W (List (El W a))
    run_at s ts = next_at p item done (length ts) s ts

    pub run_step : (s : Seen) (ts : List (Tok W)) → run_at s ts ≡ if_then (first_is p ts) (after (item s ts) run_at) (last s ts)
    unfolding next_at
    run_step s [] = refl
    run_step s (t ∷ ts) =
        same_case (p t.symbol) (item s (t ∷ ts)) (next_at p item done (length ts)) run_at (last s (t ∷ ts))
        (λ x rest e. let less : length rest < length (t ∷ ts) = shrinks (go_reads d true (s_pair s_seen a) (X s) (t ∷ ts) x rest e) in enough_next (length ts) (length rest) x.0 rest (omega (arith, less)) (omega arith))

  -- ---- what reads is answered

  pub fewer : {b : Bool} {c : Sort} {X : Form b c} {x : El W c} (ts rest : List (Tok W)) → ReadBy b c X ts x rest → length rest ≤ length ts
  fewer {b = b} ts rest h = less_any b ts rest (shrinks h)

  pub closed_lacks : {A : Type 0} (x : A) (ts : List (Tok W)) → first_is is_right ts ≡ false → closed x ts ≡ Err (stop ts)
  closed_lacks x [] e = refl
  closed_lacks x (t ∷ ts) e = rw e refl

  pub reads_is : {b : Bool} {c : Sort} {X : Form b c} {ts : List (Tok W)} {x : El W c} {rest : List (Tok W)} → ReadBy b c X ts x rest → (d : ℕ) → length ts ≤ d → go (level d) b c X ts ≡ Ok (x, rest)
  reads_is (r_token e) d le = rw e refl
  reads_is r_none d le = refl
  reads_is (r_both {ts = ts} {mid = mid} h k) d le = let less : length mid ≤ length ts = fewer ts mid h in rw (reads_is h d le, reads_is k d (omega (arith, less, le))) refl
  reads_is (r_after e h) d le = rw e (reads_is h d (omega (arith, le)))
  reads_is (r_end {p = p} {X = X} {ts = ts} e) d le = many_step d p X ts ∙ rw e refl
  reads_is (r_more {p = p} {X = X} {ts = ts} {mid = mid} e h k) d le = let less : length mid ≤ length ts = fewer ts mid h in many_step d p X ts ∙ rw (e, reads_is h d le, reads_is k d (omega (arith, less, le))) refl
  reads_is (r_last {p = p} {X = X} {done = done} {s = s} {ts = ts} e h) d le = run_step d p X done s ts ∙ rw (e, h) refl
  reads_is (r_next {p = p} {X = X} {done = done} {s = s} {ts = ts} {mid = mid} e h k) d le =
      let less : length mid ≤ length ts = fewer ts mid h in run_step d p X done s ts ∙ rw (e, reads_is h d le, reads_is k d (omega (arith, less, le))) refl
  reads_is (r_absent e) d le = rw e refl
  reads_is (r_present e h) d le = rw e (reads_is h d le)
  reads_is (r_make h) d le = rw (reads_is h d le) refl
  reads_is (r_choice h) d le = reads_is h d le
  reads_is (r_loose h) d le = reads_is h d le
  reads_is (r_bracket e h k) zero le = absurd (omega (arith, le))
  reads_is (r_bracket {b = b} {a = a} {X = X} {ts = ts} e h k) (suc d) le = rw (e, reads_is h d (omega (arith, le)), k) refl
  reads_is (r_within h) d le = reads_is h d le

  pub first_hits : {A : Type 0} (p : Symbol → Bool) (f : List (Tok W) → Outcome W A) (ts : List (Tok W)) → first_is (hits p) ts ≡ false → after_at p f ts ≡ Err (stop ts)
  first_hits p f [] e = refl
  first_hits p f (t ∷ ts) e = rw e refl

  pub no_token : {c : Sort} (p : Symbol → Bool) (m : Symbol → Maker s_word c) (ts : List (Tok W)) → first_is (hits p) ts ≡ false → token_at p m ts ≡ Err (stop ts)
  no_token p m [] e = refl
  no_token p m (t ∷ ts) e = rw e refl

  pub no_bracket : {A : Type 0} (f : List (Tok W) → Outcome W A) (ts : List (Tok W)) → first_is is_left ts ≡ false → bracket_at f ts ≡ Err (stop ts)
  no_bracket f [] e = refl
  no_bracket f (t ∷ ts) e = rw e refl

  pub stops_is : {b : Bool} {c : Sort} {X : Form b c} {ts : List (Tok W)} {at : At W} → StopBy b c X ts at → (d : ℕ) → length ts ≤ d → go (level d) b c X ts ≡ Err at
  stops_is (s_token {p = p} {m = m} {ts = ts} e) d le = no_token p m ts e
  stops_is s_nothing d le = refl
  stops_is (s_first h) d le = rw (stops_is h d le) refl
  stops_is (s_second {ts = ts} {mid = mid} h k) d le = let less : length mid ≤ length ts = fewer ts mid h in rw (reads_is h d le, stops_is k d (omega (arith, less, le))) refl
  stops_is (s_before {b = b} {a = a} {p = p} {X = X} {ts = ts} e) d le = first_hits p (go (level d) b a X) ts e
  stops_is (s_after e h) d le = rw e (stops_is h d (omega (arith, le)))
  stops_is (s_here {p = p} {X = X} {ts = ts} e h) d le = many_step d p X ts ∙ rw (e, stops_is h d le) refl
  stops_is (s_later {p = p} {X = X} {ts = ts} {mid = mid} e h k) d le = let less : length mid ≤ length ts = fewer ts mid h in many_step d p X ts ∙ rw (e, reads_is h d le, stops_is k d (omega (arith, less, le))) refl
  stops_is (s_lacks {p = p} {X = X} {done = done} {s = s} {ts = ts} e h) d le = run_step d p X done s ts ∙ rw (e, h) refl
  stops_is (s_at {p = p} {X = X} {done = done} {s = s} {ts = ts} e h) d le = run_step d p X done s ts ∙ rw (e, stops_is h d le) refl
  stops_is (s_next {p = p} {X = X} {done = done} {s = s} {ts = ts} {mid = mid} e h k) d le =
      let less : length mid ≤ length ts = fewer ts mid h in run_step d p X done s ts ∙ rw (e, reads_is h d le, stops_is k d (omega (arith, less, le))) refl
  stops_is (s_present e h) d le = rw e (stops_is h d le)
  stops_is (s_make h) d le = rw (stops_is h d le) refl
  stops_is s_none_there d le = refl
  stops_is (s_choice h) d le = stops_is h d le
  stops_is (s_loose h) d le = stops_is h d le
  stops_is (s_unopened e) zero le = refl
  stops_is (s_unopened {b = b} {a = a} {X = X} {ts = ts} e) (suc d) le = no_bracket (go (level d) b a X) ts e
  stops_is (s_inside e h) zero le = absurd (omega (arith, le))
  stops_is (s_inside {b = b} {a = a} {X = X} {ts = ts} e h) (suc d) le = rw (e, stops_is h d (omega (arith, le))) refl
  stops_is (s_unclosed e h k) zero le = absurd (omega (arith, le))
  stops_is (s_unclosed {b = b} {a = a} {X = X} {ts = ts} {rest = rest} {x = x} e h k) (suc d) le = rw (e, reads_is h d (omega (arith, le))) (closed_lacks x rest k)
  stops_is (s_within h) d le = stops_is h d le

  -- ---- so there is one answer

  pub clash : {A : Type 0} {r : Outcome W A} {x : A × List (Tok W)} {at : At W} → r ≡ Ok x → r ≡ Err at → ⊥
  clash e k = cc

  pub reads_or_stops : {b : Bool} {c : Sort} {X : Form b c} {ts : List (Tok W)} {x : El W c} {rest : List (Tok W)} {at : At W} → ReadBy b c X ts x rest → StopBy b c X ts at → ⊥
  reads_or_stops {ts = ts} h k = clash (reads_is h (length ts) (omega arith)) (stops_is k (length ts) (omega arith))

  value_of : {A : Type 0} → Outcome W A → A × List (Tok W) → A × List (Tok W)
  value_of (Ok x) d = x
  value_of (Err at) d = d

  pub reads_once : {b : Bool} {c : Sort} {X : Form b c} {ts : List (Tok W)} {x y : El W c} {rest others : List (Tok W)} → ReadBy b c X ts x rest → ReadBy b c X ts y others → ◌≡◌ {A = El W c × List (Tok W)} (x, rest) (y, others)
  unfolding value_of
  reads_once {c = c} {ts = ts} {x = x} {y = y} {rest = rest} {others = others} h k = ap (λ (o : Outcome W (El W c)). value_of o (x, rest)) (sym (reads_is h (length ts) (omega arith)) ∙ reads_is k (length ts) (omega arith))

  place_of : {A : Type 0} → Outcome W A → At W → At W
  place_of (Ok x) at = at
  place_of (Err at) d = at

  pub stops_once : {b : Bool} {c : Sort} {X : Form b c} {ts : List (Tok W)} {at there : At W} → StopBy b c X ts at → StopBy b c X ts there → at ≡ there
  unfolding place_of
  stops_once {c = c} {ts = ts} {at = at} {there = there} h k = ap (λ (o : Outcome W (El W c)). place_of o at) (sym (stops_is h (length ts) (omega arith)) ∙ stops_is k (length ts) (omega arith))

-- ---- as many levels as tokens are enough

not_deep_case : {W : Type 0} (d : ℕ) (l r : Bool) (here ts : List (Tok W)) (k : ℕ → Option (List (Tok W))) → length ts < d → ((n : ℕ) → length ts ≤ n → k n ≡ None) → deep_case d l r here k ≡ None
not_deep_case zero l r here ts k less h = absurd (omega (arith, less))
not_deep_case (suc d) true r here ts k less h = h d (omega (arith, less))
not_deep_case (suc d) false true here ts k less h = h (suc (suc d)) (omega (arith, less))
not_deep_case (suc d) false false here ts k less h = h (suc d) (omega (arith, less))

pub not_deep : {W : Type 0} (ts : List (Tok W)) (d : ℕ) → length ts ≤ d → deep d ts ≡ None
not_deep [] d le = refl
not_deep (t ∷ ts) d le = not_deep_case d (is_left t.symbol) (is_right t.symbol) (t ∷ ts) ts (λ n. deep n ts) (omega (arith, le)) (λ n less. not_deep ts n less)

-- ---- the same, as the laws say it

module _ {W : Type 0} where
  pub once_read : (b : Bool) (c : Sort) (X : Form b c) (ts rest others : List (Tok W)) (x y : El W c) → ReadBy b c X ts x rest → ReadBy b c X ts y others → (x ≡ y) × (rest ≡ others)
  once_read b c X ts rest others x y h k = let same = reads_once h k in (ap (λ z. z.0) same, ap (λ z. z.1) same)

  pub once_stopped : (b : Bool) (c : Sort) (X : Form b c) (ts : List (Tok W)) (at there : At W) → StopBy b c X ts at → StopBy b c X ts there → at ≡ there
  once_stopped b c X ts at there h k = stops_once h k

  pub never_both : (b : Bool) (c : Sort) (X : Form b c) (ts rest : List (Tok W)) (x : El W c) (at : At W) → ReadBy b c X ts x rest → StopBy b c X ts at → ⊥
  never_both b c X ts rest x at h k = reads_or_stops h k

  abbrev ReadsOrStops : (b : Bool) (c : Sort) → Form b c → List (Tok W) → Type 0
  ReadsOrStops b c X ts = ((x : El W c) × (rest : List (Tok W)) × ReadBy b c X ts x rest) ⊎ ((at : At W) × StopBy b c X ts at)

  one_by : (b : Bool) (c : Sort) (X : Form b c) (ts : List (Tok W)) (r : Outcome W (El W c)) → Tells (length ts) b c X ts r → ReadsOrStops b c X ts
  one_by b c X ts (Ok x) h = inl (x.0, x.1, h.0)
  one_by b c X ts (Err at) (inl h) = inr (at, h.0)
  one_by b c X ts (Err at) (inr h) = absurd (some_none h.0 (not_deep ts (length ts) (omega arith)))

  pub always_one : (b : Bool) (c : Sort) (X : Form b c) (ts : List (Tok W)) → ReadsOrStops b c X ts
  always_one b c X ts = one_by b c X ts (go (level (length ts)) b c X ts) (read_tells (length ts) b c X ts)
