-- What reading answers is so, once for all forms.
use Rattle.std.proofs.Common.{◌≡◌, ℕ, zero, suc, ◌≤◌, ◌<◌, Bool, true, false, cond as if_then, ◌&&◌, ◌⊎◌, inl, inr, List, [], ◌∷◌, length, Option, Some, Ok, Err, refl, ◌∙◌, arith}
use Rattle.kp_tree_grammar.specs.declared.symbol.Symbol.{Symbol}
use Rattle.kp_tree_grammar.specs.declared.symbol.Symbol.TheVariants as symbols
use Rattle.kp_tree_grammar.specs.Sorts.{s_seen, Seen, Sort, s_none, s_word, s_pair, s_list, El, Maker, apply}
use Rattle.kp_tree_grammar.specs.Forms.{is_no_bracket, hits, Named, Form, token, none, refuse, ◌▹◌, ◌▸◌, many, run, maybe, make, choose, loose, bracket, within}
use Rattle.kp_tree_grammar.specs.Grammar.{rule}
use Rattle.kp_tree_grammar.specs.Reading.{Syntax, At, stop, ReadBy, r_token, r_none, r_both, r_after, r_end, r_more, r_last, r_next, r_absent, r_present, r_make, r_choice, r_loose, r_bracket, r_within, StopBy, s_token, s_nothing, s_first, s_second, s_before, s_after, s_here, s_later, s_lacks, s_at, s_next, s_present, s_make, s_none_there, s_choice, s_loose, s_unopened, s_inside, s_unclosed, s_within}
use Rattle.kp_tree_grammar.specs.Symbols.{Tok, is_left, is_right, first_is}
use Rattle.kp_tree_grammar.specs.Parsing.{Outcome, ◌>>=◌, token_at, after_at, closed, bracket_at, some_at, next_at, pick_at, go, level}
use Rattle.kp_tree_grammar.specs.Depth.{deep_case, deep}

-- ---- what reads leaves fewer tokens

abbrev pub Less : {W : Type 0} → Bool → List (Tok W) → List (Tok W) → Type 0
Less true ts rest = length rest < length ts
Less false ts rest = length rest ≤ length ts

less_then : {W : Type 0} (b d : Bool) (ts mid rest : List (Tok W)) → Less b ts mid → Less d mid rest → Less b ts rest
less_then true true ts mid rest h k = omega (arith, h, k)
less_then true false ts mid rest h k = omega (arith, h, k)
less_then false true ts mid rest h k = omega (arith, h, k)
less_then false false ts mid rest h k = omega (arith, h, k)

less_on : {W : Type 0} (b : Bool) (t : Tok W) (ts rest : List (Tok W)) → Less b ts rest → length rest < length (t ∷ ts)
less_on true t ts rest h = omega (arith, h)
less_on false t ts rest h = omega (arith, h)

pub less_any : {W : Type 0} (b : Bool) (ts rest : List (Tok W)) → Less b ts rest → length rest ≤ length ts
less_any true ts rest h = omega (arith, h)
less_any false ts rest h = h

pub shrinks : {W : Type 0} {b : Bool} {c : Sort} {X : Form b c} {ts : List (Tok W)} {x : El W c} {rest : List (Tok W)} → ReadBy b c X ts x rest → Less b ts rest
shrinks (r_token e) = omega arith
shrinks r_none = omega arith
shrinks (r_both {b = b} {d = d} {ts = ts} {mid = mid} {rest = rest} h k) = less_then b d ts mid rest (shrinks h) (shrinks k)
shrinks (r_after {b = b} {t = t} {ts = ts} {rest = rest} e h) = less_on b t ts rest (shrinks h)
shrinks (r_end e) = omega arith
shrinks (r_more {ts = ts} {mid = mid} {rest = rest} e h k) = less_any true ts rest (less_then true false ts mid rest (shrinks h) (shrinks k))
shrinks (r_last e h) = omega arith
shrinks (r_next {ts = ts} {mid = mid} {rest = rest} e h k) = less_any true ts rest (less_then true false ts mid rest (shrinks h) (shrinks k))
shrinks (r_absent e) = omega arith
shrinks (r_present {b = b} {ts = ts} {rest = rest} e h) = less_any b ts rest (shrinks h)
shrinks (r_make h) = shrinks h
shrinks (r_choice h) = shrinks h
shrinks (r_loose {ts = ts} {rest = rest} h) = less_any true ts rest (shrinks h)
shrinks (r_bracket {b = b} {t = t} {u = u} {ts = ts} {rest = rest} e h k) = less_then true false (t ∷ ts) (u ∷ rest) rest (less_on b t ts (u ∷ rest) (shrinks h)) (omega arith)
shrinks (r_within h) = shrinks h

-- ---- levels

abbrev pub Passed : {W : Type 0} → ℕ → List (Tok W) → List (Tok W) → Type 0
Passed d ts at = (n : ℕ) × (deep d ts ≡ deep n at)

plain_over : {W : Type 0} (s : Symbol) (d : ℕ) (here : List (Tok W)) (k : ℕ → Option (List (Tok W))) → is_no_bracket s ≡ true → deep_case d (is_left s) (is_right s) here k ≡ k d
plain_over symbols.Left d here k e = absurd cc
plain_over symbols.Right d here k e = absurd cc
plain_over _ zero here k e = refl
plain_over _ (suc d) here k e = refl

-- the first of two tests that both hold
pub first_true : (a b : Bool) → (a && b) ≡ true → a ≡ true
first_true true b e = refl
first_true false b e = absurd cc

over : {W : Type 0} (p : Symbol → Bool) (d : ℕ) (t : Tok W) (ts : List (Tok W)) → hits p t.symbol ≡ true → deep d (t ∷ ts) ≡ deep d ts
over p d t ts e = plain_over t.symbol d (t ∷ ts) (λ n. deep n ts) (first_true (is_no_bracket t.symbol) (p t.symbol) e)

over_left : {W : Type 0} (d : ℕ) (t : Tok W) (ts : List (Tok W)) → is_left t.symbol ≡ true → deep (suc d) (t ∷ ts) ≡ deep d ts
over_left d t ts e = rw e refl

not_left : (s : Symbol) → is_right s ≡ true → is_left s ≡ false
not_left symbols.Right e = refl
not_left _ e = absurd cc

over_right : {W : Type 0} (d : ℕ) (t : Tok W) (ts : List (Tok W)) → is_right t.symbol ≡ true → deep d (t ∷ ts) ≡ deep (suc d) ts
over_right zero t ts e = let l : is_left t.symbol ≡ false = not_left t.symbol e in rw (l, e) refl
over_right (suc d) t ts e = let l : is_left t.symbol ≡ false = not_left t.symbol e in rw (l, e) refl

-- ---- what an answer tells

-- it reads so, at the same level; or it stops there, or a bracket there opens a level too many
abbrev pub Tells : {W : Type 0} → ℕ → (b : Bool) (c : Sort) → Form b c → List (Tok W) → Outcome W (El W c) → Type 0
Tells d b c X ts (Ok x) = ReadBy b c X ts x.0 x.1 × (deep d ts ≡ deep d x.1)
Tells d b c X ts (Err at) = (StopBy b c X ts at × Passed d ts at.tokens) ⊎ ((deep d ts ≡ Some at.tokens) × (at.reason ≡ Syntax))

module _ {W : Type 0} (d : ℕ) where
  -- an error behind what was read, or within a form
  abbrev Halts : List (Tok W) → At W → (At W → Type 0) → Type 0
  Halts ts at S = (S at × Passed d ts at.tokens) ⊎ ((deep d ts ≡ Some at.tokens) × (at.reason ≡ Syntax))

  halts : (ts mid : List (Tok W)) (at : At W) (S T : At W → Type 0) → deep d ts ≡ deep d mid → (S at → T at) → Halts mid at S → Halts ts at T
  halts ts mid at S T e f (inl h) = inl (f h.0, (h.1.0, e ∙ h.1.1))
  halts ts mid at S T e f (inr h) = inr (e ∙ h.0, h.1)

  token_if : {c : Sort} (p : Symbol → Bool) (m : Symbol → Maker s_word c) (t : Tok W) (ts : List (Tok W)) (b : Bool) → hits p t.symbol ≡ b → Tells d true c (token p m) (t ∷ ts) (if_then b (Ok (apply W (m t.symbol) t.word, ts)) (Err (stop (t ∷ ts))))
  token_if p m t ts true e = (r_token e, over p d t ts e)
  token_if p m t ts false e = inl (s_token e, (d, refl))

  token_tells : {c : Sort} (p : Symbol → Bool) (m : Symbol → Maker s_word c) (ts : List (Tok W)) → Tells d true c (token p m) ts (token_at p m ts)
  token_tells p m [] = inl (s_token refl, (d, refl))
  token_tells p m (t ∷ ts) = token_if p m t ts (hits p t.symbol) refl

  both_second : {b e : Bool} {a c : Sort} (X : Form b a) (Y : Form e c) (ts : List (Tok W)) (x : El W a × List (Tok W)) (r : Outcome W (El W c))
      → ReadBy b a X ts x.0 x.1 → deep d ts ≡ deep d x.1 → Tells d e c Y x.1 r → Tells d b (s_pair a c) (X ▹ Y) ts (r >>= λ y. Ok ((x.0, y.0), y.1))
  both_second X Y ts x (Ok y) h l k = (r_both h k.0, l ∙ k.1)
  both_second X Y ts x (Err at) h l k = halts ts x.1 at (StopBy _ _ Y x.1) (StopBy _ _ (X ▹ Y) ts) l (λ s. s_second h s) k

  both_first : {b e : Bool} {a c : Sort} (X : Form b a) (Y : Form e c) (ts : List (Tok W)) (g : List (Tok W) → Outcome W (El W c)) (r : Outcome W (El W a))
      → ((us : List (Tok W)) → Tells d e c Y us (g us)) → Tells d b a X ts r → Tells d b (s_pair a c) (X ▹ Y) ts (r >>= λ x. g x.1 >>= λ y. Ok ((x.0, y.0), y.1))
  both_first X Y ts g (Ok x) k h = both_second X Y ts x (g x.1) h.0 h.1 (k x.1)
  both_first X Y ts g (Err at) k h = halts ts ts at (StopBy _ _ X ts) (StopBy _ _ (X ▹ Y) ts) refl (λ s. s_first s) h

  past_token : {b : Bool} {a : Sort} (p : Symbol → Bool) (X : Form b a) (t : Tok W) (ts : List (Tok W)) (r : Outcome W (El W a)) → hits p t.symbol ≡ true → Tells d b a X ts r → Tells d true a (p ▸ X) (t ∷ ts) r
  past_token p X t ts (Ok x) e h = (r_after e h.0, over p d t ts e ∙ h.1)
  past_token p X t ts (Err at) e h = halts (t ∷ ts) ts at (StopBy _ _ X ts) (StopBy _ _ (p ▸ X) (t ∷ ts)) (over p d t ts e) (λ s. s_after e s) h

  after_if : {b : Bool} {a : Sort} (p : Symbol → Bool) (X : Form b a) (f : List (Tok W) → Outcome W (El W a)) (t : Tok W) (ts : List (Tok W)) (v : Bool) → hits p t.symbol ≡ v → Tells d b a X ts (f ts)
      → Tells d true a (p ▸ X) (t ∷ ts) (if_then v (f ts) (Err (stop (t ∷ ts))))
  after_if p X f t ts true e h = past_token p X t ts (f ts) e h
  after_if p X f t ts false e h = inl (s_before e, (d, refl))

  after_tells : {b : Bool} {a : Sort} (p : Symbol → Bool) (X : Form b a) (f : List (Tok W) → Outcome W (El W a)) → ((us : List (Tok W)) → Tells d b a X us (f us)) → (ts : List (Tok W)) → Tells d true a (p ▸ X) ts (after_at p f ts)
  after_tells p X f h [] = inl (s_before refl, (d, refl))
  after_tells p X f h (t ∷ ts) = after_if p X f t ts (hits p t.symbol) refl (h ts)

  more_second : {a : Sort} (p : Symbol → Bool) (X : Form true a) (ts : List (Tok W)) (x : El W a × List (Tok W)) (r : Outcome W (List (El W a)))
      → first_is p ts ≡ true → ReadBy true a X ts x.0 x.1 → deep d ts ≡ deep d x.1 → Tells d false (s_list a) (many p X) x.1 r → Tells d false (s_list a) (many p X) ts (r >>= λ xs. Ok (x.0 ∷ xs.0, xs.1))
  more_second p X ts x (Ok xs) e h l k = (r_more e h k.0, l ∙ k.1)
  more_second p X ts x (Err at) e h l k = halts ts x.1 at (StopBy _ _ (many p X) x.1) (StopBy _ _ (many p X) ts) l (λ s. s_later e h s) k

  more_first : {a : Sort} (p : Symbol → Bool) (X : Form true a) (ts : List (Tok W)) (g : List (Tok W) → Outcome W (List (El W a))) (r : Outcome W (El W a))
      → first_is p ts ≡ true → ((us : List (Tok W)) → length us < length ts → Tells d false (s_list a) (many p X) us (g us)) → Tells d true a X ts r → Tells d false (s_list a) (many p X) ts (r >>= λ x. g x.1 >>= λ xs. Ok (x.0 ∷ xs.0, xs.1))
  more_first p X ts g (Ok x) e k h = more_second p X ts x (g x.1) e h.0 h.1 (k x.1 (shrinks h.0))
  more_first p X ts g (Err at) e k h = halts ts ts at (StopBy _ _ X ts) (StopBy _ _ (many p X) ts) refl (λ s. s_here e s) h

  more_if : {a : Sort} (p : Symbol → Bool) (X : Form true a) (ts : List (Tok W)) (g : List (Tok W) → Outcome W (List (El W a))) (r : Outcome W (El W a)) (v : Bool)
      → first_is p ts ≡ v → ((us : List (Tok W)) → length us < length ts → Tells d false (s_list a) (many p X) us (g us)) → Tells d true a X ts r → Tells d false (s_list a) (many p X) ts (if_then v (r >>= λ x. g x.1 >>= λ xs. Ok (x.0 ∷ xs.0, xs.1)) (Ok ([], ts)))
  more_if p X ts g r true e k h = more_first p X ts g r e k h
  more_if p X ts g r false e k h = (r_end e, refl)

  some_tells : {a : Sort} (p : Symbol → Bool) (X : Form true a) (f : List (Tok W) → Outcome W (El W a)) → ((us : List (Tok W)) → Tells d true a X us (f us)) → (n : ℕ) (ts : List (Tok W)) → length ts ≤ n → Tells d false (s_list a) (many p X) ts (some_at p f n ts)
  unfolding some_at
  some_tells p X f h zero [] le = (r_end refl, refl)
  some_tells p X f h zero (t ∷ ts) le = absurd (omega (arith, le))
  some_tells p X f h (suc n) ts le = more_if p X ts (some_at p f n) (f ts) (first_is p ts) refl (λ us less. some_tells p X f h n us (omega (arith, less, le))) (h ts)

  last_if : {a : Sort} (p : Symbol → Bool) (X : Seen → Form true (s_pair s_seen a)) (done : Seen → Bool) (s : Seen) (ts : List (Tok W)) (v : Bool) → first_is p ts ≡ false → done s ≡ v → Tells d false (s_list a) (run p X done s) ts (if_then v (Ok ([], ts)) (Err (stop ts)))
  last_if p X done s ts true e h = (r_last e h, refl)
  last_if p X done s ts false e h = inl (s_lacks e h, (d, refl))

  next_second : {a : Sort} (p : Symbol → Bool) (X : Seen → Form true (s_pair s_seen a)) (done : Seen → Bool) (s : Seen) (ts : List (Tok W)) (x : (Seen × El W a) × List (Tok W)) (r : Outcome W (List (El W a)))
      → first_is p ts ≡ true → ReadBy true (s_pair s_seen a) (X s) ts x.0 x.1 → deep d ts ≡ deep d x.1 → Tells d false (s_list a) (run p X done x.0.0) x.1 r → Tells d false (s_list a) (run p X done s) ts (r >>= λ xs. Ok (x.0.1 ∷ xs.0, xs.1))
  next_second p X done s ts x (Ok xs) e h l k = (r_next e h k.0, l ∙ k.1)
  next_second p X done s ts x (Err at) e h l k = halts ts x.1 at (StopBy _ _ (run p X done x.0.0) x.1) (StopBy _ _ (run p X done s) ts) l (λ t. s_next e h t) k

  next_first : {a : Sort} (p : Symbol → Bool) (X : Seen → Form true (s_pair s_seen a)) (done : Seen → Bool) (s : Seen) (ts : List (Tok W)) (g : Seen → List (Tok W) → Outcome W (List (El W a))) (r : Outcome W (Seen × El W a))
      → first_is p ts ≡ true → ((v : Seen) (us : List (Tok W)) → length us < length ts → Tells d false (s_list a) (run p X done v) us (g v us)) → Tells d true (s_pair s_seen a) (X s) ts r
      → Tells d false (s_list a) (run p X done s) ts (r >>= λ x. g x.0.0 x.1 >>= λ xs. Ok (x.0.1 ∷ xs.0, xs.1))
  next_first p X done s ts g (Ok x) e k h = next_second p X done s ts x (g x.0.0 x.1) e h.0 h.1 (k x.0.0 x.1 (shrinks h.0))
  next_first p X done s ts g (Err at) e k h = halts ts ts at (StopBy _ _ (X s) ts) (StopBy _ _ (run p X done s) ts) refl (λ t. s_at e t) h

  next_if : {a : Sort} (p : Symbol → Bool) (X : Seen → Form true (s_pair s_seen a)) (done : Seen → Bool) (s : Seen) (ts : List (Tok W)) (g : Seen → List (Tok W) → Outcome W (List (El W a))) (r : Outcome W (Seen × El W a)) (v : Bool)
      → first_is p ts ≡ v → ((v : Seen) (us : List (Tok W)) → length us < length ts → Tells d false (s_list a) (run p X done v) us (g v us)) → Tells d true (s_pair s_seen a) (X s) ts r
      → Tells d false (s_list a) (run p X done s) ts (if_then v (r >>= λ x. g x.0.0 x.1 >>= λ xs. Ok (x.0.1 ∷ xs.0, xs.1)) (if_then (done s) (Ok ([], ts)) (Err (stop ts))))
  next_if p X done s ts g r true e k h = next_first p X done s ts g r e k h
  next_if p X done s ts g r false e k h = last_if p X done s ts (done s) e refl

  run_tells : {a : Sort} (p : Symbol → Bool) (X : Seen → Form true (s_pair s_seen a)) (done : Seen → Bool) (f : Seen → List (Tok W) → Outcome W (Seen × El W a)) → ((v : Seen) (us : List (Tok W)) → Tells d true (s_pair s_seen a) (X v) us (f v us))
      → (n : ℕ) (s : Seen) (ts : List (Tok W)) → length ts ≤ n → Tells d false (s_list a) (run p X done s) ts (next_at p f done n s ts)
  unfolding next_at
  run_tells p X done f h zero s [] le = last_if p X done s [] (done s) refl refl
  run_tells p X done f h zero s (t ∷ ts) le = absurd (omega (arith, le))
  run_tells p X done f h (suc n) s ts le = next_if p X done s ts (next_at p f done n) (f s ts) (first_is p ts) refl (λ v us less. run_tells p X done f h n v us (omega (arith, less, le))) (h s ts)

  present_tells : {b : Bool} {a : Sort} (p : Symbol → Bool) (m : Maker s_none a) (X : Form b a) (ts : List (Tok W)) (r : Outcome W (El W a)) → first_is p ts ≡ true → Tells d b a X ts r → Tells d false a (maybe p m X) ts r
  present_tells p m X ts (Ok x) e h = (r_present e h.0, h.1)
  present_tells p m X ts (Err at) e h = halts ts ts at (StopBy _ _ X ts) (StopBy _ _ (maybe p m X) ts) refl (λ s. s_present e s) h

  maybe_if : {b : Bool} {a : Sort} (p : Symbol → Bool) (m : Maker s_none a) (X : Form b a) (ts : List (Tok W)) (r : Outcome W (El W a)) (v : Bool) → first_is p ts ≡ v → Tells d b a X ts r → Tells d false a (maybe p m X) ts (if_then v r (Ok (apply W m tt, ts)))
  maybe_if p m X ts r true e h = present_tells p m X ts r e h
  maybe_if p m X ts r false e h = (r_absent e, refl)

  make_tells : {b : Bool} {a c : Sort} (m : Maker a c) (X : Form b a) (ts : List (Tok W)) (r : Outcome W (El W a)) → Tells d b a X ts r → Tells d b c (make m X) ts (r >>= λ x. Ok (apply W m x.0, x.1))
  make_tells m X ts (Ok x) h = (r_make h.0, h.1)
  make_tells m X ts (Err at) h = halts ts ts at (StopBy _ _ X ts) (StopBy _ _ (make m X) ts) refl (λ s. s_make s) h

  choice_tells : {b : Bool} {a : Sort} (pick : Symbol → Form b a) (t : Tok W) (ts : List (Tok W)) (r : Outcome W (El W a)) → Tells d b a (pick t.symbol) (t ∷ ts) r → Tells d b a (choose pick) (t ∷ ts) r
  choice_tells pick t ts (Ok x) h = (r_choice h.0, h.1)
  choice_tells pick t ts (Err at) h = halts (t ∷ ts) (t ∷ ts) at (StopBy _ _ (pick t.symbol) (t ∷ ts)) (StopBy _ _ (choose pick) (t ∷ ts)) refl (λ s. s_choice s) h

  pick_tells : {b : Bool} {a : Sort} (pick : Symbol → Form b a) (f : Symbol → List (Tok W) → Outcome W (El W a)) → ((s : Symbol) (us : List (Tok W)) → Tells d b a (pick s) us (f s us)) → (ts : List (Tok W)) → Tells d b a (choose pick) ts (pick_at f ts)
  pick_tells pick f h [] = inl (s_none_there, (d, refl))
  pick_tells pick f h (t ∷ ts) = choice_tells pick t ts (f t.symbol (t ∷ ts)) (h t.symbol (t ∷ ts))

  loose_tells : {a : Sort} (X : Form true a) (ts : List (Tok W)) (r : Outcome W (El W a)) → Tells d true a X ts r → Tells d false a (loose X) ts r
  loose_tells X ts (Ok x) h = (r_loose h.0, h.1)
  loose_tells X ts (Err at) h = halts ts ts at (StopBy _ _ X ts) (StopBy _ _ (loose X) ts) refl (λ s. s_loose s) h

  within_tells : {a : Sort} (n : Named a) (ts : List (Tok W)) (r : Outcome W (El W a)) → Tells d true a (bracket (rule n)) ts r → Tells d true a (within n) ts r
  within_tells n ts (Ok x) h = (r_within h.0, h.1)
  within_tells n ts (Err at) h = halts ts ts at (StopBy _ _ (bracket (rule n)) ts) (StopBy _ _ (within n) ts) refl (λ s. s_within s) h

  go_tells : (k : (b : Bool) (c : Sort) → Form b c → List (Tok W) → Outcome W (El W c))
      → ((b : Bool) (c : Sort) (X : Form b c) (ts : List (Tok W)) → Tells d true c (bracket X) ts (k b c X ts))
      → (b : Bool) (c : Sort) (X : Form b c) (ts : List (Tok W)) → Tells d b c X ts (go k b c X ts)
  go_tells k K _ _ (token p m) ts = token_tells p m ts
  go_tells k K _ _ (none m) ts = (r_none, refl)
  go_tells k K _ _ (refuse q) ts = inl (s_nothing, (d, refl))
  go_tells k K _ _ (X ▹ Y) ts = both_first X Y ts (go k _ _ Y) (go k _ _ X ts) (go_tells k K _ _ Y) (go_tells k K _ _ X ts)
  go_tells k K _ _ (p ▸ X) ts = after_tells p X (go k _ _ X) (go_tells k K _ _ X) ts
  go_tells k K _ _ (many p X) ts = some_tells p X (go k _ _ X) (go_tells k K _ _ X) (length ts) ts (omega arith)
  go_tells k K _ _ (run p X done s) ts = run_tells p X done (λ v. go k _ _ (X v)) (λ v. go_tells k K _ _ (X v)) (length ts) s ts (omega arith)
  go_tells k K _ _ (maybe p m X) ts = maybe_if p m X ts (go k _ _ X ts) (first_is p ts) refl (go_tells k K _ _ X ts)
  go_tells k K _ _ (make m X) ts = make_tells m X ts (go k _ _ X ts) (go_tells k K _ _ X ts)
  go_tells k K _ _ (choose pick) ts = pick_tells pick (λ s. go k _ _ (pick s)) (λ s. go_tells k K _ _ (pick s)) ts
  go_tells k K _ _ (loose X) ts = loose_tells X ts (go k _ _ X ts) (go_tells k K _ _ X ts)
  go_tells k K _ _ (bracket X) ts = K _ _ X ts
  go_tells k K _ _ (within n) ts = within_tells n ts (k _ _ (rule n) ts) (K _ _ (rule n) ts)

-- ---- brackets

module _ {W : Type 0} where
  shut : {b : Bool} {c : Sort} (X : Form b c) (ts : List (Tok W)) (v : Bool) → first_is is_left ts ≡ v → Tells 0 true c (bracket X) ts (Err (stop ts))
  shut X [] v e = inl (s_unopened refl, (0, refl))
  shut X (t ∷ ts) true e = inr (rw e refl, refl)
  shut X (t ∷ ts) false e = inl (s_unopened e, (0, refl))

  closed_if : {b : Bool} {c : Sort} (d : ℕ) (X : Form b c) (t u : Tok W) (ts us : List (Tok W)) (x : El W c) (v : Bool)
      → is_left t.symbol ≡ true → ReadBy b c X ts x (u ∷ us) → deep d ts ≡ deep d (u ∷ us) → is_right u.symbol ≡ v → Tells (suc d) true c (bracket X) (t ∷ ts) (if_then v (Ok (x, us)) (Err (stop (u ∷ us))))
  closed_if d X t u ts us x true e h l k = (r_bracket e h k, over_left d t ts e ∙ l ∙ over_right d u us k)
  closed_if d X t u ts us x false e h l k = inl (s_unclosed e h k, (d, over_left d t ts e ∙ l))

  closed_tells : {b : Bool} {c : Sort} (d : ℕ) (X : Form b c) (t : Tok W) (ts us : List (Tok W)) (x : El W c)
      → is_left t.symbol ≡ true → ReadBy b c X ts x us → deep d ts ≡ deep d us → Tells (suc d) true c (bracket X) (t ∷ ts) (closed x us)
  closed_tells d X t ts [] x e h l = inl (s_unclosed e h refl, (d, over_left d t ts e ∙ l))
  closed_tells d X t ts (u ∷ us) x e h l = closed_if d X t u ts us x (is_right u.symbol) e h l refl

  inside_tells : {b : Bool} {c : Sort} (d : ℕ) (X : Form b c) (t : Tok W) (ts : List (Tok W)) (r : Outcome W (El W c))
      → is_left t.symbol ≡ true → Tells d b c X ts r → Tells (suc d) true c (bracket X) (t ∷ ts) (r >>= λ x. closed x.0 x.1)
  inside_tells d X t ts (Ok x) e h = closed_tells d X t ts x.1 x.0 e h.0 h.1
  inside_tells d X t ts (Err at) e (inl h) = inl (s_inside e h.0, (h.1.0, over_left d t ts e ∙ h.1.1))
  inside_tells d X t ts (Err at) e (inr h) = inr (over_left d t ts e ∙ h.0, h.1)

  opened_if : {b : Bool} {c : Sort} (d : ℕ) (X : Form b c) (t : Tok W) (ts : List (Tok W)) (r : Outcome W (El W c)) (v : Bool)
      → is_left t.symbol ≡ v → Tells d b c X ts r → Tells (suc d) true c (bracket X) (t ∷ ts) (if_then v (r >>= λ x. closed x.0 x.1) (Err (stop (t ∷ ts))))
  opened_if d X t ts r true e h = inside_tells d X t ts r e h
  opened_if d X t ts r false e h = inl (s_unopened e, (suc d, refl))

  bracket_tells : {b : Bool} {c : Sort} (d : ℕ) (X : Form b c) (f : List (Tok W) → Outcome W (El W c)) → ((us : List (Tok W)) → Tells d b c X us (f us)) → (ts : List (Tok W)) → Tells (suc d) true c (bracket X) ts (bracket_at f ts)
  bracket_tells d X f h [] = inl (s_unopened refl, (suc d, refl))
  bracket_tells d X f h (t ∷ ts) = opened_if d X t ts (f ts) (is_left t.symbol) refl (h ts)

  pub read_tells : (d : ℕ) (b : Bool) (c : Sort) (X : Form b c) (ts : List (Tok W)) → Tells d b c X ts (go (level d) b c X ts)
  read_tells zero b c X ts = go_tells 0 (level 0) (λ b c Y us. shut Y us (first_is is_left us) refl) b c X ts
  read_tells (suc d) b c X ts = go_tells (suc d) (level (suc d)) (λ b c Y us. bracket_tells d Y (go (level d) b c Y) (read_tells d b c Y) us) b c X ts
