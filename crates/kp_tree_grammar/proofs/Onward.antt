-- What is behind the tokens that a form reads, or behind the one at which it stops, doesn't matter.
use Rattle.std.proofs.Common.{◌≡◌, ℕ, zero, suc, ◌≤◌, ◌<◌, inl, inr, Bool, true, false, cond as if_then, List, [], ◌∷◌, ◌++◌, length, length-append, Some, Ok, Err, refl, sym, ap, subst, ◌∙◌, arith}
use Rattle.kp_tree_grammar.specs.declared.symbol.Symbol.{Symbol}
use Rattle.kp_tree_grammar.specs.Sorts.{s_seen, Seen, Sort, s_none, s_word, s_pair, s_list, El, Maker, apply}
use Rattle.kp_tree_grammar.specs.Forms.{hits, Form, token, none, refuse, ◌▹◌, ◌▸◌, many, run, maybe, make, choose, loose, bracket, within}
use Rattle.kp_tree_grammar.specs.Grammar.{rule}
use Rattle.kp_tree_grammar.specs.Reading.{At, stop, stop_by, Reads, Stops}
use Rattle.kp_tree_grammar.specs.Symbols.{Tok, is_left, is_right, first_is}
use Rattle.kp_tree_grammar.specs.Parsing.{Outcome, ◌>>=◌, token_at, after_at, closed, bracket_at, pick_at, go, level}
use Rattle.kp_tree_grammar.specs.Depth.{deep_case, deep}
use Rattle.kp_tree_grammar.specs.Laws.{followed}
use Rattle.kp_tree_grammar.proofs.Tells.{shrinks, Tells, read_tells}
use Rattle.kp_tree_grammar.proofs.Within.{stops_within}
use Rattle.kp_tree_grammar.proofs.Exact.{go_reads, many_step, run_step, fewer, reads_is, stops_is, not_deep}
use Rattle.kp_base.proofs.Cases.{some_none}

-- ---- what is left is no more than there was

deep_within_case : {W : Type 0} (d : ℕ) (l r : Bool) (t : Tok W) (ts us : List (Tok W)) → ((n : ℕ) → deep n ts ≡ Some us → length us ≤ length ts) → deep_case d l r (t ∷ ts) (λ n. deep n ts) ≡ Some us → length us ≤ length (t ∷ ts)
deep_within_case zero true r t ts us h e = let same : t ∷ ts ≡ us = cc in omega (arith, ap (λ (vs : List (Tok _)). length vs) same)
deep_within_case (suc d) true r t ts us h e = omega (arith, h d e)
deep_within_case zero false true t ts us h e = omega (arith, h 1 e)
deep_within_case (suc d) false true t ts us h e = omega (arith, h (suc (suc d)) e)
deep_within_case zero false false t ts us h e = omega (arith, h 0 e)
deep_within_case (suc d) false false t ts us h e = omega (arith, h (suc d) e)

-- the first bracket that is too deep stands within the tokens
pub deep_within : {W : Type 0} (d : ℕ) (ts us : List (Tok W)) → deep d ts ≡ Some us → length us ≤ length ts
deep_within d [] us e = absurd cc
deep_within d (t ∷ ts) us e = deep_within_case d (is_left t.symbol) (is_right t.symbol) t ts us (λ n. deep_within n ts us) e

module _ {W : Type 0} where
  -- the tokens that are left behind a value, or from the offending one on
  abbrev pub left : {A : Type 0} → Outcome W A → List (Tok W)
  left (Ok x) = x.1
  left (Err at) = at.tokens

  left_told : (d : ℕ) (b : Bool) (c : Sort) (X : Form b c) (ts : List (Tok W)) (r : Outcome W (El W c)) → Tells d b c X ts r → length (left r) ≤ length ts
  left_told d b c X ts (Ok x) h = fewer ts x.1 h.0
  left_told d b c X ts (Err at) (inl h) = stops_within h.0
  left_told d b c X ts (Err at) (inr h) = deep_within d ts at.tokens h.0

  left_within : (d : ℕ) (b : Bool) (c : Sort) (X : Form b c) (ts : List (Tok W)) → length (left (go (level d) b c X ts)) ≤ length ts
  left_within d b c X ts = left_told d b c X ts (go (level d) b c X ts) (read_tells d b c X ts)

  -- ---- with more tokens behind

  module _ (more : List (Tok W)) where
    -- the same, with these tokens behind what is left
    abbrev pub onto : {A : Type 0} → Outcome W A → Outcome W A
    onto (Ok x) = Ok (x.0, x.1 ++ more)
    onto (Err at) = Err (followed at more)

    -- where tokens are left, the outcome is the same with more behind them
    abbrev pub GoesOn : {A : Type 0} → Outcome W A → Outcome W A → Type 0
    GoesOn r s = 0 < length (left r) → s ≡ onto r

    token_on : {c : Sort} (p : Symbol → Bool) (m : Symbol → Maker s_word c) (ts : List (Tok W)) → GoesOn (token_at p m ts) (token_at p m (ts ++ more))
    token_on p m [] some = absurd (omega (arith, some))
    token_on p m (t ∷ ts) some = by_hit (hits p t.symbol) where
      by_hit : (v : Bool) → if_then v (Ok (apply W (m t.symbol) t.word, ts ++ more)) (Err (stop (t ∷ (ts ++ more)))) ≡ onto (if_then v (Ok (apply W (m t.symbol) t.word, ts)) (Err (stop (t ∷ ts))))
      by_hit true = refl
      by_hit false = refl

    nothing_on : {A : Type 0} (q : Symbol → Bool) (ts : List (Tok W)) → 0 < length ts → ◌≡◌ {A = Outcome W A} (Err (stop_by q (ts ++ more))) (Err (followed (stop_by q ts) more))
    nothing_on q [] some = absurd (omega (arith, some))
    nothing_on q (t ∷ ts) some = refl

    first_same : (p : Symbol → Bool) (ts : List (Tok W)) → 0 < length ts → first_is p (ts ++ more) ≡ first_is p ts
    first_same p [] some = absurd (omega (arith, some))
    first_same p (t ∷ ts) some = refl

    -- one outcome and what comes of it
    then_on : {A B : Type 0} (r s : Outcome W A) (g : A → List (Tok W) → Outcome W B) → GoesOn r s → ((x : A) (us : List (Tok W)) → r ≡ Ok (x, us) → length (left (g x us)) ≤ length us) → ((x : A) (us : List (Tok W)) → r ≡ Ok (x, us) → GoesOn (g x us) (g x (us ++ more)))
        → GoesOn (r >>= λ x. g x.0 x.1) (s >>= λ x. g x.0 x.1)
    then_on (Ok x) s g h fewer k some = rw (h (omega (arith, fewer x.0 x.1 refl, some))) (k x.0 x.1 refl some)
    then_on (Err at) s g h fewer k some = rw (h some) refl

    -- a value and what is made of it
    make_on : {A B : Type 0} (r s : Outcome W A) (m : A → B) → GoesOn r s → GoesOn (r >>= λ x. Ok (m x.0, x.1)) (s >>= λ x. Ok (m x.0, x.1))
    make_on (Ok x) s m h some = rw (h some) refl
    make_on (Err at) s m h some = rw (h some) refl

    left_made : {A B : Type 0} (r : Outcome W A) (m : A → B) → left (r >>= λ x. Ok (m x.0, x.1)) ≡ left r
    left_made (Ok x) m = refl
    left_made (Err at) m = refl

    made_within : {A B : Type 0} (r : Outcome W A) (m : A → B) (us : List (Tok W)) → length (left r) ≤ length us → length (left (r >>= λ x. Ok (m x.0, x.1))) ≤ length us
    made_within r m us h = rw (left_made r m) h

    if_on : {A : Type 0} (v w : Bool) (r s f g : Outcome W A) → w ≡ v → GoesOn r s → GoesOn f g → GoesOn (if_then v r f) (if_then w s g)
    if_on true w r s f g e h k some = rw e (h some)
    if_on false w r s f g e h k some = rw e (k some)

    after_on : {A : Type 0} (p : Symbol → Bool) (f : List (Tok W) → Outcome W A) → ((us : List (Tok W)) → GoesOn (f us) (f (us ++ more))) → (ts : List (Tok W)) → GoesOn (after_at p f ts) (after_at p f (ts ++ more))
    after_on p f h [] some = absurd (omega (arith, some))
    after_on p f h (t ∷ ts) some = if_on (hits p t.symbol) (hits p t.symbol) (f ts) (f (ts ++ more)) (Err (stop (t ∷ ts))) (Err (stop (t ∷ (ts ++ more)))) refl (h ts) (λ _. refl) some

    pick_on : {A : Type 0} (f : Symbol → List (Tok W) → Outcome W A) → ((s : Symbol) (us : List (Tok W)) → GoesOn (f s us) (f s (us ++ more))) → (ts : List (Tok W)) → GoesOn (pick_at f ts) (pick_at f (ts ++ more))
    pick_on f h [] some = absurd (omega (arith, some))
    pick_on f h (t ∷ ts) some = h t.symbol (t ∷ ts) some

    closed_on : {A : Type 0} (x : A) (us : List (Tok W)) → GoesOn (closed x us) (closed x (us ++ more))
    closed_on x [] some = absurd (omega (arith, some))
    closed_on x (t ∷ ts) some = if_on (is_right t.symbol) (is_right t.symbol) (Ok (x, ts)) (Ok (x, ts ++ more)) (Err (stop (t ∷ ts))) (Err (stop (t ∷ (ts ++ more)))) refl (λ _. refl) (λ _. refl) some

    closed_within : {A : Type 0} (x : A) (us : List (Tok W)) → length (left (closed x us)) ≤ length us
    closed_within x [] = omega arith
    closed_within x (t ∷ ts) = by_right (is_right t.symbol) where
      by_right : (v : Bool) → length (left (if_then v (Ok (x, ts)) (Err (stop (t ∷ ts))))) ≤ length (t ∷ ts)
      by_right true = omega arith
      by_right false = omega arith

    bracket_on : {A : Type 0} (f : List (Tok W) → Outcome W A) → ((us : List (Tok W)) → GoesOn (f us) (f (us ++ more))) → (ts : List (Tok W)) → GoesOn (bracket_at f ts) (bracket_at f (ts ++ more))
    bracket_on f h [] some = absurd (omega (arith, some))
    bracket_on f h (t ∷ ts) some =
        if_on (is_left t.symbol) (is_left t.symbol) (f ts >>= λ x. closed x.0 x.1) (f (ts ++ more) >>= λ x. closed x.0 x.1) (Err (stop (t ∷ ts))) (Err (stop (t ∷ (ts ++ more)))) refl
        (then_on (f ts) (f (ts ++ more)) (λ x us. closed x us) (h ts) (λ x us e. closed_within x us) (λ x us e. closed_on x us))
        (λ _. refl) some

    -- no token is left where none was
    none_there : {A : Type 0} (x : A) (v : Bool) → 0 < length (left (if_then v (Ok (x, [])) (Err (stop [])))) → ⊥
    none_there x true some = omega (arith, some)
    none_there x false some = omega (arith, some)

    module _ (d : ℕ) where
      many_on : {a : Sort} (p : Symbol → Bool) (X : Form true a) → ((us : List (Tok W)) → GoesOn (go (level d) true a X us) (go (level d) true a X (us ++ more)))
          → (n : ℕ) (ts : List (Tok W)) → length ts ≤ n → GoesOn (go (level d) false (s_list a) (many p X) ts) (go (level d) false (s_list a) (many p X) (ts ++ more))
      many_on {a = a} p X h n [] le some = let none : 0 < 0 = subst (λ (o : Outcome W (List (El W a))). 0 < length (left o)) (many_step d p X []) some in absurd (omega (arith, none))
      many_on p X h zero (t ∷ ts) le some = absurd (omega (arith, le))
      many_on {a = a} p X h (suc n) (t ∷ ts) le some =
          let f : List (Tok W) → Outcome W (El W a) = go (level d) true a X in
          let g : List (Tok W) → Outcome W (List (El W a)) = go (level d) false (s_list a) (many p X) in
          let step = many_step d p X (t ∷ ts) in
          many_step d p X (t ∷ (ts ++ more)) ∙
          if_on (p t.symbol) (p t.symbol) (f (t ∷ ts) >>= λ x. g x.1 >>= λ xs. Ok (x.0 ∷ xs.0, xs.1)) (f (t ∷ (ts ++ more)) >>= λ x. g x.1 >>= λ xs. Ok (x.0 ∷ xs.0, xs.1)) (Ok ([], t ∷ ts)) (Ok ([], t ∷ (ts ++ more))) refl
          (then_on (f (t ∷ ts)) (f (t ∷ (ts ++ more))) (λ x us. g us >>= λ xs. Ok (x ∷ xs.0, xs.1)) (h (t ∷ ts))
          (λ x us e. made_within (g us) (λ xs. x ∷ xs) us (left_within d false (s_list a) (many p X) us))
          (λ x us e. let less : length us < length (t ∷ ts) = shrinks (go_reads d true a X (t ∷ ts) x us e) in make_on (g us) (g (us ++ more)) (λ xs. x ∷ xs) (many_on p X h n us (omega (arith, less, le)))))
          (λ _. refl)
          (subst (λ (o : Outcome W (List (El W a))). 0 < length (left o)) step some)
          ∙ ap (λ (o : Outcome W (List (El W a))). onto o) (sym step)

      run_on : {a : Sort} (p : Symbol → Bool) (X : Seen → Form true (s_pair s_seen a)) (done : Seen → Bool) → ((v : Seen) (us : List (Tok W)) → GoesOn (go (level d) true (s_pair s_seen a) (X v) us) (go (level d) true (s_pair s_seen a) (X v) (us ++ more)))
          → (n : ℕ) (s : Seen) (ts : List (Tok W)) → length ts ≤ n → GoesOn (go (level d) false (s_list a) (run p X done s) ts) (go (level d) false (s_list a) (run p X done s) (ts ++ more))
      run_on {a = a} p X done h n s [] le some = absurd (none_there {A = List (El W a)} [] (done s) (subst (λ (o : Outcome W (List (El W a))). 0 < length (left o)) (run_step d p X done s []) some))
      run_on p X done h zero s (t ∷ ts) le some = absurd (omega (arith, le))
      run_on {a = a} p X done h (suc n) s (t ∷ ts) le some =
          let f : List (Tok W) → Outcome W (Seen × El W a) = go (level d) true (s_pair s_seen a) (X s) in
          let g : Seen → List (Tok W) → Outcome W (List (El W a)) = λ v. go (level d) false (s_list a) (run p X done v) in
          let step = run_step d p X done s (t ∷ ts) in
          run_step d p X done s (t ∷ (ts ++ more)) ∙
          if_on (p t.symbol) (p t.symbol) (f (t ∷ ts) >>= λ x. g x.0.0 x.1 >>= λ xs. Ok (x.0.1 ∷ xs.0, xs.1)) (f (t ∷ (ts ++ more)) >>= λ x. g x.0.0 x.1 >>= λ xs. Ok (x.0.1 ∷ xs.0, xs.1))
          (if_then (done s) (Ok ([], t ∷ ts)) (Err (stop (t ∷ ts)))) (if_then (done s) (Ok ([], t ∷ (ts ++ more))) (Err (stop (t ∷ (ts ++ more))))) refl
          (then_on (f (t ∷ ts)) (f (t ∷ (ts ++ more))) (λ x us. g x.0 us >>= λ xs. Ok (x.1 ∷ xs.0, xs.1)) (h s (t ∷ ts))
          (λ x us e. made_within (g x.0 us) (λ xs. x.1 ∷ xs) us (left_within d false (s_list a) (run p X done x.0) us))
          (λ x us e. let less : length us < length (t ∷ ts) = shrinks (go_reads d true (s_pair s_seen a) (X s) (t ∷ ts) x us e) in make_on (g x.0 us) (g x.0 (us ++ more)) (λ xs. x.1 ∷ xs) (run_on p X done h n x.0 us (omega (arith, less, le)))))
          (if_on (done s) (done s) (Ok ([], t ∷ ts)) (Ok ([], t ∷ (ts ++ more))) (Err (stop (t ∷ ts))) (Err (stop (t ∷ (ts ++ more)))) refl (λ _. refl) (λ _. refl))
          (subst (λ (o : Outcome W (List (El W a))). 0 < length (left o)) step some)
          ∙ ap (λ (o : Outcome W (List (El W a))). onto o) (sym step)

      maybe_on : {b : Bool} {a : Sort} (p : Symbol → Bool) (m : Maker s_none a) (X : Form b a) → ((us : List (Tok W)) → GoesOn (go (level d) b a X us) (go (level d) b a X (us ++ more)))
          → (ts : List (Tok W)) → GoesOn (go (level d) false a (maybe p m X) ts) (go (level d) false a (maybe p m X) (ts ++ more))
      maybe_on p m X h [] some = absurd (omega (arith, some))
      maybe_on {b = b} {a = a} p m X h (t ∷ ts) some =
          if_on (p t.symbol) (p t.symbol) (go (level d) b a X (t ∷ ts)) (go (level d) b a X (t ∷ (ts ++ more))) (Ok (apply W m tt, t ∷ ts)) (Ok (apply W m tt, t ∷ (ts ++ more))) refl (h (t ∷ ts)) (λ _. refl) some

      go_on : ((b : Bool) (c : Sort) (X : Form b c) (ts : List (Tok W)) → GoesOn (level d b c X ts) (level d b c X (ts ++ more))) → (b : Bool) (c : Sort) (X : Form b c) (ts : List (Tok W)) → GoesOn (go (level d) b c X ts) (go (level d) b c X (ts ++ more))
      go_on K _ _ (token p m) ts = token_on p m ts
      go_on K _ _ (none m) ts = λ _. refl
      go_on K _ _ (refuse q) ts = nothing_on q ts
      go_on K _ _ (X ▹ Y) ts =
          then_on (go (level d) _ _ X ts) (go (level d) _ _ X (ts ++ more)) (λ x us. go (level d) _ _ Y us >>= λ y. Ok ((x, y.0), y.1)) (go_on K _ _ X ts)
          (λ x us e. made_within (go (level d) _ _ Y us) (λ y. (x, y)) us (left_within d _ _ Y us))
          (λ x us e. make_on (go (level d) _ _ Y us) (go (level d) _ _ Y (us ++ more)) (λ y. (x, y)) (go_on K _ _ Y us))
      go_on K _ _ (p ▸ X) ts = after_on p (go (level d) _ _ X) (go_on K _ _ X) ts
      go_on K _ _ (many p X) ts = many_on p X (go_on K _ _ X) (length ts) ts (omega arith)
      go_on K _ _ (run p X done s) ts = run_on p X done (λ v. go_on K _ _ (X v)) (length ts) s ts (omega arith)
      go_on K _ _ (maybe p m X) ts = maybe_on p m X (go_on K _ _ X) ts
      go_on K _ _ (make m X) ts = make_on (go (level d) _ _ X ts) (go (level d) _ _ X (ts ++ more)) (apply W m) (go_on K _ _ X ts)
      go_on K _ _ (choose pick) ts = pick_on (λ s. go (level d) _ _ (pick s)) (λ s. go_on K _ _ (pick s)) ts
      go_on K _ _ (loose X) ts = go_on K _ _ X ts
      go_on K _ _ (bracket X) ts = K _ _ X ts
      go_on K _ _ (within n) ts = K _ _ (rule n) ts

    level_on : (d : ℕ) (b : Bool) (c : Sort) (X : Form b c) (ts : List (Tok W)) → GoesOn (level d b c X ts) (level d b c X (ts ++ more))
    level_on zero b c X ts = λ _. refl
    level_on (suc d) b c X ts = bracket_on (go (level d) b c X) (go_on d (level_on d) b c X) ts

    -- where tokens are left, reading is the same with more behind them
    pub goes_on : (d : ℕ) (b : Bool) (c : Sort) (X : Form b c) (ts : List (Tok W)) → GoesOn (go (level d) b c X ts) (go (level d) b c X (ts ++ more))
    goes_on d = go_on d (level_on d)

  -- ---- the same, as the laws say it

  pub reads_onward : (b : Bool) (c : Sort) (X : Form b c) (ts more rest : List (Tok W)) (x : El W c) → 0 < length rest → Reads X ts x rest → Reads X (ts ++ more) x (rest ++ more)
  reads_onward b c X ts more rest x some h =
      let d : ℕ = length ts in
      let e : go (level d) b c X ts ≡ Ok (x, rest) = reads_is h d (omega arith) in
      go_reads d b c X (ts ++ more) x (rest ++ more) (goes_on more d b c X ts (subst (λ (o : Outcome W (El W c)). 0 < length (left o)) (sym e) some) ∙ ap (λ (o : Outcome W (El W c)). onto more o) e)

  stopped : (d : ℕ) (b : Bool) (c : Sort) (X : Form b c) (ts : List (Tok W)) (at : At W) → length ts ≤ d → Tells d b c X ts (Err at) → Stops X ts at
  stopped d b c X ts at le (inl h) = h.0
  stopped d b c X ts at le (inr h) = absurd (some_none h.0 (not_deep ts d le))

  pub stops_onward : (b : Bool) (c : Sort) (X : Form b c) (ts more : List (Tok W)) (at : At W) → 0 < length at.tokens → Stops X ts at → Stops X (ts ++ more) (followed at more)
  stops_onward b c X ts more at some h =
      let d : ℕ = length (ts ++ more) in
      let e : go (level d) b c X ts ≡ Err at = stops_is h d (omega (arith, length-append ts more)) in
      let k : go (level d) b c X (ts ++ more) ≡ Err (followed at more) = goes_on more d b c X ts (subst (λ (o : Outcome W (El W c)). 0 < length (left o)) (sym e) some) ∙ ap (λ (o : Outcome W (El W c)). onto more o) e in
      stopped d b c X (ts ++ more) (followed at more) (omega arith) (subst (λ (o : Outcome W (El W c)). Tells d b c X (ts ++ more) o) k (read_tells d b c X (ts ++ more)))
