-- A form that is made of others is refused first where the one that is due is.
use Rattle.std.proofs.Common.{◌≡◌, ℕ, Bool, true, false, List, [], ◌∷◌, ◌++◌, refl, sym, subst, arith, append_assoc, append-nil}
use Rattle.std.specs.List.{AllZip}
use Rattle.kp_tree_grammar.specs.declared.tree.Word.{Word}
use Rattle.kp_tree_grammar.specs.declared.symbol.Symbol.{Symbol}
use Rattle.kp_tree_grammar.specs.Language.{Tok, first_is, is_left, is_right, Sort, El, Maker, Form, hits, ◌▹◌, ◌▸◌, many, make, choose, bracket, stop, Reads, r_end, r_more, s_first, s_second, s_after, s_here, s_later, s_make, s_choice, s_inside, s_unclosed}
use Rattle.kp_tags_files.specs.Numbers.{Numbers}
use Rattle.kp_tags_files.specs.Parts.{Walk, arrived, Halts, stopped, unknown, SoFar}
use Rattle.kp_tags_files.proofs.Comes.{into_bracket, behind_token, in_first_form, in_second_form, in_next, in_later, in_made, in_choice}
use Rattle.kp_tags_files.proofs.Walks.{follows, goes_on, has_bracket, fact_is_long}

module _ {number : Numbers} {d e : ℕ} where
  module _ {b : Bool} {c : Sort} {X : Form b c} {t : Tok Word} {ts : List (Tok Word)} where
    pub halts_inside : {here : List (Tok Word)} → is_left t.symbol ≡ true → Walk number d (t ∷ ts) e ts → Halts number e X ts here → Halts number d (bracket X) (t ∷ ts) here
    halts_inside l w (stopped h k near) = stopped (s_inside l h) (follows w k) near
    halts_inside l w (unknown r k f none) = unknown (into_bracket l r) (follows w k) f none

    pub halts_unclosed : {x : El Word c} {rest : List (Tok Word)} → is_left t.symbol ≡ true → Reads X ts x rest → first_is is_right rest ≡ false → Walk number d (t ∷ ts) e rest → Halts number d (bracket X) (t ∷ ts) rest
    halts_unclosed {rest = rest} l h f w = stopped {at = stop rest} (s_unclosed l h f) w (omega arith)

    pub halts_after : {p : Symbol → Bool} {here : List (Tok Word)} → hits p t.symbol ≡ true → Walk number d (t ∷ ts) e ts → Halts number e X ts here → Halts number d (p ▸ X) (t ∷ ts) here
    halts_after l w (stopped h k near) = stopped (s_after l h) (follows w k) near
    halts_after l w (unknown r k f none) = unknown (behind_token l r) (follows w k) f none

  module _ {b f : Bool} {a c : Sort} {X : Form b a} {Y : Form f c} {ts : List (Tok Word)} where
    pub halts_second : {x : El Word a} {mid here : List (Tok Word)} → Reads X ts x mid → Walk number d ts e mid → Halts number e Y mid here → Halts number d (X ▹ Y) ts here
    halts_second g w (stopped h k near) = stopped (s_second g h) (follows w k) near
    halts_second g w (unknown r k f none) = unknown (in_second_form g r) (follows w k) f none

  module _ {c : Sort} {p : Symbol → Bool} {X : Form true c} {ts : List (Tok Word)} (l : first_is p ts ≡ true) where
    pub halts_later : {x : El Word c} {mid here : List (Tok Word)} → Reads X ts x mid → Walk number d ts e mid → Halts number e (many p X) mid here → Halts number d (many p X) ts here
    halts_later g w (stopped h k near) = stopped (s_later l g h) (follows w k) near
    halts_later g w (unknown r k f none) = unknown (in_later l g r) (follows w k) f none

module _ {number : Numbers} {d : ℕ} where
  pub halts_first : {b f : Bool} {a c : Sort} {X : Form b a} {Y : Form f c} {ts here : List (Tok Word)} → Halts number d X ts here → Halts number d (X ▹ Y) ts here
  halts_first (stopped h k near) = stopped (s_first h) k near
  halts_first (unknown r k f none) = unknown (in_first_form r) k f none

  pub halts_next : {c : Sort} {p : Symbol → Bool} {X : Form true c} {ts here : List (Tok Word)} → first_is p ts ≡ true → Halts number d X ts here → Halts number d (many p X) ts here
  halts_next l (stopped h k near) = stopped (s_here l h) k near
  halts_next l (unknown r k f none) = unknown (in_next l r) k f none

  pub halts_made : {b : Bool} {a c : Sort} {m : Maker a c} {X : Form b a} {ts here : List (Tok Word)} → Halts number d X ts here → Halts number d (make m X) ts here
  halts_made (stopped h k near) = stopped (s_make h) k near
  halts_made (unknown r k f none) = unknown (in_made r) k f none

  pub halts_choice : {b : Bool} {c : Sort} {pick : Symbol → Form b c} {t : Tok Word} {ts here : List (Tok Word)} → Halts number d (pick t.symbol) (t ∷ ts) here → Halts number d (choose pick) (t ∷ ts) here
  halts_choice (stopped h k near) = stopped (s_choice h) k near
  halts_choice (unknown r k f none) = unknown (in_choice r) k f none

-- ---- repetitions

-- a repetition is refused only where one more begins
pub begins_one : {number : Numbers} {d : ℕ} {c : Sort} {p : Symbol → Bool} {X : Form true c} {ts here : List (Tok Word)} → Halts number d (many p X) ts here → first_is p ts ≡ true
begins_one {p = p} {ts = ts} h = go (first_is p ts) refl h where
  go : {number : Numbers} {d : ℕ} {c : Sort} {p : Symbol → Bool} {X : Form true c} {ts here : List (Tok Word)} (v : Bool) → first_is p ts ≡ v → Halts number d (many p X) ts here → first_is p ts ≡ true
  go true e h = e
  go false e (stopped (s_here l h) k near) = l
  go false e (stopped (s_later l g h) k near) = l
  go {ts = ts} false e (unknown {here = here} {behind = behind} r k f none) =
      absurd (omega (arith, r.reads [] ts (r_end e), goes_on k, has_bracket f, fact_is_long f))

-- pairs, and one more
one_more_pair : {A B : Type 0} (R : A → B → Type 0) (xs : List (A)) (ys : List B) (x : A) (y : B) → AllZip R xs ys → R x y → AllZip R (xs ++ x ∷ []) (ys ++ y ∷ [])
one_more_pair R [] [] x y h k = (k, tt)
one_more_pair R [] (z ∷ ys) x y h k = absurd h
one_more_pair R (w ∷ xs) [] x y h k = absurd h
one_more_pair R (w ∷ xs) (z ∷ ys) x y h k = (h.0, one_more_pair R xs ys x y h.1 k)

module _ {Y : Type 0} {c : Sort} {number : Numbers} {depth : ℕ → ℕ} {X : Form true c} {Is : El Word c → Y → Type 0} where
  pub none_so_far : (all : List (Tok Word)) → SoFar number depth X Is [] all all
  none_so_far all = record { front = []; are = tt; reads = λ xs rest h. h; halts = λ n here h. h; walks = λ n. arrived }

  pub one_more : {ys now : List Y} {x : El Word c} (y : Y) {left next all : List (Tok Word)} → first_is is_left left ≡ true → Reads X left x next → Is x y → ((n : ℕ) → Walk number (depth n) left (depth n) next) → now ≡ ys ++ y ∷ [] → SoFar number depth X Is ys left all → SoFar number depth X Is now next all
  one_more {ys} {now} {x} y {left} {next} {all} l g is w e so = record {
    front = so.front ++ x ∷ [];
    are = subst (λ (zs : List Y). AllZip Is (so.front ++ x ∷ []) zs) (sym e) (one_more_pair Is so.front ys x y so.are is);
    reads = λ xs rest h. subst (λ (zs : List (El Word c)). Reads (many is_left X) all zs rest) (sym (append_assoc so.front (x ∷ []) xs)) (so.reads (x ∷ xs) rest (r_more l g h));
    halts = λ n here h. so.halts n here (halts_later l g (w n) h);
    walks = λ n. follows (so.walks n) (w n);
  }

  -- no further one stands there
  pub at_end : {ys : List Y} {left all : List (Tok Word)} → first_is is_left left ≡ false → (so : SoFar number depth X Is ys left all) → Reads (many is_left X) all so.front left
  at_end {left = left} {all = all} none so = subst (λ (xs : List (El Word c)). Reads (many is_left X) all xs left) (append-nil so.front) (so.reads [] left (r_end none))

  -- the next one is refused
  pub next_halts : {ys : List Y} {left all here : List (Tok Word)} (n : ℕ) → first_is is_left left ≡ true → Halts number (depth n) X left here → SoFar number depth X Is ys left all → Halts number (depth n) (many is_left X) all here
  next_halts {here = here} n l h so = so.halts n here (halts_next l h)

-- a walk over all of them
pub walk_many : {Y : Type 0} {c : Sort} {number : Numbers} {X : Form true c} (Is : El Word c → Y → Type 0) (e : ℕ) → ((x : El Word c) (y : Y) (ts rest : List (Tok Word)) → Is x y → Reads X ts x rest → Walk number e ts e rest) → {xs : List (El Word c)} {ts rest : List (Tok Word)} (ys : List Y) → AllZip Is xs ys → Reads (many is_left X) ts xs rest → Walk number e ts e rest
walk_many Is e one ys are (r_end f) = arrived
walk_many Is e one [] are (r_more l g h) = absurd are
walk_many Is e one (y ∷ ys) are (r_more {ts = ts} {mid = mid} {x = x} l g h) = follows (one x y ts mid are.0 g) (walk_many Is e one ys are.1 h)
