-- Reading any number of one form, as a loop does.
use Rattle.std.proofs.Common.{◌≡◌, ℕ, Bool, true, false, map, List, [], ◌∷◌, ◌++◌, Ok, Err, refl, sym, ap, ◌∙◌, append_assoc, append-nil}
use Rattle.std.specs.List.{flat_map}
use Rattle.kp_base.proofs.Parts.{flat_map-push}
use Rattle.kp_tree_grammar.specs.declared.symbol.Symbol.{Symbol}
use Rattle.kp_tree_grammar.specs.declared.tree.Word.{Word}
use Rattle.kp_tree_grammar.specs.Language.{Typed, Tok, first_is, Sort, s_seen, Seen, s_pair, s_list, s_typed, El, m_joined, with_kinds, Form, many, run, make, stop, Outcome, ◌>>=◌, read}
use Rattle.kp_tree_grammar.proofs.Public.{many_unfolds, run_unfolds}
use Rattle.kp_tree_cursor.specs.declared.halt.Halt.{Halt}
use Rattle.kp_tree_cursor.specs.declared.halt.Halt.TheVariants as halts
use Rattle.kp_tree_parts.specs.Lexemes.{word_of}
use Rattle.kp_tree_parts.specs.Readers.{Fails}

-- what was read before, and what is still read
abbrev pub with_front : {A : Type 0} → List A → Outcome Word (List A) → Outcome Word (List A)
with_front front r = r >>= λ x. Ok (front ++ x.0, x.1)

regroup : {A : Type 0} (front : List A) (x : A) (r : Outcome Word (List A)) → with_front front (r >>= λ xs. Ok (x ∷ xs.0, xs.1)) ≡ with_front (front ++ x ∷ []) r
regroup {A} front x (Ok xs) = ap (λ (ys : List A). Ok (ys, xs.1)) (simp append_assoc)
regroup front x (Err at) = refl

-- a failure of a part is one of the whole
pub failed : {A B : Type 0} (ls : List (Tok Word)) (e : Halt) (part : Outcome Word A) (whole : Outcome Word B) → ((at : _) → part ≡ Err at → whole ≡ Err at) → Fails ls e part → Fails ls e whole
failed ls halts.Memory part whole h f = tt
failed ls (halts.Syntax i) part whole h f = h _ f
failed ls (halts.Unsupported i) part whole h f = h _ f

-- what is made of a part's value
module _ {A B : Type 0} (f : A → B) (whole : Outcome Word B) (part : Outcome Word A) (e : whole ≡ (part >>= λ x. Ok (f x.0, x.1))) where
  pub made : (v : A) (w : B) (rest : List (Tok Word)) → f v ≡ w → part ≡ Ok (v, rest) → whole ≡ Ok (w, rest)
  made v w rest l k = e ∙ ap (λ (r : Outcome Word A). r >>= λ x. Ok (f x.0, x.1)) k ∙ ap (λ (y : B). Ok (y, rest)) l

  pub unmade : (ls : List (Tok Word)) (h : Halt) → Fails ls h part → Fails ls h whole
  unmade ls h k = failed ls h part whole (λ at l. e ∙ ap (λ (r : Outcome Word A). r >>= λ x. Ok (f x.0, x.1)) l) k

module _ {a : Sort} (d : ℕ) (p : Symbol → Bool) (X : Form true a) where
  abbrev pub all_of : List (Tok Word) → Outcome Word (List (El Word a))
  all_of ts = read d (many p X) ts

  pub goes_on : (front : List (El Word a)) (ts : List (Tok Word)) (x : El Word a) (rest : List (Tok Word)) (total : Outcome Word (List (El Word a))) → first_is p ts ≡ true → read d X ts ≡ Ok (x, rest)
      → with_front front (all_of ts) ≡ total → with_front (front ++ x ∷ []) (all_of rest) ≡ total
  goes_on front ts x rest total here e so_far =
      let step : all_of ts ≡ (all_of rest >>= λ xs. Ok (x ∷ xs.0, xs.1)) = many_unfolds d p X ts ∙ rw (here, e) refl in
      sym (regroup front x (all_of rest)) ∙ ap (with_front front) (sym step) ∙ so_far

  pub ends : (ls : List (Tok Word)) (e : Halt) (front : List (El Word a)) (ts : List (Tok Word)) (total : Outcome Word (List (El Word a))) → first_is p ts ≡ true → Fails ls e (read d X ts)
      → with_front front (all_of ts) ≡ total → Fails ls e total
  ends ls e front ts total here h so_far =
      failed ls e (read d X ts) total (λ at k. let step : all_of ts ≡ Err at = many_unfolds d p X ts ∙ rw (here, k) refl in sym so_far ∙ ap (with_front front) step) h

  pub is_done : (front : List (El Word a)) (ts : List (Tok Word)) (total : Outcome Word (List (El Word a))) → first_is p ts ≡ false → with_front front (all_of ts) ≡ total → total ≡ Ok (front, ts)
  is_done front ts total gone so_far =
      let step : all_of ts ≡ Ok ([], ts) = many_unfolds d p X ts ∙ rw gone refl in
      sym so_far ∙ ap (with_front front) step ∙ ap (λ (xs : List (El Word a)). Ok (xs, ts)) (append-nil front)

-- ---- the same, where each says which may come

module _ {a : Sort} (d : ℕ) (p : Symbol → Bool) (X : Seen → Form true (s_pair s_seen a)) (done : Seen → Bool) where
  abbrev pub run_of : Seen → List (Tok Word) → Outcome Word (List (El Word a))
  run_of s ts = read d (run p X done s) ts

  pub run_goes_on : (front : List (El Word a)) (s : Seen) (ts : List (Tok Word)) (x : Seen × El Word a) (rest : List (Tok Word)) (total : Outcome Word (List (El Word a))) → first_is p ts ≡ true → read d (X s) ts ≡ Ok (x, rest)
      → with_front front (run_of s ts) ≡ total → with_front (front ++ x.1 ∷ []) (run_of x.0 rest) ≡ total
  run_goes_on front s ts x rest total here e so_far =
      let step : run_of s ts ≡ (run_of x.0 rest >>= λ xs. Ok (x.1 ∷ xs.0, xs.1)) = run_unfolds d p X done s ts ∙ rw (here, e) refl in
      sym (regroup front x.1 (run_of x.0 rest)) ∙ ap (with_front front) (sym step) ∙ so_far

  pub run_ends : (ls : List (Tok Word)) (e : Halt) (front : List (El Word a)) (s : Seen) (ts : List (Tok Word)) (total : Outcome Word (List (El Word a))) → first_is p ts ≡ true → Fails ls e (read d (X s) ts)
      → with_front front (run_of s ts) ≡ total → Fails ls e total
  run_ends ls e front s ts total here h so_far =
      failed ls e (read d (X s) ts) total (λ at k. let step : run_of s ts ≡ Err at = run_unfolds d p X done s ts ∙ rw (here, k) refl in sym so_far ∙ ap (with_front front) step) h

  pub run_done : (front : List (El Word a)) (s : Seen) (ts : List (Tok Word)) (total : Outcome Word (List (El Word a))) → first_is p ts ≡ false → done s ≡ true → with_front front (run_of s ts) ≡ total → total ≡ Ok (front, ts)
  run_done front s ts total gone all so_far =
      let step : run_of s ts ≡ Ok ([], ts) = run_unfolds d p X done s ts ∙ rw (gone, all) refl in
      sym so_far ∙ ap (with_front front) step ∙ ap (λ (xs : List (El Word a)). Ok (xs, ts)) (append-nil front)

  pub run_lacks : (front : List (El Word a)) (s : Seen) (ts : List (Tok Word)) (total : Outcome Word (List (El Word a))) → first_is p ts ≡ false → done s ≡ false → with_front front (run_of s ts) ≡ total → total ≡ Err (stop ts)
  run_lacks front s ts total gone lacks so_far =
      let step : run_of s ts ≡ Err (stop ts) = run_unfolds d p X done s ts ∙ rw (gone, lacks) refl in
      sym so_far ∙ ap (with_front front) step

-- ---- what several hold, one behind the other

-- a word with its types
abbrev pub typed_of : List Word → Tok Word → Typed Word
typed_of ks l = record { word = word_of l; kinds = ks }

pub typed_run : (ks : List Word) (ls : List (Tok Word)) → with_kinds ks (map word_of ls) ≡ map (typed_of ks) ls
typed_run ks [] = refl
typed_run ks (l ∷ ls) = ap (λ ts. typed_of ks l ∷ ts) (typed_run ks ls)

pub all_declared : (ks : List Word) (ls : List (Tok Word)) (before after : List (Typed Word)) → after ≡ before ++ map (typed_of ks) ls → after ≡ before ++ with_kinds ks (map word_of ls)
all_declared ks ls before after e = e ∙ rw (typed_run ks ls) refl

-- the groups read so far, and what they declare
pub record Groups (typed : List (Typed Word)) (here total : Outcome Word (List (List (Typed Word)))) : Type 0 where
  pub front : List (List (Typed Word))
  pub so_far : with_front front here ≡ total
  pub are : flat_map (λ ts. ts) front ≡ typed

module _ (d : ℕ) (p : Symbol → Bool) (X : Form true (s_list s_typed)) where
  abbrev pub groups_of : List (Tok Word) → Outcome Word (List (List (Typed Word)))
  groups_of ts = read d (many p X) ts

  pub group_more : (before after : List (Typed Word)) (ts : List (Tok Word)) (x : List (Typed Word)) (rest : List (Tok Word)) (total : Outcome Word (List (List (Typed Word)))) → first_is p ts ≡ true → read d X ts ≡ Ok (x, rest)
      → after ≡ before ++ x → Groups before (groups_of ts) total → Groups after (groups_of rest) total
  group_more before after ts x rest total here e is g = record {
    front = g.front ++ x ∷ [];
    so_far = goes_on d p X g.front ts x rest total here e g.so_far;
    are = flat_map-push (λ ts. ts) g.front x ∙ ap (λ ys. ys ++ x) g.are ∙ sym is;
  }

  pub group_ends : (ls : List (Tok Word)) (e : Halt) (before : List (Typed Word)) (ts start : List (Tok Word)) → first_is p ts ≡ true → Fails ls e (read d X ts) → Groups before (groups_of ts) (groups_of start) → Fails ls e (read d (make m_joined (many p X)) start)
  group_ends ls e before ts start here h g =
      failed ls e (groups_of start) (read d (make m_joined (many p X)) start) (λ at k. rw k refl) (ends d p X ls e g.front ts (groups_of start) here h g.so_far)

  pub group_done : (typed : List (Typed Word)) (ts start : List (Tok Word)) → first_is p ts ≡ false → Groups typed (groups_of ts) (groups_of start) → read d (make m_joined (many p X)) start ≡ Ok (typed, ts)
  group_done typed ts start gone g = rw (is_done d p X g.front ts (groups_of start) gone g.so_far) (ap (λ (ys : List (Typed Word)). Ok (ys, ts)) g.are)
