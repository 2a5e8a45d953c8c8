-- The steps of a plan are read one by one.
use Rattle.std.proofs.Common.{◌≡◌, ℕ, zero, suc, ◌+◌, ◌-◌, ◌≤◌, Bool, true, false, List, [], ◌∷◌, ◌++◌, map, drop, length, Err, refl, sym, ap, subst, ◌∙◌, append-nil, append_assoc, arith}
use Rattle.std.proofs.lemmas.List.{drop-drop, map-append}
use Rattle.kp_base.specs.declared.refused.Part.TheVariants as parts
use Rattle.kp_lex.specs.Places.{place_of}
use Rattle.kp_tree_grammar.specs.declared.tree.Word.{Word}
use Rattle.kp_tree_grammar.specs.Language.{Tok, first_is, is_left, is_right, is_name, m_word, hits, some, stop, Reads, Stops, StopsWhole, within_form, after_form, r_token, r_both, r_end, r_more, r_bracket, s_token, s_first, s_here, s_later, s_unopened, s_inside, s_unclosed, read}
use Rattle.kp_tree_grammar.proofs.Public.{answered_is_read}
use Rattle.kp_tree_cursor.specs.declared.cursor.Class.TheVariants as classes
use Rattle.kp_tree_cursor.specs.declared.halt.Halt.{Halt}
use Rattle.kp_tree_cursor.specs.declared.halt.Halt.TheVariants as halts
use Rattle.kp_tree_cursor.specs.Lexemes.{word_of, from}
use Rattle.kp_tree_cursor.specs.Readers.{Opened, Closed, Words, some_at}
use Rattle.kp_tree_cursor.proofs.Public.{class_is_no_bracket, longest_run_reads}
use Rattle.kp_plans.specs.declared.step.PlanStep.{PlanStep}
use Rattle.kp_base.specs.declared.ground.GroundName.{GroundName}
use Rattle.kp_base.specs.declared.refused.Place.{Place}
use Rattle.kp_plans.specs.Grammar.{step, plan, step_name}
use Rattle.kp_plans.specs.PlanFiles.{step_of}
use Rattle.kp_plans.specs.Steps.{Ascends, StepStands, StepStops, StepsSoFar, ArePlanOf, AnswersTokens}

-- ---- tokens from a place on

-- behind the first of them
pub from_next : (ls : List (Tok Word)) (i : ℕ) (t : Tok Word) (ts : List (Tok Word)) → from ls i ≡ t ∷ ts → from ls (i + 1) ≡ ts
from_next ls i t ts e = sym (drop-drop 1 i ls) ∙ ap (drop 1) e

-- ---- a step

-- where a name stands first, some are read
some_names : (l : Tok Word) (us : List (Tok Word)) (v : Bool) → is_name l.symbol ≡ v → read 0 (some is_name) (l ∷ us) ≡ Err (stop (l ∷ us)) → is_name l.symbol ≡ false
some_names l us false h e = h
some_names l us true h e =
    let is_hit : hits is_name l.symbol ≡ true = class_is_no_bracket classes.Name l.symbol ∙ h in
    absurd (let two = rw (is_hit, longest_run_reads 0 is_name (λ _. m_word) (class_is_no_bracket classes.Name) us) at e in cc)

no_name : (us : List (Tok Word)) → read 0 (some is_name) us ≡ Err (stop us) → first_is (hits is_name) us ≡ false
no_name [] e = refl
no_name (l ∷ us) e = class_is_no_bracket classes.Name l.symbol ∙ some_names l us (is_name l.symbol) refl e

-- no opening bracket stands there
pub unopened : (ls : List (Tok Word)) (at : ℕ) → false ≡ first_is is_left (from ls at) → Stops step (from ls at) (stop (from ls at))
unopened ls at e = s_unopened (sym e)

-- no name stands behind it
pub unnamed : (ls : List (Tok Word)) (at : ℕ) → Opened (from ls at) (from ls (at + 1)) → some_at classes.Name (from ls (at + 1)) ≡ Err (stop (from ls (at + 1))) → Stops step (from ls at) (stop (from ls (at + 1)))
unfolding some_at
unnamed ls at o e = rw o.is (s_inside o.left (s_first (s_token (no_name (drop (at + 1) ls) e))))

-- what is read of the names there
named : (ls : List (Tok Word)) (at : ℕ) (run : List (Tok Word)) (w : Words classes.Name ls at run) → Reads (some is_name) (from ls at) (w.first, w.others) (from ls (at + length run))
unfolding some_at
named ls at run w = answered_is_read 0 _ _ (some is_name) (from ls at) (w.first, w.others) (from ls (at + length run)) w.reads

-- no closing bracket stands behind them
pub unclosed : (ls : List (Tok Word)) (at : ℕ) (run : List (Tok Word)) → Opened (from ls at) (from ls (at + 1)) → Words classes.Name ls (at + 1) run → first_is is_right (from ls (at + 1 + length run)) ≡ false → Stops step (from ls at) (stop (from ls (at + 1 + length run)))
unclosed ls at run o w e = rw o.is (s_unclosed o.left (named ls (at + 1) run w) e)

-- the word that is read first stands first
record First (ts : List (Tok Word)) (x : Word) : Type 0 where
  pub token : Tok Word
  pub others : List (Tok Word)
  pub are : ts ≡ token ∷ others
  pub is : token.word ≡ x

first_word : {ts rest : List (Tok Word)} {x : Word × List Word} → Reads (some is_name) ts x rest → First ts x.0
first_word (r_both (r_token {t = t} {ts = ts} e) k) = record { token = t; others = ts; are = refl; is = refl }

-- a step stands there
pub stands : (ls : List (Tok Word)) (at : ℕ) (run : List (Tok Word)) (behind : ℕ) → Opened (from ls at) (from ls (at + 1)) → Words classes.Name ls (at + 1) run → Closed (from ls (at + 1 + length run)) (from ls behind) → StepStands ls at run behind
stands ls at [] behind o w k = absurd (let e = w.are in cc)
stands ls at (l ∷ more) behind o w k =
    let first : word_of l ≡ w.first = let e = w.are in cc in
    let others : map word_of more ≡ w.others = let e = w.are in cc in
    let f = first_word (named ls (at + 1) (l ∷ more) w) in
    let behind_first : from ls (at + 1 + 1) ≡ f.others = from_next ls (at + 1) f.token f.others f.are in
    let two : at + 1 + 1 ≡ at + 2 = omega arith in
    record {
      first = l;
      others = more;
      are = refl;
      opening = o.token;
      named = f.token;
      begins = o.is ∙ ap (λ (ts : List (Tok Word)). o.token ∷ ts) (f.are ∙ ap (λ (ts : List (Tok Word)). f.token ∷ ts) (sym behind_first ∙ ap (from ls) two));
      is = f.is ∙ sym first;
      reads = rw (o.is, first, others) (r_bracket o.left (subst (λ (ts : List (Tok Word)). Reads (some is_name) (from ls (at + 1)) (w.first, w.others) ts) k.is (named ls (at + 1) (l ∷ more) w)) k.right);
    }

-- ---- tokens begin one behind the other

pub weaker : (a b : ℕ) (ts : List (Tok Word)) (end : ℕ) → a ≤ b → Ascends b ts end → Ascends a ts end
weaker a b [] end l h = omega (arith, l, h)
weaker a b (t ∷ ts) end l h = (omega (arith, l, h.0), h.1)

others_ascend : (a : ℕ) (ts : List (Tok Word)) (end n : ℕ) → Ascends a ts end → Ascends a (drop n ts) end
others_ascend a ts end zero h = h
others_ascend a [] end (suc n) h = h
others_ascend a (t ∷ ts) end (suc n) h = others_ascend a ts end n (weaker a t.word.byte ts end h.0 h.1)

before_end : (a : ℕ) (ts : List (Tok Word)) (end : ℕ) → Ascends a ts end → a ≤ end
before_end a [] end h = h
before_end a (t ∷ ts) end h = let more = before_end t.word.byte ts end h.1 in omega (arith, h.0)

later : (ls : List (Tok Word)) (a i j end : ℕ) → i ≤ j → Ascends a (from ls i) end → Ascends a (from ls j) end
later ls a i j end l h =
    let n : i + (j - i) ≡ j = omega arith in
    let is : drop (j - i) (from ls i) ≡ from ls j = drop-drop (j - i) i ls ∙ ap (from ls) n in
    subst (λ (ts : List (Tok Word)). Ascends a ts end) is (others_ascend a (from ls i) end (j - i) h)

-- where a step stands its head begins behind what was read, and the rest behind its head
pub record HeadStands (ls : List (Tok Word)) (known behind end : ℕ) (first : Tok Word) : Type 0 where
  pub onward : known ≤ first.word.byte
  pub within : first.word.byte ≤ end
  pub ascends : Ascends first.word.byte (from ls behind) end

pub head_stands : (ls : List (Tok Word)) (at : ℕ) (run : List (Tok Word)) (known behind end : ℕ) (s : StepStands ls at run behind) → at + 2 ≤ behind → Ascends known (from ls at) end → HeadStands ls known behind end s.first
head_stands ls at run known behind end s two h =
    let byte : s.named.word.byte ≡ s.first.word.byte = ap (λ (w : Word). w.byte) s.is in
    let k = subst (λ (ts : List (Tok Word)). Ascends known ts end) s.begins h in
    let rest : Ascends s.first.word.byte (from ls (at + 2)) end = subst (λ (n : ℕ). Ascends n (from ls (at + 2)) end) byte k.1.1 in
    record {
      onward = omega (arith, k.0, k.1.0, byte);
      within = before_end s.first.word.byte (from ls (at + 2)) end rest;
      ascends = later ls s.first.word.byte (at + 2) behind end two rest;
    }

-- ---- what is kept of a step

texts_of : (ws : List (Tok Word)) → map (λ w. (word_of w).text) ws ≡ map (λ w. w.text) (map word_of ws)
texts_of [] = refl
texts_of (w ∷ ws) = ap (λ ts. (word_of w).text ∷ ts) (texts_of ws)

pub first_byte : (run : List (Tok Word)) (first t : Tok Word) (others rest : List (Tok Word)) → run ≡ first ∷ others → run ≡ t ∷ rest → t.word.byte ≡ first.word.byte
first_byte run first t others rest e h = let same : t ≡ first = cc in ap (λ (u : Tok Word). u.word.byte) same

pub made_of : (text : List ℕ) (run : List (Tok Word)) (first : Tok Word) (others : List (Tok Word)) (name : GroundName) (place : Place) → run ≡ first ∷ others → name.head ∷ name.objects ≡ map (λ w. (word_of w).text) run → place ≡ place_of parts.Plan text first.word.byte
    → record { name = name; place = place } ≡ step_of text (word_of first, map word_of others)
made_of text run first others name place e h k =
    let all : name.head ∷ name.objects ≡ (word_of first).text ∷ map (λ w. (word_of w).text) others = h ∙ ap (map (λ w. (word_of w).text)) e in
    let head : name.head ≡ (word_of first).text = cc in
    let behind : name.objects ≡ map (λ w. (word_of w).text) others = cc in
    ap (λ (n : GroundName). record { name = n; place = place }) (ap (λ (t : List ℕ). record { head = t; objects = name.objects }) head ∙ ap (λ (ts : List (List ℕ)). record { head = (word_of first).text; objects = ts }) (behind ∙ texts_of others))
    ∙ ap (λ (p : Place). record { name = step_name (word_of first, map word_of others); place = p }) k

-- ---- all steps

pub one_more : (text : List ℕ) (steps now : List PlanStep) (ls : List (Tok Word)) (at : ℕ) (run : List (Tok Word)) (behind : ℕ) (all : List (Tok Word)) (p : PlanStep) (s : StepStands ls at run behind) → true ≡ first_is is_left (from ls at) → now ≡ steps ++ p ∷ []
    → p ≡ step_of text (word_of s.first, map word_of s.others) → StepsSoFar text steps (from ls at) all → StepsSoFar text now (from ls behind) all
one_more text steps now ls at run behind all p s left is made so =
    let x : Word × List Word = (word_of s.first, map word_of s.others) in
    record {
      front = so.front ++ x ∷ [];
      are = map-append (step_of text) so.front (x ∷ []) ∙ ap (λ (ys : List PlanStep). ys ++ step_of text x ∷ []) so.are ∙ ap (λ (q : PlanStep). steps ++ q ∷ []) (sym made) ∙ sym is;
      reads = λ xs rest h. subst (λ (ys : List (Word × List Word)). Reads plan all ys rest) (sym (append_assoc so.front (x ∷ []) xs)) (so.reads (x ∷ xs) rest (r_more (sym left) s.reads h));
      stops = λ at h. so.stops at (s_later (sym left) s.reads h);
    }

-- the step that stands there stops
pub fails : (text : List ℕ) (steps : List PlanStep) (ls : List (Tok Word)) (at : ℕ) (e : Halt) → true ≡ first_is is_left (from ls at) → StepStops ls at e → StepsSoFar text steps (from ls at) ls → AnswersTokens text ls (Err e)
fails text steps ls at halts.Memory left h so = tt
fails text steps ls at (halts.Syntax i) left h so = within_form (so.stops (stop (from ls i)) (s_here (sym left) h))
fails text steps ls at (halts.Unsupported i) left h so = absurd h

-- no further step stands there
at_end : (text : List ℕ) (steps : List PlanStep) (left all : List (Tok Word)) → first_is is_left left ≡ false → (so : StepsSoFar text steps left all) → Reads plan all so.front left
at_end text steps left all none so = subst (λ (ys : List (Word × List Word)). Reads plan all ys left) (append-nil so.front) (so.reads [] left (r_end none))

pub all_read : (text : List ℕ) (steps : List PlanStep) (left all : List (Tok Word)) → left ≡ [] → StepsSoFar text steps left all → ArePlanOf text all steps
all_read text steps left all none so = record {
  tree = so.front;
  are = so.are;
  reads = subst (λ (rest : List (Tok Word)). Reads plan all so.front rest) none (at_end text steps left all (ap (first_is is_left) none) so);
}

pub more_left : (text : List ℕ) (steps : List PlanStep) (left all : List (Tok Word)) (t : Tok Word) (rest : List (Tok Word)) → left ≡ t ∷ rest → false ≡ first_is is_left left → StepsSoFar text steps left all → StopsWhole plan all (stop left)
more_left text steps left all t rest is none so =
    subst (λ (ts : List (Tok Word)). StopsWhole plan all (stop ts)) (sym is)
    (after_form (subst (λ (ts : List (Tok Word)). Reads plan all so.front ts) is (at_end text steps left all (sym none) so)))
