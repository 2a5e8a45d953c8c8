-- Walks over tokens, on which atoms within brackets have numbers.
use Rattle.std.proofs.Common.{cond, ◌≡◌, ℕ, suc, ◌+◌, ◌≤◌, ◌<◌, Bool, true, false, List, [], ◌∷◌, ◌++◌, length, drop, None, refl, sym, ap, subst, ◌∙◌, arith, true≢false}
use Rattle.kp_tree_grammar.specs.declared.tree.Word.{Word}
use Rattle.kp_tree_grammar.specs.declared.symbol.Symbol.{Symbol}
use Rattle.kp_tree_grammar.specs.declared.symbol.Symbol.TheVariants as symbols
use Rattle.kp_tree_grammar.specs.Language.{Atom, Tok, first_is, is_left, is_right, is_head, is_not, hits, fact, Reads, r_token, r_both, r_make, r_bracket}
use Rattle.std.proofs.lemmas.List.{length-append}
use Rattle.std.proofs.lemmas.List.Sums.{sum_by-cons}
use Rattle.kp_tree_grammar.proofs.Public.{rest_is_no_longer}
use Rattle.kp_tree_cursor.specs.declared.cursor.Class.TheVariants as classes
use Rattle.kp_tree_cursor.proofs.Public.{class_is_no_bracket}
use Rattle.kp_tags_files.specs.Grammar.{name_of_atom}
use Rattle.kp_tags_files.specs.Numbers.{Numbers}
use Rattle.kp_tags_files.specs.MergesFiles.{opened, closed}
use Rattle.kp_tags_files.specs.Parts.{Walk, arrived, word, closes, opens, opens_inside}

-- ---- symbols

pub never_left_and_right : (s : Symbol) → is_left s ≡ true → is_right s ≡ true → ⊥
never_left_and_right symbols.Right e f = cc
never_left_and_right _ e f = cc

-- a token that is taken by a test is no bracket
pub is_word : (p : Symbol → Bool) (s : Symbol) → hits p s ≡ true → (is_left s ≡ false) × (is_right s ≡ false)
is_word p symbols.Left e = absurd cc
is_word p symbols.Right e = absurd cc
is_word p _ e = (refl, refl)

pub left_is_no_right : (s : Symbol) → is_left s ≡ true → is_right s ≡ false
left_is_no_right symbols.Left e = refl
left_is_no_right _ e = absurd cc

pub right_is_no_left : (s : Symbol) → is_right s ≡ true → is_left s ≡ false
right_is_no_left symbols.Right e = refl
right_is_no_left _ e = absurd cc

pub left_is_no_head : (s : Symbol) → is_left s ≡ true → is_head s ≡ false
left_is_no_head symbols.Left e = refl
left_is_no_head _ e = absurd cc

pub right_is_no_head : (s : Symbol) → is_right s ≡ true → is_head s ≡ false
right_is_no_head symbols.Right e = refl
right_is_no_head _ e = absurd cc

pub not_is_no_head : (s : Symbol) → is_not s ≡ true → is_head s ≡ false
not_is_no_head symbols.Not e = refl
not_is_no_head _ e = absurd cc

-- ---- where no atom stands

pub fact_opens : {t : Tok Word} {ts rest : List (Tok Word)} {a : Atom Word} → Reads fact (t ∷ ts) a rest → is_left t.symbol ≡ true
fact_opens (r_bracket l h r) = l

pub is_a_head : (s : Symbol) → hits is_head s ≡ true → is_head s ≡ true
is_a_head s e = sym (class_is_no_bracket classes.Head s) ∙ e

fact_has_head : {t : Tok Word} {ts rest : List (Tok Word)} {a : Atom Word} → Reads fact (t ∷ ts) a rest → first_is is_head ts ≡ true
fact_has_head (r_bracket l (r_make (r_both (r_token {t = n} e) k)) r) = is_a_head n.symbol e

-- behind an atom there is less than behind its bracket
pub fact_is_long : {ts rest : List (Tok Word)} {a : Atom Word} → Reads fact ts a rest → suc (length rest) ≤ length (drop 1 ts)
fact_is_long (r_bracket {u = u} {ts = ts} {rest = rest} l h r) = omega (arith, rest_is_no_longer ts (u ∷ rest) h)

pub has_bracket : {ts rest : List (Tok Word)} {a : Atom Word} → Reads fact ts a rest → length ts ≡ suc (length (drop 1 ts))
has_bracket (r_bracket l h r) = refl

-- without a head no atom stands there
pub no_head : {t : Tok Word} {ts rest : List (Tok Word)} {a : Atom Word} → first_is is_head ts ≡ false → Reads fact (t ∷ ts) a rest → ⊥
no_head f h = true≢false (sym (fact_has_head h) ∙ f)

-- ---- brackets that open and close

opened_as : (t : Tok Word) (b : List (Tok Word)) (v : Bool) → is_left t.symbol ≡ v → opened (t ∷ b) ≡ cond v 1 0 + opened b
opened_as t b v e = sum_by-cons (λ t. cond (is_left t.symbol) 1 0) t b ∙ ap (λ (w : Bool). cond w 1 0 + opened b) e

closed_as : (t : Tok Word) (b : List (Tok Word)) (v : Bool) → is_right t.symbol ≡ v → closed (t ∷ b) ≡ cond v 1 0 + closed b
closed_as t b v e = sum_by-cons (λ t. cond (is_right t.symbol) 1 0) t b ∙ ap (λ (w : Bool). cond w 1 0 + closed b) e

-- the tokens on the way, and how many brackets are open behind them
pub record Passed (d : ℕ) (ts : List (Tok Word)) (e : ℕ) (us : List (Tok Word)) : Type 0 where
  pub before : List (Tok Word)
  pub split : ts ≡ before ++ us
  pub count : d + opened before ≡ e + closed before

-- the same with a token before them
passed_on : {d e f : ℕ} {t : Tok Word} {ts us : List (Tok Word)} (l r : Bool) → is_left t.symbol ≡ l → is_right t.symbol ≡ r → d + cond l 1 0 ≡ e + cond r 1 0 → Passed e ts f us → Passed d (t ∷ ts) f us
passed_on {d} {e} {f} {t} l r el er step p = record {
  before = t ∷ p.before;
  split = ap (λ (vs : List (Tok Word)). t ∷ vs) p.split;
  count = omega (arith, step, p.count, opened_as t p.before l el, closed_as t p.before r er);
}

-- an atom that stands first
at_first : {a : Atom Word} {here rest : List (Tok Word)} {t : Tok Word} {ts : List (Tok Word)} → Reads fact here a rest → t ∷ ts ≡ here → Reads fact (t ∷ ts) a rest
at_first {a = a} {rest = rest} f e = subst (λ (us : List (Tok Word)). Reads fact us a rest) (sym e) f

module _ {number : Numbers} where
  -- one walk behind another
  pub follows : {d e f : ℕ} {ts us vs : List (Tok Word)} → Walk number d ts e us → Walk number e us f vs → Walk number d ts f vs
  follows arrived k = k
  follows (word l r h) k = word l r (follows h k)
  follows (closes r h) k = closes r (follows h k)
  follows (opens l h) k = opens l (follows h k)
  follows (opens_inside l n h) k = opens_inside l n (follows h k)

  -- it leaves fewer tokens
  pub goes_on : {d e : ℕ} {ts us : List (Tok Word)} → Walk number d ts e us → length us ≤ length ts
  goes_on arrived = omega arith
  goes_on (word l r h) = omega (arith, goes_on h)
  goes_on (closes r h) = omega (arith, goes_on h)
  goes_on (opens l h) = omega (arith, goes_on h)
  goes_on (opens_inside l n h) = omega (arith, goes_on h)

  pub passes : {d e : ℕ} {ts us : List (Tok Word)} → Walk number d ts e us → Passed d ts e us
  passes arrived = record { before = []; split = refl; count = refl }
  passes (word {t = t} l r h) = passed_on false false l r refl (passes h)
  passes (closes {t = t} r h) = passed_on false true (right_is_no_left t.symbol r) r (omega arith) (passes h)
  passes (opens {t = t} l h) = passed_on true false l (left_is_no_right t.symbol l) (omega arith) (passes h)
  passes (opens_inside {t = t} l n h) = passed_on true false l (left_is_no_right t.symbol l) (omega arith) (passes h)

  -- each atom on the way that stands within a bracket has a number
  module _ {a : Atom Word} {here rest : List (Tok Word)} (f : Reads fact here a rest) (none : number (name_of_atom a) ≡ None) where
    pub each_has_number : {d e : ℕ} {ts near : List (Tok Word)} → Walk number d ts e near → (before : List (Tok Word)) → ts ≡ before ++ here → closed before < d + opened before → length near < length here → ⊥
    each_has_number (arrived {ts = ts}) before e c less =
        let all : length ts ≡ length before + length here = ap (λ (us : List (Tok Word)). length us) e ∙ length-append before here in
        omega (arith, all, less)
    each_has_number (word l r h) [] e c less = true≢false (sym (fact_opens (at_first f e)) ∙ l)
    each_has_number (word {t = t} {ts = ts} l r h) (b ∷ bs) e c less =
        let same : t ≡ b = cc in
        let more : ts ≡ bs ++ here = cc in
        each_has_number h bs more (omega (arith, c, opened_as b bs false (ap (λ (x : Tok Word). is_left x.symbol) (sym same) ∙ l), closed_as b bs false (ap (λ (x : Tok Word). is_right x.symbol) (sym same) ∙ r))) less
    each_has_number (closes {t = t} r h) [] e c less = never_left_and_right t.symbol (fact_opens (at_first f e)) r
    each_has_number (closes {t = t} {ts = ts} r h) (b ∷ bs) e c less =
        let same : t ≡ b = cc in
        let more : ts ≡ bs ++ here = cc in
        each_has_number h bs more (omega (arith, c, opened_as b bs false (ap (λ (x : Tok Word). is_left x.symbol) (sym same) ∙ right_is_no_left t.symbol r), closed_as b bs true (ap (λ (x : Tok Word). is_right x.symbol) (sym same) ∙ r))) less
    each_has_number (opens l h) [] e c less = absurd (omega (arith, c))
    each_has_number (opens {t = t} {ts = ts} l h) (b ∷ bs) e c less =
        let same : t ≡ b = cc in
        let more : ts ≡ bs ++ here = cc in
        each_has_number h bs more (omega (arith, c, opened_as b bs true (ap (λ (x : Tok Word). is_left x.symbol) (sym same) ∙ l), closed_as b bs false (ap (λ (x : Tok Word). is_right x.symbol) (sym same) ∙ left_is_no_right t.symbol l))) less
    each_has_number (opens_inside l n h) [] e c less = n a rest (at_first f e) none
    each_has_number (opens_inside {t = t} {ts = ts} l n h) (b ∷ bs) e c less =
        let same : t ≡ b = cc in
        let more : ts ≡ bs ++ here = cc in
        each_has_number h bs more (omega (arith, c, opened_as b bs true (ap (λ (x : Tok Word). is_left x.symbol) (sym same) ∙ l), closed_as b bs false (ap (λ (x : Tok Word). is_right x.symbol) (sym same) ∙ left_is_no_right t.symbol l))) less
