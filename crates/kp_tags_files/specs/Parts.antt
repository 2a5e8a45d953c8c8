-- What the reader of merges finds at a place, and where it stops. This file serves proofs alone.
use Rattle.std.specs.Prelude.{◌≡◌, ℕ, suc, ◌≤◌, ◌++◌, ◌&&◌, Bool, true, false, List, [], ◌∷◌, map, drop, length, Option, Some, None, Result, Ok, Err}
use Rattle.std.specs.List.{AllZip}
use Rattle.kp_base.specs.declared.ground.GroundName.{GroundName}
use Rattle.kp_base.specs.declared.lit.AtomId.{AtomId}
use Rattle.kp_base.specs.declared.lit.Lit.{Lit as Literal}
use Rattle.kp_base.specs.declared.refused.Part.TheVariants as parts
use Rattle.kp_base.specs.declared.refused.Refused.TheVariants as refusals
use Rattle.kp_base.specs.declared.refused.Stop.{Stop}
use Rattle.kp_base.specs.declared.refused.Stop.TheVariants as causes
use Rattle.kp_base.specs.LitSet.{set_of}
use Rattle.kp_lex.specs.declared.token.Token.{Token}
use Rattle.kp_lex.specs.Places.{place_of}
use Rattle.kp_tree_grammar.specs.declared.tree.Word.{Word}
use Rattle.kp_tree_grammar.specs.Language.{Atom, Tok, all_seen_in, is_left, is_right, is_not, Sort, El, Form, many, fact, lit, At, stop, Reads, Stops, ReadsWhole}
use Rattle.kp_names_semantics.specs.Encoding.{encoded}
use Rattle.kp_tree_cursor.specs.declared.halt.Halt.{Halt}
use Rattle.kp_tree_cursor.specs.declared.halt.Halt.TheVariants as halts
use Rattle.kp_tree_cursor.specs.Lexemes.{word_of, from, byte_at}
use Rattle.kp_plans.specs.WordTables.{number_under}
use Rattle.kp_tags_files.specs.declared.merge.FileMerge.{FileMerge}
use Rattle.kp_tags_files.specs.Grammar.{MergeTree, merges, name_of_atom}
use Rattle.kp_tags_files.specs.Numbers.{Numbers, IsLit, IsMerge}
use Rattle.kp_tags_files.specs.MergesFiles.{IsFirstRefused}

-- the numbers that a table has for names
abbrev pub numbers_of : List (List ℕ × ℕ) → Numbers
numbers_of table n = number_under table (encoded n)

-- ---- atoms and negations

-- an atom with these words stands at a place, and another place is behind it
pub record FactStands (ls : List (Tok Word)) (at : ℕ) (run : List (Tok Word)) (behind : ℕ) : Type 0 where
  pub atom : Atom Word
  pub reads : Reads fact (from ls at) atom (from ls behind)
  pub named : (name_of_atom atom).head ∷ (name_of_atom atom).objects ≡ map (λ w. (word_of w).text) run

-- none stands there; it stops at a token
abbrev pub FactStops : List (Tok Word) → ℕ → Halt → Type 0
FactStops ls at (halts.Syntax i) = Stops fact (from ls at) (stop (from ls i))
FactStops ls at _ = ⊥

-- the number of the atom with these words, if it has one
abbrev pub IsNumberOf : Numbers → List (Tok Word) → Option ℕ → Type 0
IsNumberOf number run o = (n : GroundName) → n.head ∷ n.objects ≡ map (λ w. (word_of w).text) run → number n ≡ o

-- the atom by number
abbrev pub IsAtom : Numbers → Atom Word → AtomId → Type 0
IsAtom number a x = number (name_of_atom a) ≡ Some x.0

-- a bracket and the word `not` stand first
abbrev pub is_denied : List (Tok Word) → Bool
is_denied [] = false
is_denied (t ∷ []) = false
is_denied (t ∷ n ∷ ts) = is_left t.symbol && is_not n.symbol

-- ---- where a form is refused first

-- The tokens from one place to another, with so many brackets open at both. On the way each atom within a bracket has a number.
pub data Walk (number : Numbers) : ℕ → List (Tok Word) → ℕ → List (Tok Word) → Type 0 where
  arrived : {d : ℕ} {ts : List (Tok Word)} → Walk number d ts d ts
  word : {d e : ℕ} {t : Tok Word} {ts us : List (Tok Word)} → is_left t.symbol ≡ false → is_right t.symbol ≡ false → Walk number d ts e us → Walk number d (t ∷ ts) e us
  closes : {d e : ℕ} {t : Tok Word} {ts us : List (Tok Word)} → is_right t.symbol ≡ true → Walk number d ts e us → Walk number (suc d) (t ∷ ts) e us
  opens : {e : ℕ} {t : Tok Word} {ts us : List (Tok Word)} → is_left t.symbol ≡ true → Walk number 1 ts e us → Walk number 0 (t ∷ ts) e us
  opens_inside : {d e : ℕ} {t : Tok Word} {ts us : List (Tok Word)} → is_left t.symbol ≡ true → ((a : Atom Word) (rest : List (Tok Word)) → Reads fact (t ∷ ts) a rest → number (name_of_atom a) ≡ None → ⊥) → Walk number (suc (suc d)) ts e us → Walk number (suc d) (t ∷ ts) e us

-- whether it reads or stops, the form comes as far as these tokens
pub record Reaches {b : Bool} {c : Sort} (X : Form b c) (ts us : List (Tok Word)) : Type 0 where
  pub reads : (x : El Word c) (rest : List (Tok Word)) → Reads X ts x rest → length rest ≤ length us
  pub stops : (at : At Word) → Stops X ts at → length at.tokens ≤ length us

-- the form is refused first here: it stops, or it comes to an atom without a number; so many brackets are open before it
pub data Halts (number : Numbers) (d : ℕ) {b : Bool} {c : Sort} (X : Form b c) (ts : List (Tok Word)) : List (Tok Word) → Type 0 where
  stopped : {at : At Word} {e : ℕ} {near : List (Tok Word)} → Stops X ts at → Walk number d ts e near → length near ≤ suc (length at.tokens) → Halts number d X ts at.tokens
  unknown : {e : ℕ} {here behind : List (Tok Word)} {a : Atom Word} → Reaches X ts (drop 1 here) → Walk number d ts (suc e) here → Reads fact here a behind → number (name_of_atom a) ≡ None → Halts number d X ts (drop 1 here)

-- ---- what the calls answer

-- the form stands at a place, as this value, and another place is behind it
pub record ReadsAt {Y : Type 0} {b : Bool} {c : Sort} (X : Form b c) (Is : El Word c → Y → Type 0) (ls : List (Tok Word)) (at : ℕ) (y : Y) (behind : ℕ) : Type 0 where
  pub tree : El Word c
  pub reads : Reads X (from ls at) tree (from ls behind)
  pub is : Is tree y

-- the same, and its value was put behind others
pub record Adds {Y : Type 0} {b : Bool} {c : Sort} (X : Form b c) (Is : El Word c → Y → Type 0) (ls : List (Tok Word)) (at : ℕ) (old now : List Y) (behind : ℕ) : Type 0 where
  pub one : Y
  pub stands : ReadsAt X Is ls at one behind
  pub put : now ≡ old ++ one ∷ []

-- it doesn't stand there, and is refused first at a token; so many brackets are open before it
abbrev pub HaltsBelow : Numbers → ℕ → {b : Bool} {c : Sort} → Form b c → List (Tok Word) → ℕ → Halt → Type 0
HaltsBelow number d X ls at halts.Memory = Unit {0}
HaltsBelow number d X ls at (halts.Syntax i) = Halts number d X (from ls at) (from ls i)
HaltsBelow number d X ls at (halts.Unsupported i) = ⊥

-- the same within brackets, however many are open
abbrev pub HaltsAt : Numbers → {b : Bool} {c : Sort} → Form b c → List (Tok Word) → ℕ → Halt → Type 0
HaltsAt number X ls at halt = (d : ℕ) → HaltsBelow number (suc d) X ls at halt

-- of all that was read so far of a repetition, in front of the tokens that are left; so many brackets are open between two of them
pub record SoFar {Y : Type 0} {c : Sort} (number : Numbers) (depth : ℕ → ℕ) (X : Form true c) (Is : El Word c → Y → Type 0) (ys : List Y) (left all : List (Tok Word)) : Type 0 where
  pub front : List (El Word c)
  pub are : AllZip Is front ys
  pub reads : (xs : List (El Word c)) (rest : List (Tok Word)) → Reads (many is_left X) left xs rest → Reads (many is_left X) all (front ++ xs) rest
  pub halts : (n : ℕ) (here : List (Tok Word)) → Halts number (depth n) (many is_left X) left here → Halts number (depth n) (many is_left X) all here
  pub walks : (n : ℕ) → Walk number (depth n) all (depth n) left

-- the same of literals, as a set
pub record LitsSoFar (number : Numbers) (tag : List Literal) (left all : List (Tok Word)) : Type 0 where
  pub lits : List Literal
  pub set : tag ≡ set_of lits
  pub so_far : SoFar number suc lit (IsLit number) lits left all

-- the tokens are these merges
pub record AreMergesOf (number : Numbers) (ts : List (Tok Word)) (ms : List FileMerge) : Type 0 where
  pub tree : List MergeTree
  pub are : AllZip (IsMerge number) tree ms
  pub reads : ReadsWhole merges ts tree

-- of all tokens: the merges, or the first token that is refused; want of memory is free
abbrev pub AnswersTokens : Numbers → List (Tok Word) → Result (List FileMerge) Halt → Type 0
AnswersTokens number ls (Ok ms) = AreMergesOf number ls ms
AnswersTokens number ls (Err halts.Memory) = Unit {0}
AnswersTokens number ls (Err (halts.Syntax i)) = IsFirstRefused number ls (from ls i)
AnswersTokens number ls (Err (halts.Unsupported i)) = ⊥

-- the same of the tokens of a text
abbrev pub AnswersCut : Numbers → List ℕ → List Token → Result (List FileMerge) Halt → Type 0
AnswersCut number text ts (Ok ms) = AreMergesOf number (all_seen_in text ts) ms
AnswersCut number text ts (Err halts.Memory) = Unit {0}
AnswersCut number text ts (Err (halts.Syntax i)) = IsFirstRefused number (all_seen_in text ts) (all_seen_in text (drop i ts))
AnswersCut number text ts (Err (halts.Unsupported i)) = ⊥

-- what a stop is told as
abbrev pub IsTold : List ℕ → List Token → Halt → Stop → Type 0
IsTold text ts halts.Memory s = s ≡ causes.Memory
IsTold text ts (halts.Syntax i) s = s ≡ causes.Refused (refusals.MergeSyntax (place_of parts.Merges text (byte_at text (all_seen_in text (drop i ts)))))
IsTold text ts (halts.Unsupported i) s = Unit {0}
