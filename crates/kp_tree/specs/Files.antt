-- Which files are read, and how the others are refused.
use Rattle.std.specs.Prelude.{◌≡◌, ℕ, ◌≤◌, ◌<◌, List, length, Bool, Some, None, Result, Ok, Err, ◌⊎◌}
use Rattle.kp_base.specs.declared.refused.Part.{Part}
use Rattle.kp_base.specs.declared.refused.Place.{Place}
use Rattle.kp_base.specs.declared.refused.Refused.{Refused}
use Rattle.kp_base.specs.declared.refused.Refused.TheVariants as refusals
use Rattle.kp_base.specs.declared.refused.Stop.{Stop}
use Rattle.kp_base.specs.declared.refused.Stop.TheVariants as causes
use Rattle.kp_base.specs.Files.{most_bytes}
use Rattle.kp_lex.specs.declared.token.Token.{Token}
use Rattle.kp_lex.specs.Cutting.{Cut, BadAt}
use Rattle.kp_lex.specs.Places.{place_of}
use Rattle.kp_tree_grammar.specs.declared.tree.Word.{Word}
use Rattle.kp_tree_grammar.specs.Language.{Tok, all_seen_in, Sort, El, Form, Reason, Syntax, Unsupported, At, stop, ReadsWhole, StopsWhole, levels, deep}
use Rattle.kp_tree_cursor.specs.Lexemes.{byte_at}

-- ---- tokens

-- all the tokens are the form, and no bracket opens a level too many
pub record ReadsShallow {b : Bool} {c : Sort} (X : Form b c) (ts : List (Tok Word)) (x : El Word c) : Type 0 where
  pub reads : ReadsWhole X ts x
  pub shallow : deep levels ts ≡ None

-- the token at which a file is refused: the one where the form stops, or the bracket that opens a level too many where that one comes before
pub data RefusedAt {b : Bool} {c : Sort} (X : Form b c) (ts : List (Tok Word)) : At Word → Type 0 where
  offending : (at : At Word) → StopsWhole X ts at → ((us : List (Tok Word)) → deep levels ts ≡ Some us → length us ≤ length at.tokens) → RefusedAt X ts at
  too_deep : (us : List (Tok Word)) → deep levels ts ≡ Some us → ((at : At Word) → StopsWhole X ts at → length at.tokens < length us) → RefusedAt X ts (stop us)

-- a refusal for this reason
abbrev pub refusal_for : Reason → Place → Refused
refusal_for Syntax place = refusals.Syntax place
refusal_for Unsupported place = refusals.Unsupported place

-- the refusal of a file at a token
abbrev pub refusal_at : Part → List ℕ → At Word → Refused
refusal_at part text at = refusal_for at.reason (place_of part text (byte_at text at.tokens))

-- ---- files

-- the file has this tree (`ReadsAs`), and is within the limits: it isn't too long, it is cut, and its tokens are the form, with no bracket a level too deep
pub record HasTree {b : Bool} {c : Sort} (X : Form b c) (text : List ℕ) (x : El Word c) : Type 0 where
  pub short : length text ≤ most_bytes
  pub tokens : List Token
  pub cut : Cut 0 text tokens
  pub reads : ReadsShallow X (all_seen_in text tokens) x

-- the file has this refusal: it is too long, has a byte that begins no token, or has a token at which it is refused
pub data Refuses (part : Part) {b : Bool} {c : Sort} (X : Form b c) (text : List ℕ) : Refused → Type 0 where
  too_long : most_bytes < length text → Refuses part X text (refusals.TooLong part)
  bad_token : (i : ℕ) → length text ≤ most_bytes → BadAt 0 text i → Refuses part X text (refusals.BadToken (place_of part text i))
  stops : (tokens : List Token) (at : At Word) → length text ≤ most_bytes → Cut 0 text tokens → RefusedAt X (all_seen_in text tokens) at → Refuses part X text (refusal_at part text at)

-- ---- what the readers answer

-- of tokens: their tree, or the refusal at the first token that is refused; want of memory is free
abbrev pub AnswersTokens : {T : Type 0} (part : Part) {b : Bool} {c : Sort} (X : Form b c) (view : T → El Word c) (text : List ℕ) (tokens : List Token) → Result T Stop → Type 0
AnswersTokens part X view text tokens (Ok tree) = ReadsShallow X (all_seen_in text tokens) (view tree)
AnswersTokens part X view text tokens (Err causes.Memory) = Unit {0}
AnswersTokens part X view text tokens (Err (causes.Refused r)) = (at : At Word) × (RefusedAt X (all_seen_in text tokens) at × (r ≡ refusal_at part text at))

-- what is refused at a token, is refused at a byte of the text or at its end
abbrev pub IsToldWithin : List ℕ → Stop → Type 0
IsToldWithin text (causes.Refused (refusals.Syntax place)) = place.byte ≤ length text
IsToldWithin text (causes.Refused (refusals.Unsupported place)) = place.byte ≤ length text
IsToldWithin text _ = Unit {0}

-- of a file: its tree, or its refusal; want of memory is free
abbrev pub AnswersFile : {T : Type 0} (part : Part) {b : Bool} {c : Sort} (X : Form b c) (view : T → El Word c) (text : List ℕ) → Result T Stop → Type 0
AnswersFile part X view text (Ok tree) = HasTree X text (view tree)
AnswersFile part X view text (Err causes.Memory) = Unit {0}
AnswersFile part X view text (Err (causes.Refused r)) = Refuses part X text r

-- ---- laws: one tree, or else one refusal

-- a file has one tree at most
abbrev pub FilesReadOnce : Type 0
FilesReadOnce = (b : Bool) (c : Sort) (X : Form b c) (text : List ℕ) (x y : El Word c) → HasTree X text x → HasTree X text y → x ≡ y

-- a file has one refusal at most
abbrev pub FilesRefuseOnce : Type 0
FilesRefuseOnce = (part : Part) (b : Bool) (c : Sort) (X : Form b c) (text : List ℕ) (r s : Refused) → Refuses part X text r → Refuses part X text s → r ≡ s

-- a file that has a tree has no refusal
abbrev pub FilesNeverBoth : Type 0
FilesNeverBoth = (part : Part) (b : Bool) (c : Sort) (X : Form b c) (text : List ℕ) (x : El Word c) (r : Refused) → HasTree X text x → Refuses part X text r → ⊥

-- a file has a tree or a refusal
abbrev pub FilesAlwaysOne : Type 0
FilesAlwaysOne = (part : Part) (b : Bool) (c : Sort) (X : Form b c) (text : List ℕ) → ((x : El Word c) × HasTree X text x) ⊎ ((r : Refused) × Refuses part X text r)
