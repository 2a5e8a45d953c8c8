-- The names of facts and operators can be written, and tell what they are of.
use Rattle.std.proofs.Common.{◌≡◌, ◌<◌, ◌^◌, ℕ, Bool, true, false, ◌&&◌, ◌==◌, eqb-true, if◌then◌else◌, List, [], ◌∷◌, ◌++◌, codes, decimal, drop, append_assoc, append-nil, Some, refl, sym, ap, subst, ◌∙◌, arith}
use Rattle.std.proofs.lemmas.Bool.{false≢true, and_from, and_parts}
use Rattle.std.proofs.lemmas.Bool.Decides.{nat_tests}
use Rattle.std.proofs.lemmas.Fmt.{decimal_is_IsNumeral, decimal_injective}
use Rattle.std.proofs.lemmas.List.{same_from_push}
use Rattle.std.proofs.lemmas.Str.Ascii.{lowercase_is}
use Rattle.std.proofs.lemmas.Str.Parse.{digit_from_value}
use Rattle.std.specs.Char.{to_ascii_lowercase}
use Rattle.std.specs.Int.{IsInRange}
use Rattle.std.specs.Str.Parse.{AllDigits}
use Rattle.std.specs.List.{AllByRecursion, list_any, list_all}
use Rattle.kp_base.specs.declared.ground.GroundName.{GroundName}
use Rattle.kp_lex.specs.declared.token.TokenKind.TheVariants as kinds
use Rattle.kp_lex.specs.Bytes.{is_alphanumeric, class_of, follows, follows_class}
use Rattle.kp_lex.specs.Cutting.{AllAre, IsToken, name as a_name}
use Rattle.kp_tree_grammar.specs.Symbols.{symbol_of}
use Rattle.kp_tree_grammar.specs.Words.{IsLow, IsName, IsHead}
use Rattle.kp_names_semantics.specs.Names.{same, all_same}
use Rattle.kp_names_semantics.specs.Encoding.{underscore, doubled_byte, doubled, encoded_objects, encoded, decoded, is_empty}
use Rattle.kp_names_semantics.specs.GroundNames.{IsGroundName, same_name}
use Rattle.kp_names_semantics.proofs.Public.{what_was_encoded_decodes, names_are_encoded_once, all_same_names-refl}
use Rattle.kp_base.proofs.Lists.{same-true, same-refl}
use Rattle.kp_write.specs.Facts.{sign_word, tag_word, atom_fact}
use Rattle.kp_write.specs.Grounds.{FactsTellApart}

-- ---- bytes

-- the byte goes on with a name, and is in lower case
pub record IsPlain (b : ℕ) : Type 0 where
  pub on : follows b ≡ true
  pub low : to_ascii_lowercase b ≡ b

abbrev pub ArePlain : List ℕ → Type 0
ArePlain bs = AllByRecursion IsPlain bs

all_on : (bs : List ℕ) → ArePlain bs → AllAre follows bs
all_on [] h = tt
all_on (b ∷ bs) h = (h.0.on, all_on bs h.1)

all_low : (bs : List ℕ) → ArePlain bs → IsLow bs
all_low [] h = refl
all_low (b ∷ bs) h = let first = h.0.low in let others = all_low bs h.1 in cc

-- such bytes are a Name where the first is a letter or a digit
pub name_from : {b : ℕ} {bs : List ℕ} → is_alphanumeric b ≡ true → ArePlain (b ∷ bs) → IsName (b ∷ bs)
unfolding class_of
name_from {b} {bs} e h = record { token = a_name (rw e refl) (all_on bs h.1); low = all_low (b ∷ bs) h }

pub joined : (xs ys : List ℕ) → ArePlain xs → ArePlain ys → ArePlain (xs ++ ys)
joined [] ys h k = k
joined (x ∷ xs) ys h k = (h.0, joined xs ys h.1 k)

-- bytes that are written out
pub computed : (bs : List ℕ) → list_all (λ b. follows b && (to_ascii_lowercase b == b)) bs ≡ true → ArePlain bs
computed [] e = tt
computed (b ∷ bs) e =
    let h = and_parts (follows b && (to_ascii_lowercase b == b)) (list_all (λ c. follows c && (to_ascii_lowercase c == c)) bs) e in
    let k = and_parts (follows b) (to_ascii_lowercase b == b) h.0 in
    (record { on = k.0; low = eqb-true (to_ascii_lowercase b) b k.1 }, computed bs h.1)

-- ---- encoded names

plain_bytes : (bs : List ℕ) → AllAre follows bs → IsLow bs → ArePlain bs
plain_bytes [] h low = tt
plain_bytes (b ∷ bs) h low = (record { on = h.0; low = cc }, plain_bytes bs h.1 cc)

plain_token : {w : List ℕ} → IsToken kinds.Name w → IsLow w → ArePlain w
plain_token (a_name {b = b} {bs = bs} e all) low = (record { on = ap follows_class e; low = cc }, plain_bytes bs all cc)

plain_doubled : (w : List ℕ) → ArePlain w → ArePlain (doubled w)
unfolding class_of
plain_doubled [] h = tt
plain_doubled (b ∷ bs) h = joined (doubled_byte b) (doubled bs) (byte (b == underscore)) (plain_doubled bs h.1) where
  byte : (t : Bool) → ArePlain (if t then underscore ∷ underscore ∷ [] else b ∷ [])
  byte true = computed (codes "__") refl
  byte false = (h.0, tt)

plain_name : (w : List ℕ) → IsName w → ArePlain (doubled w)
plain_name w h = plain_doubled w (plain_token h.token h.low)

plain_objects : (os : List (List ℕ)) → AllByRecursion IsName os → ArePlain (encoded_objects os)
unfolding class_of
plain_objects [] h = tt
plain_objects (o ∷ os) h = joined (codes "_-") (doubled o ++ encoded_objects os) (computed (codes "_-") refl) (joined (doubled o) (encoded_objects os) (plain_name o h.0) (plain_objects os h.1))

plain_encoded : (n : GroundName) → IsGroundName n → ArePlain (encoded n)
plain_encoded n h = joined (doubled n.head) (encoded_objects n.objects) (plain_name n.head h.head) (plain_objects n.objects h.objects)

-- ---- words of the task

alphanumeric : (c : ℕ) → IsInRange 48 57 c → is_alphanumeric c ≡ true
alphanumeric c h = grind (arith, nat_tests)

digit : (c : ℕ) → IsInRange 48 57 c → IsPlain c
unfolding class_of
digit c h = record { on = rw (alphanumeric c h) refl; low = (lowercase_is c).1 (omega arith) }

pub digits : (ds : List ℕ) → AllDigits 10 ds → ArePlain ds
digits [] h = tt
digits (c ∷ cs) h = (digit c (omega (arith, digit_from_value c h.0)), digits cs h.1)

plain_tag : (t : ℕ) → t < 2 ^ 64 → ArePlain (tag_word t)
unfolding class_of
plain_tag t fits = joined (codes "_-") (decimal t) (computed (codes "_-") refl) (digits (decimal t) (decimal_is_IsNumeral t fits).0.1)

plain_sign : (b : Bool) → ArePlain (sign_word b)
unfolding class_of
plain_sign true = computed (codes "kp_-") refl
plain_sign false = computed (codes "kn_-") refl

plain_fact : (t : ℕ) → t < 2 ^ 64 → (b : Bool) (n : GroundName) → IsGroundName n → ArePlain (atom_fact t b n)
plain_fact t fits b n h = joined (sign_word b) (encoded n ++ tag_word t) (plain_sign b) (joined (encoded n) (tag_word t) (plain_encoded n h) (plain_tag t fits))

-- a fact can be written: no reserved word begins as it does
pub fact_is_head : (t : ℕ) → t < 2 ^ 64 → (b : Bool) (n : GroundName) → IsGroundName n → IsHead (atom_fact t b n)
unfolding class_of symbol_of
fact_is_head t fits true n h = let w : IsName (atom_fact t true n) = name_from refl (plain_fact t fits true n h) in record { token = w.token; low = w.low; head = refl }
fact_is_head t fits false n h = let w : IsName (atom_fact t false n) = name_from refl (plain_fact t fits false n h) in record { token = w.token; low = w.low; head = refl }

-- the name of an action's operator can be written
pub operator_is_name : (n : GroundName) → IsGroundName n → IsName (codes "do_-" ++ encoded n)
unfolding class_of
operator_is_name n h = name_from refl (joined (codes "do_-") (encoded n) (computed (codes "do_-") refl) (plain_encoded n h))

-- ---- different names

some_byte : {w : List ℕ} → IsToken kinds.Name w → is_empty w ≡ false
some_byte (a_name e all) = refl

no_empty : (ws : List (List ℕ)) → AllByRecursion IsName ws → list_any is_empty ws ≡ false
no_empty [] h = refl
no_empty (w ∷ ws) h = rw (some_byte h.0.token) (no_empty ws h.1)

pub decodes : (n : GroundName) → IsGroundName n → decoded (encoded n) ≡ Some n
decodes n h = what_was_encoded_decodes n (no_empty (n.head ∷ n.objects) (h.head, h.objects))

pub same_name-refl : (n : GroundName) → same_name n n ≡ true
same_name-refl n = and_from (same n.head n.head) (all_same n.objects n.objects) (same-refl n.head) (all_same_names-refl n.objects)

-- ---- the literal of a fact

-- digits stand for themselves
undoubled : (ds : List ℕ) → AllDigits 10 ds → doubled ds ≡ ds
undoubled [] h = refl
undoubled (c ∷ cs) h = rw (no_underscore (digit_from_value c h.0), undoubled cs h.1) refl where
  no_underscore : IsInRange 48 57 c → (c == underscore) ≡ false
  no_underscore r = grind (arith, nat_tests)

-- the tag as one more object
abbrev tagged : ℕ → GroundName → GroundName
tagged t n = record { head = n.head; objects = n.objects ++ decimal t ∷ [] }

tagged_objects : (t : ℕ) → t < 2 ^ 64 → (os : List (List ℕ)) → encoded_objects os ++ tag_word t ≡ encoded_objects (os ++ decimal t ∷ [])
tagged_objects t fits [] = ap (λ ds. codes "_-" ++ ds) (sym (append-nil (doubled (decimal t)) ∙ undoubled (decimal t) (decimal_is_IsNumeral t fits).0.1))
tagged_objects t fits (o ∷ os) = ap (λ ws. codes "_-" ++ ws) (append_assoc (doubled o) (encoded_objects os) (tag_word t) ∙ ap (λ ws. doubled o ++ ws) (tagged_objects t fits os))

tagged_word : (t : ℕ) → t < 2 ^ 64 → (n : GroundName) → encoded n ++ tag_word t ≡ encoded (tagged t n)
tagged_word t fits n = append_assoc (doubled n.head) (encoded_objects n.objects) (tag_word t) ∙ ap (λ ws. doubled n.head ++ ws) (tagged_objects t fits n.objects)

tag_and_name : (s t : ℕ) (x y : GroundName) → s < 2 ^ 64 → t < 2 ^ 64 → encoded x ++ tag_word s ≡ encoded y ++ tag_word t → (s ≡ t) × (x ≡ y)
tag_and_name s t x y p q e =
    let one : tagged s x ≡ tagged t y = names_are_encoded_once (tagged s x) (tagged t y) (sym (tagged_word s p x) ∙ e ∙ tagged_word t q y) in
    let parts = same_from_push x.objects y.objects (decimal s) (decimal t) (ap (λ n. n.objects) one) in
    let heads : x.head ≡ y.head = ap (λ n. n.head) one in
    (decimal_injective s t p q parts.1, (λ i. record { head = heads i; objects = parts.0 i }))

pub facts_tell_apart : FactsTellApart
facts_tell_apart s t true true x y p q h k e = let r = tag_and_name s t x y p q (ap (drop 4) e) in (r.0, refl, r.1)
facts_tell_apart s t true false x y p q h k e = absurd (false≢true (ap (same (atom_fact s true x)) (sym e) ∙ same-refl (atom_fact s true x)))
facts_tell_apart s t false true x y p q h k e = absurd (false≢true (ap (same (atom_fact s false x)) (sym e) ∙ same-refl (atom_fact s false x)))
facts_tell_apart s t false false x y p q h k e = let r = tag_and_name s t x y p q (ap (drop 4) e) in (r.0, refl, r.1)

-- ---- words that differ

-- words from which the names can be told differ as the names do
unlike : (x y : GroundName) → same_name x y ≡ false → (u v : List ℕ) → (u ≡ v → x ≡ y) → same u v ≡ false
unlike x y differ u v f = go (same u v) refl where
  go : (b : Bool) → same u v ≡ b → same u v ≡ false
  go false e = e
  go true e = absurd (false≢true (sym differ ∙ subst (λ z. same_name x z ≡ true) (f (same-true u v e)) (same_name-refl x)))

-- so do the operators of different actions
pub operators_apart : (x y : GroundName) → IsGroundName x → IsGroundName y → same_name x y ≡ false → same (codes "do_-" ++ encoded x) (codes "do_-" ++ encoded y) ≡ false
operators_apart x y h k differ = unlike x y differ (codes "do_-" ++ encoded x) (codes "do_-" ++ encoded y) (λ e. names_are_encoded_once x y (ap (drop 4) e))
