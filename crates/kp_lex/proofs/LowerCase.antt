-- A token in lower case is a token of the same kind.
use Rattle.std.proofs.Common.{◌≡◌, ℕ, ◌+◌, ◌≤◌, Bool, true, false, ◌||◌, nat_le, List, [], ◌∷◌, map, refl, sym, ap, ◌∙◌, arith}
use Rattle.std.specs.Char.{to_ascii_lowercase}
use Rattle.std.proofs.lemmas.Str.Ascii.{lowercase_is}
use Rattle.kp_lex.specs.declared.token.TokenKind.{TokenKind}
use Rattle.kp_lex.specs.declared.class.Class.TheVariants as classes
use Rattle.kp_lex.specs.Bytes.{is_alphanumeric, class_of, follows, follows_class}
use Rattle.kp_lex.specs.Cutting.{AllAre, IsToken, left, right, dash, equal, name, variable, keyword}

second : (a c : Bool) → (a || true) || c ≡ true
second true c = refl
second false c = refl

third : (a : Bool) → a || true ≡ true
third true = refl
third false = refl

capital : (b : ℕ) → 65 ≤ b → b ≤ 90 → is_alphanumeric b ≡ true
capital b low high =
    let from : nat_le 65 b ≡ true = grind (arith, low) in
    let to : nat_le b 90 ≡ true = grind (arith, high) in
    rw (from, to) (second _ _)

small : (b : ℕ) → 97 ≤ b → b ≤ 122 → is_alphanumeric b ≡ true
small b low high =
    let from : nat_le 97 b ≡ true = grind (arith, low) in
    let to : nat_le b 122 ≡ true = grind (arith, high) in
    rw (from, to) (third _)

alphanumeric : (b : ℕ) → is_alphanumeric b ≡ true → class_of b ≡ classes.Alphanumeric
unfolding class_of
alphanumeric b e = rw e refl

-- a byte in lower case has the same class
same_class : (b : ℕ) → class_of (to_ascii_lowercase b) ≡ class_of b
same_class b = go (nat_le 65 b) refl (nat_le b 90) refl where
  go : (low : Bool) → nat_le 65 b ≡ low → (high : Bool) → nat_le b 90 ≡ high → class_of (to_ascii_lowercase b) ≡ class_of b
  go false l high h = ap class_of ((lowercase_is b).1 (grind (arith, l)))
  go true l false h = ap class_of ((lowercase_is b).2 (grind (arith, h)))
  go true l true h =
      let from : 65 ≤ b = grind (arith, l) in
      let to : b ≤ 90 = grind (arith, h) in
      let is : to_ascii_lowercase b ≡ b + 32 = (lowercase_is b).0 (from, to) in
      ap class_of is ∙ alphanumeric (b + 32) (small (b + 32) (omega (arith, from)) (omega (arith, to))) ∙ sym (alphanumeric b (capital b from to))

all_follow : (bs : List ℕ) → AllAre follows bs → AllAre follows (map to_ascii_lowercase bs)
all_follow [] h = tt
all_follow (b ∷ bs) h = (ap follows_class (same_class b) ∙ h.0, all_follow bs h.1)

pub lowered : {k : TokenKind} {w : List ℕ} → IsToken k w → IsToken k (map to_ascii_lowercase w)
lowered (left {b = b} e) = left (same_class b ∙ e)
lowered (right {b = b} e) = right (same_class b ∙ e)
lowered (dash {b = b} e) = dash (same_class b ∙ e)
lowered (equal {b = b} e) = equal (same_class b ∙ e)
lowered (name {b = b} {bs = bs} e h) = name (same_class b ∙ e) (all_follow bs h)
lowered (variable {q = q} {b = b} {bs = bs} s e h) = variable (same_class q ∙ s) (same_class b ∙ e) (all_follow bs h)
lowered (keyword {q = q} {b = b} {bs = bs} s e h) = keyword (same_class q ∙ s) (same_class b ∙ e) (all_follow bs h)
