-- Places that are told one behind the other.
use Rattle.std.proofs.Common.{◌≡◌, ℕ, ◌+◌, ◌-◌, ◌≤◌, ◌==◌, List, take, drop, slice_range, sym, ap, ◌∙◌, arith}
use Rattle.std.specs.List.{count_by}
use Rattle.std.proofs.lemmas.List.{take-take, drop-take}
use Rattle.std.proofs.lemmas.List.Sums.{sum_by-take-drop}
use Rattle.kp_base.specs.declared.refused.Part.TheVariants as parts
use Rattle.kp_base.specs.declared.refused.Place.{Place}
use Rattle.kp_lex.specs.Places.{place_of}

-- the line feeds before a byte
abbrev feeds : List ℕ → ℕ
feeds bytes = count_by (λ b. b == 10) bytes

counted_on : (text : List ℕ) (a b : ℕ) → a ≤ b → feeds (take a text) + feeds (slice_range text a b) ≡ feeds (take b text)
counted_on text a b h =
    let all : a + (b - a) ≡ b = omega arith in
    let behind : drop a (take b text) ≡ take (b - a) (drop a text) = ap (λ (n : ℕ). drop a (take n text)) (sym all) ∙ drop-take a (b - a) text in
    rw (← take-take a b text h, ← behind) (sum_by-take-drop _ (take b text) a)

pub place_on : (text : List ℕ) (known : Place) (n b : ℕ) → known ≡ place_of parts.Plan text known.byte → known.byte ≤ b → n ≡ feeds (slice_range text known.byte b) → record { part = known.part; line = known.line + n; byte = b } ≡ place_of parts.Plan text b
place_on text known n b is h e =
    let part : known.part ≡ parts.Plan = ap (λ (p : Place). p.part) is in
    let line : known.line ≡ 1 + feeds (take known.byte text) = ap (λ (p : Place). p.line) is in
    let more = counted_on text known.byte b h in
    let lines : known.line + n ≡ 1 + feeds (take b text) = omega arith in
    ap (λ (p : _). record { part = p; line = known.line + n; byte = b }) part ∙ ap (λ (l : ℕ). record { part = parts.Plan; line = l; byte = b }) lines
