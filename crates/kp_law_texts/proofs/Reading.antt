-- Pieces that read as parts read as their list.
use Rattle.std.proofs.Common.{◌≡◌, ℕ, Bool, true, false, List, [], ◌∷◌, map}
use Rattle.std.specs.List.{AllByRecursion}
use Rattle.kp_tree_grammar.specs.declared.symbol.Symbol.{Symbol}
use Rattle.kp_tree_grammar.specs.Language.{first_is, Sort, El, Form, many, Reads, r_end, r_more}
use Rattle.kp_law_texts.specs.Pieces.{Piece, Put, each}
use Rattle.kp_law_texts.specs.Tokens.{words}

-- f puts pieces whose words read as x
abbrev pub Gives : {b : Bool} {c : Sort} → Form b c → Put → El (List ℕ) c → Type 0
Gives X f x = (rest : List Piece) → Reads X (words (f rest)) x (words rest)

-- Lists of pieces that read as the parts of a repetition read as the list of the parts.
pub many_reads : {a : Sort} {T : Type 0} (p : Symbol → Bool) (X : Form true a) (f : T → Put) (tree : T → El (List ℕ) a) (P : T → Type 0)
    → ((x : T) → P x → Gives X (f x) (tree x)) → ((x : T) (rest : List Piece) → first_is p (words (f x rest)) ≡ true)
    → (xs : List T) (rest : List Piece) → AllByRecursion P xs → first_is p (words rest) ≡ false → Reads (many p X) (words (each f xs rest)) (map tree xs) (words rest)
many_reads p X f tree P reads begun [] rest every ends = r_end ends
many_reads p X f tree P reads begun (x ∷ xs) rest every ends = r_more (begun x (each f xs rest)) (reads x every.0 (each f xs rest)) (many_reads p X f tree P reads begun xs rest every.1 ends)
