-- What the words of fine pieces read as, their text reads as.
use Rattle.std.proofs.Common.{List, ℕ, subst, sym}
use Rattle.kp_tree_grammar.specs.Symbols.{Tok}
use Rattle.kp_tree_grammar.specs.Reading.{ReadsWhole}
use Rattle.kp_law_texts.specs.Tokens.{spans}
use Rattle.kp_law_texts.specs.Texts.{PiecesReadAsTheirWords}
use Rattle.kp_law_texts.proofs.Cuts.{pieces_are_cut}
use Rattle.kp_law_texts.proofs.Natural.{places_dont_matter}

pub pieces_read : PiecesReadAsTheirWords
pieces_read b c X ps y fine reads =
    let k = pieces_are_cut ps fine in
    let r = places_dont_matter b c X _ y (subst (λ (ts : List (Tok (List ℕ))). ReadsWhole X ts y) (sym k.seen) reads) in
    record { tree = r.tree; is = r.is; reads = record { tokens = spans 0 ps; cut = k.cut; reads = r.reads } }
