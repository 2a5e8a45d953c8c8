-- The written texts read as their trees, with the places of the words.
use Rattle.std.proofs.Common.{ℕ, Bool, List, sym, subst}
use Rattle.kp_tree_grammar.specs.Language.{Tok, all_seen_in, Sort, El, Form, ReadsWhole}
use Rattle.kp_tree_grammar.specs.Grammar as grammar
use Rattle.kp_law_texts.specs.Pieces.{Piece, spelling}
use Rattle.kp_write.specs.Written.{domain_pieces, problem_pieces}
use Rattle.kp_law_texts.specs.Tokens.{spans, words, Fine}
use Rattle.kp_law_texts.specs.Maps.{ReadsWithPlaces}
use Rattle.kp_write.specs.Texts.{DomainReadsAsMeant, ProblemReadsAsMeant}
use Rattle.kp_write.specs.Trees.{written_domain, written_problem}
use Rattle.kp_law_texts.proofs.Public.{pieces_are_cut, reading_goes_by_symbols}
use Rattle.kp_write.proofs.Fine.{fine_domain, fine_problem}
use Rattle.kp_write.proofs.Reading.{domain_reads, problem_reads}

-- what the words of fine pieces read as, their text reads as
text_reads : {b : Bool} {c : Sort} (X : Form b c) (ps : List Piece) (y : El (List ℕ) c) → Fine ps → ReadsWhole X (words ps) y → ReadsWithPlaces X (all_seen_in (spelling ps) (spans 0 ps)) y
text_reads X ps y fine h = reading_goes_by_symbols _ _ X _ y (subst (λ (ts : List (Tok (List ℕ))). ReadsWhole X ts y) (sym (pieces_are_cut ps fine).seen) h)

pub written_domains_read : DomainReadsAsMeant
written_domains_read facts ops h k =
    let fine = fine_domain facts ops h k in
    let r = text_reads grammar.domain (domain_pieces facts ops) (written_domain facts ops) fine (domain_reads facts ops h k) in
    record { tree = r.tree; is = r.is; reads = record { tokens = spans 0 (domain_pieces facts ops); cut = (pieces_are_cut (domain_pieces facts ops) fine).cut; reads = r.reads } }

pub written_problems_read : ProblemReadsAsMeant
written_problems_read start goal h k =
    let fine = fine_problem start goal h k in
    let r = text_reads grammar.problem (problem_pieces start goal) (written_problem start goal) fine (problem_reads start goal h k) in
    record { tree = r.tree; is = r.is; reads = record { tokens = spans 0 (problem_pieces start goal); cut = (pieces_are_cut (problem_pieces start goal) fine).cut; reads = r.reads } }
