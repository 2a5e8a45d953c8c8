-- The lines of merges read back as the merges.
use Rattle.std.proofs.Common.{◌≡◌, ℕ, zero, suc, ◌+◌, ◌<◌, Bool, true, false, List, [], ◌∷◌, map, length, slice_get, Option, Some, None, refl, sym, ap, subst, ◌∙◌, arith}
use Rattle.std.specs.List.{AllByRecursion, AllZip, IsDistinct, position_from}
use Rattle.std.proofs.lemmas.Bool.{false≢true, and_parts, and_from}
use Rattle.kp_base.specs.declared.lit.Lit.{Lit as Literal}
use Rattle.kp_base.specs.declared.ground.GroundName.{GroundName}
use Rattle.kp_base.specs.Lit.{same_lit}
use Rattle.kp_base.specs.LitSet.{IsAscending, set_of}
use Rattle.kp_base.proofs.Lits.{contains_has, has_contains}
use Rattle.kp_base.proofs.Ascending.{same_members}
use Rattle.kp_base.proofs.Sets.{any-set_of, set_ascends}
use Rattle.kp_lex.specs.declared.token.TokenKind.TheVariants as kinds
use Rattle.kp_lex.specs.Bytes.{class_of}
use Rattle.kp_tree_grammar.specs.declared.tree.Word.{Word}
use Rattle.kp_tree_grammar.specs.Language.{Term, Atom, Lit, first_is, is_left, is_name, is_head, s_lit, s_list, s_pair, m_name, hits, token, many, fact, lit, Reads, r_token, r_both, r_after, r_end, r_more, r_make, r_bracket, IsHead, term_map, atom_map, lit_map}
use Rattle.kp_tree_grammar.specs.Symbols.{symbol_of}
use Rattle.kp_tree_cursor.specs.declared.cursor.Class.TheVariants as classes
use Rattle.kp_tree_cursor.proofs.Public.{class_is_no_bracket}
use Rattle.kp_base.proofs.Lists.{same-true, same-refl}
use Rattle.kp_names_semantics.specs.Names.{same, all_same}
use Rattle.kp_names_semantics.specs.GroundNames.{same_name}
use Rattle.kp_names_semantics.proofs.Public.{all_same_names-true, all_same_names-refl}
use Rattle.kp_law_texts.specs.Pieces.{Piece, right, Put, each, spaced, name, line_feed}
use Rattle.kp_law_texts.specs.Tokens.{text_of as word_text, words, done, lefts, rights, blanks, says}
use Rattle.kp_law_texts.specs.Maps.{without_places}
use Rattle.kp_law_texts.proofs.Public.{◌$◌, KeepsFine, name_in_front_is_fine, each_keeps_fine, names_before_a_bracket_end, names_before_a_bracket_are_fine, PiecesGive, many_pieces_read, pieces_read_as_their_words}
use Rattle.kp_plans.specs.Names.{number_of}
use Rattle.kp_plans.proofs.Public.{name_word_is_hit, name_word_is_name}
use Rattle.kp_tags_files.specs.declared.merge.FileMerge.{FileMerge}
use Rattle.kp_tags_files.specs.Grammar.{MergeTree, tag, merge, merges, term_text, name_of_atom}
use Rattle.kp_tags_files.specs.Numbers.{IsLit, IsTag, IsMerge}
use Rattle.kp_tags_files.specs.MergesFiles.{IsMergesOf}
use Rattle.kp_plans_spelling.specs.Spelling.{name_put, atom_put, signed_put, lit_put, joined}
use Rattle.kp_tags_files.specs.Printed.{tag_put, merge_line, merges_pieces, merges_text, IsAtomName, IsLitOn, IsTagOn, IsMergeOn, CanBeWritten, WrittenMergesRead}
use Rattle.kp_tags_files.proofs.Lits.{plain_reads, negated_reads}

-- ---- names by number

same_name-refl : (n : GroundName) → same_name n n ≡ true
same_name-refl n = and_from (same n.head n.head) (all_same n.objects n.objects) (same-refl n.head) (all_same_names-refl n.objects)

same_name-true : (n m : GroundName) → same_name n m ≡ true → n ≡ m
same_name-true n m e =
    let p = and_parts (same n.head m.head) (all_same n.objects m.objects) e in
    ap (λ (x : List ℕ). record { head = x; objects = n.objects }) (same-true n.head m.head p.0) ∙ ap (λ (xs : List (List ℕ)). record { head = m.head; objects = xs }) (all_same_names-true n.objects m.objects p.1)

-- the name of an atom by its number
record IsNamed (atoms : List GroundName) (i : ℕ) : Type 0 where
  name : GroundName
  at : slice_get atoms i ≡ Some name
  good : IsAtomName name

named : (atoms : List GroundName) → AllByRecursion IsAtomName atoms → (i : ℕ) → i < length atoms → IsNamed atoms i
named [] h i below = absurd (omega (arith, below))
named (n ∷ ns) h zero below = record { name = n; at = refl; good = h.0 }
named (n ∷ ns) h (suc i) below = let r = named ns h.1 i (omega (arith, below)) in record { name = r.name; at = r.at; good = r.good }

-- one that differs from a name isn't that name
differs : (x : GroundName) (xs : List GroundName) (i : ℕ) (n : GroundName) → AllByRecursion (λ y. same_name x y ≡ false) xs → slice_get xs i ≡ Some n → same_name n x ≡ false
differs x [] i n h e = absurd cc
differs x (y ∷ ys) zero n h e = go (same_name n x) refl where
  go : (v : Bool) → same_name n x ≡ v → v ≡ false
  go false f = refl
  go true f =
      let is : y ≡ n = cc in
      let same : x ≡ y = sym (is ∙ same_name-true n x f) in
      absurd (false≢true (sym h.0 ∙ ap (same_name x) (sym same) ∙ same_name-refl x))
differs x (y ∷ ys) (suc i) n h e = differs x ys i n h.1 e

found_from : (atoms : List GroundName) → IsDistinct same_name atoms → (i k : ℕ) (n : GroundName) → slice_get atoms i ≡ Some n → position_from (same_name n) k atoms ≡ Some (k + i)
unfolding IsDistinct
found_from [] d i k n e = absurd cc
found_from (x ∷ xs) d zero k n e =
    let is : x ≡ n = cc in
    let zero_more : k ≡ k + 0 = omega arith in
    rw (ap (same_name n) is ∙ same_name-refl n) (ap Some zero_more)
found_from (x ∷ xs) d (suc i) k n e =
    let more : k + 1 + i ≡ k + suc i = omega arith in
    rw (differs x xs i n d.0 e) (found_from xs d.1 i (k + 1) n e ∙ ap Some more)

-- ---- the lines are fine

fine_name : (n : GroundName) → IsAtomName n → KeepsFine (name_put n)
fine_name n h = record { keeps = λ {rest} f. lefts $ says h.head.token h.head.low (names_before_a_bracket_end n.objects rest) $ names_before_a_bracket_are_fine n.objects h.objects f }

fine_signed : (b : Bool) (n : GroundName) → IsAtomName n → KeepsFine (signed_put b (name_put n))
unfolding class_of
fine_signed true n h = fine_name n h
fine_signed false n h = record { keeps = λ f. lefts $ name_in_front_is_fine refl refl refl $ blanks refl $ (fine_name n h).keeps $ rights f }

fine_spaced : {T : Type 0} (f : T → Put) (x : T) → KeepsFine (f x) → KeepsFine (spaced f x)
unfolding class_of
fine_spaced f x h = record { keeps = λ g. blanks refl (h.keeps g) }

module _ (atoms : List GroundName) (names : AllByRecursion IsAtomName atoms) where
  name_at : (l : Literal) → IsLitOn atoms l → IsNamed atoms l.atom.0
  name_at l h = named atoms names l.atom.0 h.below

  fine_lit : (l : Literal) → IsLitOn atoms l → KeepsFine (lit_put atoms l)
  fine_lit l h = let n = name_at l h in subst (λ (o : Option GroundName). KeepsFine (signed_put l.positive (atom_put o))) (sym n.at) (fine_signed l.positive n.name n.good)

  fine_joined : (ls : List Literal) → AllByRecursion (IsLitOn atoms) ls → KeepsFine (joined (lit_put atoms) ls)
  fine_joined [] h = record { keeps = λ f. f }
  fine_joined (l ∷ ls) h = record { keeps = λ f. (fine_lit l h.0).keeps $ (each_keeps_fine (spaced (lit_put atoms)) (IsLitOn atoms) (λ x p. fine_spaced (lit_put atoms) x (fine_lit x p)) ls h.1).keeps f }

  fine_tag : (t : List Literal) → IsTagOn atoms t → KeepsFine (tag_put atoms t)
  fine_tag t h = record { keeps = λ f. lefts $ (fine_joined t h.lits).keeps $ rights f }

  fine_line : (m : FileMerge) → IsMergeOn atoms m → KeepsFine (merge_line atoms m)
  unfolding class_of
  fine_line m h = record { keeps = λ f. lefts $ name_in_front_is_fine refl refl refl $ blanks refl $ (fine_lit m.target h.target).keeps $ (each_keeps_fine (spaced (tag_put atoms)) (IsTagOn atoms) (λ x p. fine_spaced (tag_put atoms) x (fine_tag x p)) m.tags h.tags).keeps $ rights $ blanks refl f }

-- ---- they read as merges

-- the trees of an atom, a literal and a merge, without places
abbrev atom_tree : GroundName → Atom (List ℕ)
atom_tree n = record { head = n.head; terms = map (λ o. Term.name o) n.objects }

abbrev tree_at : Option GroundName → Atom (List ℕ)
tree_at None = record { head = []; terms = [] }
tree_at (Some n) = atom_tree n

abbrev lit_tree : List GroundName → Literal → Lit (List ℕ)
lit_tree atoms l = record { positive = l.positive; atom = tree_at (slice_get atoms l.atom.0) }

abbrev merge_tree : List GroundName → FileMerge → Lit (List ℕ) × List (List (Lit (List ℕ)))
merge_tree atoms m = (lit_tree atoms m.target, map (map (lit_tree atoms)) m.tags)

head_hits : (w : List ℕ) → IsHead w → hits is_head (symbol_of kinds.Name w) ≡ true
head_hits w h = class_is_no_bracket classes.Head (symbol_of kinds.Name w) ∙ h.head

objects_read : (os : List (List ℕ)) (rest : List Piece) → Reads (many is_name (token is_name (λ _. m_name))) (words (each (spaced name) os (right ∷ rest))) (map (λ o. Term.name o) os) (words (right ∷ rest))
objects_read [] rest = r_end refl
objects_read (o ∷ os) rest = r_more (name_word_is_name o) (r_token (name_word_is_hit o)) (objects_read os rest)

fact_reads : (n : GroundName) → IsAtomName n → PiecesGive fact (name_put n) (atom_tree n)
fact_reads n h rest = r_bracket refl (r_make (r_both (r_token (head_hits n.head h.head)) (objects_read n.objects rest))) refl

signed_reads : (b : Bool) (n : GroundName) → IsAtomName n → PiecesGive lit (signed_put b (name_put n)) (record { positive = b; atom = atom_tree n })
unfolding symbol_of
signed_reads true n h rest = plain_reads (fact_reads n h rest)
signed_reads false n h rest = negated_reads refl refl (fact_reads n h (right ∷ rest)) refl

signed_begins : (b : Bool) (o : Option GroundName) (rest : List Piece) → first_is is_left (words (signed_put b (atom_put o) rest)) ≡ true
signed_begins true None rest = refl
signed_begins true (Some n) rest = refl
signed_begins false o rest = refl

module _ (atoms : List GroundName) (names : AllByRecursion IsAtomName atoms) where
  lit_reads : (l : Literal) → IsLitOn atoms l → PiecesGive lit (lit_put atoms l) (lit_tree atoms l)
  lit_reads l h =
      let n = name_at atoms names l h in
      subst (λ (o : Option GroundName). PiecesGive lit (signed_put l.positive (atom_put o)) (record { positive = l.positive; atom = tree_at o })) (sym n.at) (signed_reads l.positive n.name n.good)

  lits_read : (ls : List Literal) (rest : List Piece) → AllByRecursion (IsLitOn atoms) ls → Reads (many is_left lit) (words (each (spaced (lit_put atoms)) ls (right ∷ rest))) (map (lit_tree atoms) ls) (words (right ∷ rest))
  lits_read ls rest h = many_pieces_read is_left lit (spaced (lit_put atoms)) (lit_tree atoms) (IsLitOn atoms) (λ l p rest. lit_reads l p rest) (λ l rest. signed_begins l.positive (slice_get atoms l.atom.0) rest) ls (right ∷ rest) h refl

  joined_reads : (ls : List Literal) (rest : List Piece) → AllByRecursion (IsLitOn atoms) ls → Reads (many is_left lit) (words (joined (lit_put atoms) ls (right ∷ rest))) (map (lit_tree atoms) ls) (words (right ∷ rest))
  joined_reads [] rest h = r_end refl
  joined_reads (l ∷ ls) rest h = lits_read (l ∷ ls) rest h

  tag_reads : (t : List Literal) → IsTagOn atoms t → PiecesGive tag (tag_put atoms t) (map (lit_tree atoms) t)
  tag_reads t h rest = r_bracket refl (joined_reads t rest h.lits) refl

  merge_reads : (m : FileMerge) → IsMergeOn atoms m → PiecesGive merge (merge_line atoms m) (merge_tree atoms m)
  unfolding symbol_of
  merge_reads m h rest =
      r_bracket refl
      (r_after refl
      (r_both (lit_reads m.target h.target (each (spaced (tag_put atoms)) m.tags (right ∷ line_feed rest)))
      (many_pieces_read is_left tag (spaced (tag_put atoms)) (map (lit_tree atoms)) (IsTagOn atoms) (λ t p rest. tag_reads t p rest) (λ t rest. refl) m.tags (right ∷ line_feed rest) h.tags refl)))
      refl

-- ---- and so the text does

zip_from : {A B C : Type 0} (R : A → B → Type 0) (P : B → Type 0) (f : A → C) (g : B → C) → ((a : A) (b : B) → P b → f a ≡ g b → R a b) → (xs : List A) (ys : List B) → AllByRecursion P ys → map f xs ≡ map g ys → AllZip R xs ys
zip_from R P f g one [] [] h e = tt
zip_from R P f g one [] (y ∷ ys) h e = absurd cc
zip_from R P f g one (x ∷ xs) [] h e = absurd cc
zip_from R P f g one (x ∷ xs) (y ∷ ys) h e =
    let here : f x ≡ g y = cc in
    let more : map f xs ≡ map g ys = cc in
    (one x y h.0 here, zip_from R P f g one xs ys h.1 more)

-- the name of an atom without places
abbrev bare_text : Term (List ℕ) → List ℕ
bare_text (Term.name w) = w
bare_text (Term.variable w) = w

abbrev bare_name : Atom (List ℕ) → GroundName
bare_name a = record { head = a.head; objects = map bare_text a.terms }

term_texts : (ts : List (Term Word)) → map term_text ts ≡ map bare_text (map (term_map word_text) ts)
term_texts [] = refl
term_texts (Term.name w ∷ ts) = ap (λ (xs : List (List ℕ)). w.text ∷ xs) (term_texts ts)
term_texts (Term.variable w ∷ ts) = ap (λ (xs : List (List ℕ)). w.text ∷ xs) (term_texts ts)

tree_texts : (os : List (List ℕ)) → map bare_text (map (λ o. Term.name o) os) ≡ os
tree_texts [] = refl
tree_texts (o ∷ os) = ap (λ (xs : List (List ℕ)). o ∷ xs) (tree_texts os)

name_same : (a : Atom Word) (n : GroundName) → atom_map word_text a ≡ atom_tree n → name_of_atom a ≡ n
name_same a n e =
    ap (λ (xs : List (List ℕ)). record { head = a.head.text; objects = xs }) (term_texts a.terms)
    ∙ ap bare_name e
    ∙ ap (λ (xs : List (List ℕ)). record { head = n.head; objects = xs }) (tree_texts n.objects)

set_again : (ls : List Literal) → IsAscending ls → set_of ls ≡ ls
set_again ls s = same_members (set_of ls) ls (set_ascends ls) s
    (λ m h. has_contains ls m (sym (any-set_of (same_lit m) ls) ∙ contains_has (set_of ls) m h))
    (λ m h. has_contains (set_of ls) m (any-set_of (same_lit m) ls ∙ contains_has ls m h))

module _ (atoms : List GroundName) (ms : List FileMerge) (h : CanBeWritten atoms ms) where
  lit_is : (l : Lit Word) (x : Literal) → IsLitOn atoms x → lit_map word_text l ≡ lit_tree atoms x → IsLit (number_of atoms) l x
  lit_is l x on e =
      let n = name_at atoms h.names x on in
      let none_more : 0 + x.atom.0 ≡ x.atom.0 = omega arith in
      let atom : atom_map word_text l.atom ≡ atom_tree n.name = ap (λ (y : Lit (List ℕ)). y.atom) e ∙ ap tree_at n.at in
      record {
        atom = ap (number_of atoms) (name_same l.atom n.name atom) ∙ found_from atoms h.differ x.atom.0 0 n.name n.at ∙ ap Some none_more;
        sign = sym (ap (λ (y : Lit (List ℕ)). y.positive) e);
      }

  tag_is : (ls : List (Lit Word)) (t : List Literal) → IsTagOn atoms t → map (lit_map word_text) ls ≡ map (lit_tree atoms) t → IsTag (number_of atoms) ls t
  tag_is ls t on e = record { lits = t; are = zip_from (IsLit (number_of atoms)) (IsLitOn atoms) (lit_map word_text) (lit_tree atoms) lit_is ls t on.lits e; set = sym (set_again t on.ascending) }

  merge_is : (tree : MergeTree) (m : FileMerge) → IsMergeOn atoms m → without_places (s_pair s_lit (s_list (s_list s_lit))) tree ≡ merge_tree atoms m → IsMerge (number_of atoms) tree m
  merge_is tree m on e = record {
    target = lit_is tree.0 m.target on.target (ap (λ (x : Lit (List ℕ) × List (List (Lit (List ℕ)))). x.0) e);
    tags = zip_from (IsTag (number_of atoms)) (IsTagOn atoms) (map (lit_map word_text)) (map (lit_tree atoms)) tag_is tree.1 m.tags on.tags (ap (λ (x : Lit (List ℕ) × List (List (Lit (List ℕ)))). x.1) e);
  }

  reads_back : IsMergesOf atoms (merges_text atoms ms) ms
  reads_back =
      let fine = (each_keeps_fine (merge_line atoms) (IsMergeOn atoms) (fine_line atoms h.names) ms h.merges).keeps done in
      let reads = many_pieces_read is_left merge (merge_line atoms) (merge_tree atoms) (IsMergeOn atoms) (λ m p rest. merge_reads atoms h.names m p rest) (λ m rest. refl) ms [] h.merges refl in
      let r = pieces_read_as_their_words _ _ merges (merges_pieces atoms ms) (map (merge_tree atoms) ms) fine reads in
      record {
        tree = r.tree;
        are = zip_from (IsMerge (number_of atoms)) (IsMergeOn atoms) (without_places (s_pair s_lit (s_list (s_list s_lit)))) (merge_tree atoms) merge_is r.tree ms h.merges r.is;
        reads = r.reads;
      }

pub written_merges_read : WrittenMergesRead
written_merges_read = reads_back
