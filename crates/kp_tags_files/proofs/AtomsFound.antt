-- Atoms and literals at places among the tokens of the program.
use Rattle.std.proofs.Common.{◌≡◌, ℕ, suc, ◌+◌, true, false, List, [], ◌∷◌, map, drop, length, Ok, Option, Some, None, refl, sym, ap, subst, ◌∙◌, arith, true≢false}
use Rattle.std.specs.List.{prefix_len, take_while}
use Rattle.std.proofs.lemmas.List.{drop-drop}
use Rattle.std.proofs.lemmas.Bool.{and_parts}
use Rattle.kp_base.specs.declared.lit.AtomId.{AtomId}
use Rattle.kp_base.proofs.Parts.{take_while_next}
use Rattle.kp_tree_grammar.specs.declared.tree.Word.{Word}
use Rattle.kp_tree_grammar.specs.Language.{Term, Atom, Tok, first_is, is_left, is_right, is_head, is_name, is_not, apply, m_name, hits, token, many, fact, fact_body, lit, stop, Reads, Stops, r_token, r_both, r_make, r_bracket, s_token, s_first, s_make, s_inside, s_unclosed}
use Rattle.kp_tree_grammar.proofs.Public.{answered_is_read, heads_are_names}
use Rattle.kp_tree_cursor.specs.declared.cursor.Class.TheVariants as classes
use Rattle.kp_tree_cursor.specs.declared.halt.Halt.{Halt}
use Rattle.kp_tree_cursor.specs.declared.halt.Halt.TheVariants as halts
use Rattle.kp_tree_cursor.specs.Lexemes.{word_of, from}
use Rattle.kp_tree_cursor.specs.Readers.{Opened, Closed, is_of}
use Rattle.kp_tree_cursor.proofs.Public.{class_is_no_bracket, longest_run_reads, words_of_run}
use Rattle.kp_tags_files.specs.Grammar.{term_text, name_of_atom}
use Rattle.kp_tags_files.specs.Numbers.{Numbers, IsLit}
use Rattle.kp_tags_files.specs.Parts.{FactStands, FactStops, IsNumberOf, IsAtom, is_denied, Halts, ReadsAt, HaltsAt}
use Rattle.kp_tags_files.proofs.Lits.{fact_halts, fact_unknown, plain_reads, negated_reads, plain_halts, negated_halts, negated_unclosed}

-- ---- tokens from a place on

pub next_from : (ls : List (Tok Word)) (at n : ℕ) → drop n (from ls at) ≡ from ls (at + n)
next_from ls at n = drop-drop n at ls

-- ---- atoms

no_hit : (us : List (Tok Word)) → first_is is_head us ≡ false → first_is (hits is_head) us ≡ false
no_hit [] e = refl
no_hit (t ∷ us) e = class_is_no_bracket classes.Head t.symbol ∙ e

-- no head stands behind the bracket
pub headless : (ls : List (Tok Word)) (at : ℕ) → Opened (from ls at) (from ls (at + 1)) → false ≡ first_is is_head (from ls (at + 1)) → Stops fact (from ls at) (stop (from ls (at + 1)))
headless ls at o e = rw o.is (s_inside o.left (s_make (s_first (s_token (no_hit (from ls (at + 1)) (sym e))))))

-- what stands between the brackets of an atom
record BodyStands (ls : List (Tok Word)) (at : ℕ) (run : List (Tok Word)) : Type 0 where
  atom : Atom Word
  reads : Reads fact_body (from ls at) atom (from ls (at + length run))
  named : (name_of_atom atom).head ∷ (name_of_atom atom).objects ≡ map (λ w. (word_of w).text) run

named_term : Tok Word → Term Word
named_term l = apply Word m_name (word_of l)

texts_same : (ws : List (Tok Word)) → map term_text (map named_term ws) ≡ map (λ w. (word_of w).text) ws
unfolding named_term
texts_same [] = refl
texts_same (w ∷ ws) = ap (λ (xs : List (List ℕ)). (word_of w).text ∷ xs) (texts_same ws)

module _ (ls : List (Tok Word)) (at : ℕ) (run : List (Tok Word)) (is : run ≡ take_while (is_of classes.Name) (drop at ls)) where
  behind_run : (drop (prefix_len (is_of classes.Name) (drop at ls)) (drop at ls)) ≡ from ls (at + length run)
  behind_run =
      let same = words_of_run classes.Name ls at run is (λ l. l) (Ok (map (λ l. l) (take_while (is_of classes.Name) (drop at ls)), (drop (prefix_len (is_of classes.Name) (drop at ls)) (drop at ls)))) refl in
      let pairs : ◌≡◌ {A = List (Tok Word) × List (Tok Word)} (map (λ l. l) (take_while (is_of classes.Name) (drop at ls)), (drop (prefix_len (is_of classes.Name) (drop at ls)) (drop at ls))) (map (λ l. l) run, from ls (at + length run)) = cc in
      ap (λ (x : List (Tok Word) × List (Tok Word)). x.1) pairs

  body_by : (l : Tok Word) (us : List (Tok Word)) → drop at ls ≡ l ∷ us → is_head l.symbol ≡ true → BodyStands ls at run
  unfolding named_term
  body_by l us e h =
      let p = is_of classes.Name in
      let named : is_name l.symbol ≡ true = heads_are_names l.symbol h in
      let front : run ≡ l ∷ take_while p us = is ∙ ap (take_while p) e ∙ take_while_next p l us named in
      let more : prefix_len p (l ∷ us) ≡ suc (prefix_len p us) = rw named (omega arith) in
      let left : (drop (prefix_len p us) us) ≡ from ls (at + length run) =
      ap (λ (n : ℕ). drop n (l ∷ us)) (sym more) ∙ ap (λ (vs : List (Tok Word)). (drop (prefix_len p vs) vs)) (sym e) ∙ behind_run in
      let names = answered_is_read 0 _ _ (many is_name (token is_name (λ _. m_name))) us (map named_term (take_while p us)) ((drop (prefix_len p us) us)) (longest_run_reads 0 is_name (λ _. m_name) (class_is_no_bracket classes.Name) us) in
      record {
        atom = record { head = word_of l; terms = map named_term (take_while p us) };
        reads = rw (e, sym left) (r_make (r_both (r_token (class_is_no_bracket classes.Head l.symbol ∙ h)) names));
        named = ap (λ (xs : List (List ℕ)). (word_of l).text ∷ xs) (texts_same (take_while p us)) ∙ ap (map (λ w. (word_of w).text)) (sym front);
      }

  body : first_is is_head (from ls at) ≡ true → BodyStands ls at run
  body h = go (drop at ls) refl h where
    go : (us : List (Tok Word)) → drop at ls ≡ us → first_is is_head us ≡ true → BodyStands ls at run
    go [] e f = absurd (true≢false (sym f))
    go (l ∷ us) e f = body_by l us e f

module _ (ls : List (Tok Word)) (at : ℕ) (run : List (Tok Word)) (o : Opened (from ls at) (from ls (at + 1))) (h : true ≡ first_is is_head (from ls (at + 1))) (is : run ≡ take_while (is_of classes.Name) (drop (at + 1) ls)) where
  -- no closing bracket stands behind the names
  pub unclosed : first_is is_right (from ls (at + 1 + length run)) ≡ false → Stops fact (from ls at) (stop (from ls (at + 1 + length run)))
  unclosed f = let b = body ls (at + 1) run is (sym h) in rw o.is (s_unclosed o.left b.reads f)

  -- an atom stands there
  pub stands : (behind : ℕ) → Closed (from ls (at + 1 + length run)) (from ls behind) → FactStands ls at run behind
  stands behind k =
      let b = body ls (at + 1) run is (sym h) in
      record {
        atom = b.atom;
        reads = rw o.is (r_bracket o.left (subst (λ (ts : List (Tok Word)). Reads fact_body (from ls (at + 1)) b.atom ts) k.is b.reads) k.right);
        named = b.named;
      }

-- ---- its number

pub atom_halts : (number : Numbers) (ls : List (Tok Word)) (at : ℕ) (e : Halt) → FactStops ls at e → HaltsAt number fact ls at e
atom_halts number ls at halts.Memory h = absurd h
atom_halts number ls at (halts.Syntax i) h = λ d. fact_halts h
atom_halts number ls at (halts.Unsupported i) h = absurd h

pub atom_found : (number : Numbers) (ls : List (Tok Word)) (at : ℕ) (run : List (Tok Word)) (behind n : ℕ) (o : Option ℕ) → FactStands ls at run behind → IsNumberOf number run o → o ≡ Some n → ReadsAt fact (IsAtom number) ls at (record { 0 = n }) behind
atom_found number ls at run behind n o s is e = record { tree = s.atom; reads = s.reads; is = is (name_of_atom s.atom) s.named ∙ e }

pub atom_unknown : (number : Numbers) (ls : List (Tok Word)) (at : ℕ) (run : List (Tok Word)) (behind : ℕ) (o : Option ℕ) → FactStands ls at run behind → IsNumberOf number run o → o ≡ None → HaltsAt number fact ls at (halts.Syntax (at + 1))
atom_unknown number ls at run behind o s is e d = subst (λ (us : List (Tok Word)). Halts number (suc d) fact (from ls at) us) (next_from ls at 1) (fact_unknown s.reads (is (name_of_atom s.atom) s.named ∙ e))

-- ---- literals

-- a bracket and the word `not` stand there
record DeniedStands (ls : List (Tok Word)) (at : ℕ) : Type 0 where
  opening : Tok Word
  word : Tok Word
  is : from ls at ≡ opening ∷ word ∷ from ls (at + 2)
  left : is_left opening.symbol ≡ true
  negates : is_not word.symbol ≡ true

denied_by : (ls : List (Tok Word)) (at : ℕ) (us : List (Tok Word)) → from ls at ≡ us → is_denied us ≡ true → DeniedStands ls at
denied_by ls at [] e d = absurd (true≢false (sym d))
denied_by ls at (t ∷ []) e d = absurd (true≢false (sym d))
denied_by ls at (t ∷ n ∷ us) e d =
    let p = and_parts (is_left t.symbol) (is_not n.symbol) d in
    record {
      opening = t;
      word = n;
      is = e ∙ ap (λ (vs : List (Tok Word)). t ∷ n ∷ vs) (ap (drop 2) (sym e) ∙ next_from ls at 2);
      left = p.0;
      negates = p.1;
    }

module _ (number : Numbers) (ls : List (Tok Word)) (at : ℕ) where
  module _ (d : false ≡ is_denied (from ls at)) where
    pub plain_found : (x : AtomId) (behind : ℕ) → ReadsAt fact (IsAtom number) ls at x behind → ReadsAt lit (IsLit number) ls at (record { atom = x; positive = true }) behind
    plain_found x behind r = record { tree = record { positive = true; atom = r.tree }; reads = plain_reads r.reads; is = record { atom = r.is; sign = refl } }

    pub plain_fails : (e : Halt) → HaltsAt number fact ls at e → HaltsAt number lit ls at e
    plain_fails halts.Memory h k = tt
    plain_fails (halts.Syntax i) h k = plain_halts (sym d) (h k)
    plain_fails (halts.Unsupported i) h k = h k

  module _ (d : true ≡ is_denied (from ls at)) where
    denied : DeniedStands ls at
    denied = denied_by ls at (from ls at) refl (sym d)

    pub negated_found : (x : AtomId) (behind next : ℕ) → ReadsAt fact (IsAtom number) ls (at + 2) x behind → Closed (from ls behind) (from ls next) → ReadsAt lit (IsLit number) ls at (record { atom = x; positive = false }) next
    negated_found x behind next r k = record {
      tree = record { positive = false; atom = r.tree };
      reads = rw denied.is (negated_reads denied.left denied.negates (subst (λ (ts : List (Tok Word)). Reads fact (from ls (at + 2)) r.tree ts) k.is r.reads) k.right);
      is = record { atom = r.is; sign = refl };
    }

    pub negated_fails : (e : Halt) → HaltsAt number fact ls (at + 2) e → HaltsAt number lit ls at e
    negated_fails halts.Memory h k = tt
    negated_fails (halts.Syntax i) h k = rw denied.is (negated_halts denied.left denied.negates (h (suc k)))
    negated_fails (halts.Unsupported i) h k = h (suc k)

    pub negated_open : (x : AtomId) (behind : ℕ) → ReadsAt fact (IsAtom number) ls (at + 2) x behind → first_is is_right (from ls behind) ≡ false → HaltsAt number lit ls at (halts.Syntax behind)
    negated_open x behind r f k = rw denied.is (negated_unclosed denied.left denied.negates r.reads r.is f)
