-- Tags and merges at places among the tokens of the program, one by one.
use Rattle.std.proofs.Common.{◌≡◌, ℕ, suc, ◌+◌, true, false, List, [], ◌∷◌, ◌++◌, Err, refl, sym, ap, subst, ◌∙◌}
use Rattle.std.specs.List.{AllZip}
use Rattle.std.proofs.lemmas.List.Sums.{fold-append}
use Rattle.kp_base.specs.declared.lit.Lit.{Lit as Literal}
use Rattle.kp_base.specs.LitSet.{with_lit}
use Rattle.kp_tree_grammar.specs.declared.tree.Word.{Word}
use Rattle.kp_tree_grammar.specs.Language.{Tok, first_is, is_left, is_right, is_merge, Sort, El, Form, hits, many, lit, Reads, r_bracket, r_after, r_both}
use Rattle.kp_tree_cursor.specs.declared.cursor.Lead.TheVariants as leads
use Rattle.kp_tree_cursor.specs.declared.halt.Halt.{Halt}
use Rattle.kp_tree_cursor.specs.declared.halt.Halt.TheVariants as halts
use Rattle.kp_tree_cursor.specs.Lexemes.{from}
use Rattle.kp_tree_cursor.specs.Readers.{Opened, Closed, Led}
use Rattle.kp_tags_files.specs.declared.merge.FileMerge.{FileMerge}
use Rattle.kp_tags_files.specs.Grammar.{tag, merge_body, merge, merges}
use Rattle.kp_tags_files.specs.Numbers.{Numbers, IsLit, IsTag, IsMerge}
use Rattle.kp_tags_files.specs.MergesFiles.{IsFirstRefused}
use Rattle.kp_tags_files.specs.Parts.{Walk, ReadsAt, Adds, HaltsBelow, HaltsAt, SoFar, LitsSoFar, AreMergesOf, AnswersTokens}
use Rattle.kp_tags_files.proofs.Contexts.{none_so_far, one_more, at_end, next_halts}
use Rattle.kp_tags_files.proofs.Lits.{walk_lit}
use Rattle.kp_tags_files.proofs.Tagged.{tag_unopened, tag_halts, tag_unclosed, merge_unopened, merge_unled, target_halts, tags_halt, body_halts, merge_unclosed}
use Rattle.kp_tags_files.proofs.Firsts.{first_is as is_first, first_behind}

-- ---- repetitions

module _ {Y : Type 0} {c : Sort} (number : Numbers) (depth : ℕ → ℕ) (X : Form true c) (Is : El Word c → Y → Type 0) (ls : List (Tok Word)) (start : ℕ) where
  -- the next one is refused
  pub next_fails : (ys : List Y) (at : ℕ) (e : Halt) (n : ℕ) → true ≡ first_is is_left (from ls at) → HaltsBelow number (depth n) X ls at e → SoFar number depth X Is ys (from ls at) (from ls start) → HaltsBelow number (depth n) (many is_left X) ls start e
  next_fails ys at halts.Memory n l h so = tt
  next_fails ys at (halts.Syntax i) n l h so = next_halts n (sym l) h so
  next_fails ys at (halts.Unsupported i) n l h so = absurd h

  -- the next one stands there
  pub next_stands : (ys now : List Y) (at behind : ℕ) → true ≡ first_is is_left (from ls at) → ((y : Y) (tree : El Word c) → Is tree y → Reads X (from ls at) tree (from ls behind) → (n : ℕ) → Walk number (depth n) (from ls at) (depth n) (from ls behind)) → Adds X Is ls at ys now behind → SoFar number depth X Is ys (from ls at) (from ls start) → SoFar number depth X Is now (from ls behind) (from ls start)
  next_stands ys now at behind l walk a so = let r = a.stands in one_more a.one (sym l) r.reads r.is (walk a.one r.tree r.is r.reads) a.put so

  -- none stands there
  pub all_stand : (ys : List Y) (at : ℕ) → false ≡ first_is is_left (from ls at) → SoFar number depth X Is ys (from ls at) (from ls start) → ReadsAt (many is_left X) (AllZip Is) ls start ys at
  all_stand ys at none so = record { tree = so.front; reads = at_end (sym none) so; is = so.are }

-- ---- the literals of a tag

pub no_lits : (number : Numbers) (all : List (Tok Word)) (set : List Literal) → set ≡ [] → LitsSoFar number set all all
no_lits number all set e = record { lits = []; set = e; so_far = none_so_far all }

module _ (number : Numbers) (ls : List (Tok Word)) (start at : ℕ) (set : List Literal) (so : LitsSoFar number set (from ls at) (from ls start)) where
  pub lit_fails : (e : Halt) → true ≡ first_is is_left (from ls at) → HaltsAt number lit ls at e → HaltsAt number (many is_left lit) ls start e
  lit_fails e l h d = next_fails number suc lit (IsLit number) ls start so.lits at e d l (h d) so.so_far

  pub lit_stands : (x : Literal) (behind : ℕ) (now : List Literal) → true ≡ first_is is_left (from ls at) → ReadsAt lit (IsLit number) ls at x behind → now ≡ with_lit x set → LitsSoFar number now (from ls behind) (from ls start)
  lit_stands x behind now l r e = record {
    lits = so.lits ++ x ∷ [];
    set = e ∙ ap (with_lit x) so.set ∙ sym (fold-append (λ set l. with_lit l set) [] so.lits (x ∷ []));
    so_far = next_stands number suc lit (IsLit number) ls start so.lits (so.lits ++ x ∷ []) at behind l (λ y tree is h d. walk_lit y is h) (record { one = x; stands = r; put = refl }) so.so_far;
  }

  pub lits_stand : false ≡ first_is is_left (from ls at) → ReadsAt (many is_left lit) (IsTag number) ls start set at
  lits_stand none =
      let r = all_stand number suc lit (IsLit number) ls start so.lits at none so.so_far in
      record { tree = r.tree; reads = r.reads; is = record { lits = so.lits; are = r.is; set = so.set } }

-- ---- tags

module _ (number : Numbers) (ls : List (Tok Word)) (at : ℕ) (o : Opened (from ls at) (from ls (at + 1))) where
  pub tag_fails : (e : Halt) → HaltsAt number (many is_left lit) ls (at + 1) e → HaltsAt number tag ls at e
  tag_fails halts.Memory h d = tt
  tag_fails (halts.Syntax i) h d = rw o.is (tag_halts o.left (h (suc d)))
  tag_fails (halts.Unsupported i) h d = h (suc d)

  pub tag_open : (set : List Literal) (behind : ℕ) → ReadsAt (many is_left lit) (IsTag number) ls (at + 1) set behind → first_is is_right (from ls behind) ≡ false → HaltsAt number tag ls at (halts.Syntax behind)
  tag_open set behind r f d = rw o.is (tag_unclosed r.is.lits o.left r.is.are r.reads f)

  pub tag_stands : (set : List Literal) (behind next : ℕ) → ReadsAt (many is_left lit) (IsTag number) ls (at + 1) set behind → Closed (from ls behind) (from ls next) → ReadsAt tag (IsTag number) ls at set next
  tag_stands set behind next r k = record {
    tree = r.tree;
    reads = rw o.is (r_bracket o.left (subst (λ (ts : List (Tok Word)). Reads (many is_left lit) (from ls (at + 1)) r.tree ts) k.is r.reads) k.right);
    is = r.is;
  }

pub no_tag : (number : Numbers) (ls : List (Tok Word)) (at : ℕ) → false ≡ first_is is_left (from ls at) → HaltsAt number tag ls at (halts.Syntax at)
no_tag number ls at e d = tag_unopened (sym e)

-- ---- merges

module _ (number : Numbers) (ls : List (Tok Word)) (at : ℕ) where
  pub target_fails : (e : Halt) → HaltsAt number lit ls at e → HaltsBelow number 1 merge_body ls at e
  target_fails halts.Memory h = tt
  target_fails (halts.Syntax k) h = target_halts (h 0)
  target_fails (halts.Unsupported k) h = h 0

  module _ (x : Literal) (i : ℕ) (t : ReadsAt lit (IsLit number) ls at x i) where
    pub tags_fail : (e : Halt) → HaltsAt number (many is_left tag) ls i e → HaltsBelow number 1 merge_body ls at e
    tags_fail halts.Memory h = tt
    tags_fail (halts.Syntax k) h = tags_halt x t.is t.reads (h 0)
    tags_fail (halts.Unsupported k) h = h 0

    pub body_stands : (xs : List (List Literal)) (behind : ℕ) → ReadsAt (many is_left tag) (AllZip (IsTag number)) ls i xs behind → ReadsAt merge_body (IsMerge number) ls at (record { target = x; tags = xs }) behind
    body_stands xs behind g = record { tree = (t.tree, g.tree); reads = r_both t.reads g.reads; is = record { target = t.is; tags = g.is } }

pub no_merge : (number : Numbers) (ls : List (Tok Word)) (at : ℕ) → false ≡ first_is is_left (from ls at) → HaltsBelow number 0 merge ls at (halts.Syntax at)
no_merge number ls at e = merge_unopened (sym e)

module _ (number : Numbers) (ls : List (Tok Word)) (at : ℕ) (o : Opened (from ls at) (from ls (at + 1))) where
  pub no_word : first_is (hits is_merge) (from ls (at + 1)) ≡ false → HaltsBelow number 0 merge ls at (halts.Syntax (at + 1))
  no_word f = rw o.is (merge_unled o.left f)

  module _ (i : ℕ) (w : Led leads.Merge (from ls (at + 1)) (from ls i)) where
    pub body_fails : (e : Halt) → HaltsBelow number 1 merge_body ls i e → HaltsBelow number 0 merge ls at e
    body_fails halts.Memory h = tt
    body_fails (halts.Syntax k) h = rw (o.is, w.is) (body_halts o.left w.leads h)
    body_fails (halts.Unsupported k) h = h

    module _ (x : FileMerge) (k : ℕ) (g : ReadsAt merge_body (IsMerge number) ls i x k) where
      pub merge_open : first_is is_right (from ls k) ≡ false → HaltsBelow number 0 merge ls at (halts.Syntax k)
      merge_open f = rw (o.is, w.is) (merge_unclosed o.left w.leads x g.is g.reads f)

      pub merge_stands : (behind : ℕ) → Closed (from ls k) (from ls behind) → ReadsAt merge (IsMerge number) ls at x behind
      merge_stands behind c = record {
        tree = g.tree;
        reads = rw (o.is, w.is) (r_bracket o.left (r_after w.leads (subst (λ (ts : List (Tok Word)). Reads merge_body (from ls i) g.tree ts) c.is g.reads)) c.right);
        is = g.is;
      }

-- ---- all tokens

module _ (number : Numbers) (ls : List (Tok Word)) (at : ℕ) (ms : List FileMerge) (so : SoFar number (λ _. 0) merge (IsMerge number) ms (from ls at) ls) where
  pub merge_fails : (e : Halt) → true ≡ first_is is_left (from ls at) → HaltsBelow number 0 merge ls at e → AnswersTokens number ls (Err e)
  merge_fails halts.Memory l h = tt
  merge_fails (halts.Syntax i) l h = is_first (next_fails number (λ _. 0) merge (IsMerge number) ls 0 ms at (halts.Syntax i) 0 l h so)
  merge_fails (halts.Unsupported i) l h = absurd h

  pub more_left : (t : Tok Word) (rest : List (Tok Word)) → from ls at ≡ t ∷ rest → false ≡ first_is is_left (from ls at) → IsFirstRefused number ls (from ls at)
  more_left t rest e none =
      subst (λ (ts : List (Tok Word)). IsFirstRefused number ls ts) (sym e)
      (first_behind (subst (λ (ts : List (Tok Word)). Reads merges ls so.front ts) e (at_end (sym none) so)) (subst (λ (ts : List (Tok Word)). Walk number 0 ls 0 ts) e (so.walks 0)))

  pub none_left : from ls at ≡ [] → AreMergesOf number ls ms
  none_left e = record {
    tree = so.front;
    are = so.are;
    reads = subst (λ (ts : List (Tok Word)). Reads merges ls so.front ts) e (at_end (ap (first_is is_left) e) so);
  }
