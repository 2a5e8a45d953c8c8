-- A file has one list of merges or one refusal, and one of them always.
use Rattle.std.proofs.Common.{◌≡◌, ℕ, ◌⊎◌, inl, inr, List, [], ◌∷◌, Option, Some, Bool, refl, sym, ap, subst, ◌∙◌, arith}
use Rattle.std.specs.List.{AllZip}
use Rattle.kp_base.specs.declared.ground.GroundName.{GroundName}
use Rattle.kp_base.specs.declared.lit.Lit.{Lit as Literal}
use Rattle.kp_base.specs.declared.refused.Part.TheVariants as parts
use Rattle.kp_base.specs.declared.refused.Refused.{Refused}
use Rattle.kp_base.specs.declared.refused.Refused.TheVariants as refusals
use Rattle.kp_base.specs.LitSet.{set_of}
use Rattle.kp_lex.specs.declared.token.Token.{Token}
use Rattle.kp_lex.specs.Cutting.{Cut, BadAt}
use Rattle.kp_lex.specs.Places.{place_of}
use Rattle.kp_lex.proofs.Public.{cutting_or_bad_byte, never_cutting_and_bad_byte, one_cutting, one_bad_byte}
use Rattle.kp_tree_grammar.specs.declared.tree.Word.{Word}
use Rattle.kp_tree_grammar.specs.Trees.{Lit}
use Rattle.kp_tree_grammar.specs.Symbols.{Tok, all_seen_in}
use Rattle.kp_tree_grammar.specs.Reading.{Reads, ReadsWhole}
use Rattle.kp_tree_grammar.proofs.Public.{whole_reads_once, whole_never_both}
use Rattle.kp_tree_cursor.specs.Lexemes.{byte_at}
use Rattle.kp_plans.specs.Names.{number_of}
use Rattle.kp_tags_files.specs.declared.merge.FileMerge.{FileMerge}
use Rattle.kp_tags_files.specs.Grammar.{MergeTree, merges}
use Rattle.kp_tags_files.specs.Numbers.{Numbers, IsLit, IsTag, IsMerge}
use Rattle.kp_tags_files.specs.MergesFiles.{IsMergesOf, IsRefused, stops, no_ground_atom, IsFirstRefused, RefusesMerges, bad_token, wrong_token, MergesReadOnce, MergesRefuseOnce, MergesNeverBoth, MergesAlwaysOne}
use Rattle.kp_tags_files.proofs.Walks.{has_bracket}
use Rattle.kp_tags_files.proofs.Tagged.{walk_merges}
use Rattle.kp_tags_files.proofs.Firsts.{none_before, first_is, first_behind}
use Rattle.kp_tags_files.proofs.Endings.{one_end, refused_ends}
use Rattle.kp_tags_files.proofs.Decided.{Stands, Fails, merges_decided}

-- ---- one list

pairs_once : {A B : Type 0} (R : A → B → Type 0) → ((a : A) (x y : B) → R a x → R a y → x ≡ y) → (zs : List A) (xs ys : List B) → AllZip R zs xs → AllZip R zs ys → xs ≡ ys
pairs_once R one [] [] [] h k = refl
pairs_once R one [] [] (y ∷ ys) h k = absurd k
pairs_once R one [] (x ∷ xs) ys h k = absurd h
pairs_once R one (a ∷ zs) [] ys h k = absurd h
pairs_once {B = B} R one (a ∷ zs) (x ∷ xs) [] h k = absurd k
pairs_once {B = B} R one (a ∷ zs) (x ∷ xs) (y ∷ ys) h k = ap (λ (z : B). z ∷ xs) (one a x y h.0 k.0) ∙ ap (λ (vs : List B). y ∷ vs) (pairs_once R one zs xs ys h.1 k.1)

some_is : {n m : ℕ} → ◌≡◌ {A = Option ℕ} (Some n) (Some m) → n ≡ m
some_is e = cc

module _ (number : Numbers) where
  lit_once : (l : Lit Word) (x y : Literal) → IsLit number l x → IsLit number l y → x ≡ y
  lit_once l x y h k =
      let atoms : x.atom.0 ≡ y.atom.0 = some_is (sym h.atom ∙ k.atom) in
      ap (λ (n : ℕ). record { atom = record { 0 = n }; positive = x.positive }) atoms ∙ ap (λ (b : Bool). record { atom = y.atom; positive = b }) (h.sign ∙ sym k.sign)

  tag_once : (ls : List (Lit Word)) (x y : List Literal) → IsTag number ls x → IsTag number ls y → x ≡ y
  tag_once ls x y h k = h.set ∙ ap set_of (pairs_once (IsLit number) lit_once ls h.lits k.lits h.are k.are) ∙ sym k.set

  merge_once : (m : MergeTree) (x y : FileMerge) → IsMerge number m x → IsMerge number m y → x ≡ y
  merge_once m x y h k =
      ap (λ (t : Literal). record { target = t; tags = x.tags }) (lit_once m.0 x.target y.target h.target k.target)
      ∙ ap (λ (ts : List (List Literal)). record { target = y.target; tags = ts }) (pairs_once (IsTag number) tag_once m.1 x.tags y.tags h.tags k.tags)

pub read_once : MergesReadOnce
read_once atoms text ms others h k =
    let tokens : k.reads.tokens ≡ h.reads.tokens = one_cutting _ _ k.reads.cut h.reads.cut in
    let trees : h.tree ≡ k.tree = whole_reads_once _ _ merges (all_seen_in text h.reads.tokens) h.tree k.tree h.reads.reads (subst (λ (ts : List Token). ReadsWhole merges (all_seen_in text ts) k.tree) tokens k.reads.reads) in
    pairs_once (IsMerge (number_of atoms)) (merge_once (number_of atoms)) h.tree ms others h.are (subst (λ (trees : List MergeTree). AllZip (IsMerge (number_of atoms)) trees others) (sym trees) k.are)

-- ---- one refusal

first_once : {number : Numbers} {all here there : List (Tok Word)} → IsFirstRefused number all here → IsFirstRefused number all there → here ≡ there
first_once {here = here} {there = there} h k = one_end (refused_ends h.refused) (refused_ends k.refused) (omega (arith, h.first there k.refused, k.first here h.refused))

pub refused_once : MergesRefuseOnce
refused_once atoms text r s (bad_token i h) (bad_token j k) = ap (λ (n : ℕ). refusals.BadToken (place_of parts.Merges text n)) (one_bad_byte i j h k)
refused_once atoms text r s (bad_token i h) (wrong_token ts here k p) = absurd (never_cutting_and_bad_byte ts i k h)
refused_once atoms text r s (wrong_token ts here h p) (bad_token i k) = absurd (never_cutting_and_bad_byte ts i h k)
refused_once atoms text r s (wrong_token ts here h p) (wrong_token us there k q) =
    ap (λ (vs : List (Tok Word)). refusals.MergeSyntax (place_of parts.Merges text (byte_at text vs)))
    (first_once p (subst (λ (vs : List Token). IsFirstRefused (number_of atoms) (all_seen_in text vs) there) (one_cutting _ _ k h) q))

-- ---- never both

none_refused : (number : Numbers) (all : List (Tok Word)) (tree : List MergeTree) (ms : List FileMerge) (here : List (Tok Word)) → ReadsWhole merges all tree → AllZip (IsMerge number) tree ms → IsRefused number all here → ⊥
none_refused number all tree ms _ h are (stops at k) = whole_never_both _ _ merges all tree at h k
none_refused number all tree ms _ h are (no_ground_atom here a s none) = absurd (omega (arith, none_before (walk_merges ms are h) s none, has_bracket s.reads))

pub never_two : MergesNeverBoth
never_two atoms text ms r h (bad_token i k) = never_cutting_and_bad_byte h.reads.tokens i h.reads.cut k
never_two atoms text ms r h (wrong_token ts here k p) =
    none_refused (number_of atoms) (all_seen_in text ts) h.tree ms here (subst (λ (us : List Token). ReadsWhole merges (all_seen_in text us) h.tree) (one_cutting _ _ h.reads.cut k) h.reads.reads) h.are p.refused

-- ---- one of them always

abbrev HasAnswer : List GroundName → List ℕ → Type 0
HasAnswer atoms text = ((ms : List FileMerge) × IsMergesOf atoms text ms) ⊎ ((r : Refused) × RefusesMerges atoms text r)

module _ (atoms : List GroundName) (text : List ℕ) (ts : List Token) (cut : Cut 0 text ts) where
  by_rest : (tree : List MergeTree) (ms : List FileMerge) (rest : List (Tok Word)) → Reads merges (all_seen_in text ts) tree rest → AllZip (IsMerge (number_of atoms)) tree ms → HasAnswer atoms text
  by_rest tree ms [] h are = inl (ms, record { tree = tree; are = are; reads = record { tokens = ts; cut = cut; reads = h } })
  by_rest tree ms (t ∷ rest) h are = inr (_, wrong_token ts (t ∷ rest) cut (first_behind h (walk_merges ms are h)))

  by_tokens : Stands merges (AllZip (IsMerge (number_of atoms))) (all_seen_in text ts) ⊎ Fails (number_of atoms) (λ n. 0) merges (all_seen_in text ts) → HasAnswer atoms text
  by_tokens (inl s) = by_rest s.tree s.value s.rest s.reads s.is
  by_tokens (inr f) = inr (_, wrong_token ts f.here cut (first_is (f.halts 0)))

by_cutting : (atoms : List GroundName) (text : List ℕ) → ((ts : List Token) × Cut 0 text ts) ⊎ ((i : ℕ) × BadAt 0 text i) → HasAnswer atoms text
by_cutting atoms text (inl h) = by_tokens atoms text h.0 h.1 (merges_decided (number_of atoms) (all_seen_in text h.0))
by_cutting atoms text (inr h) = inr (_, bad_token h.0 h.1)

pub always_some : MergesAlwaysOne
always_some atoms text = by_cutting atoms text (cutting_or_bad_byte text)
