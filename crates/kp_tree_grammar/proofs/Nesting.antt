-- The brackets of tokens as the cutting counts them and as the grammar does.
use Rattle.std.proofs.Common.{◌≡◌, ℕ, zero, suc, ◌<◌, Bool, false, List, [], ◌∷◌, ◌++◌, length, Option, Some, None, ◌⊎◌, inl, inr, refl, sym, ap, subst, ◌∙◌, arith}
use Rattle.kp_lex.specs.declared.token.TokenKind.{TokenKind}
use Rattle.kp_lex.specs.declared.token.TokenKind.TheVariants as kinds
use Rattle.kp_lex.specs.declared.token.Token.{Token}
use Rattle.kp_lex.specs.Words.{folded}
use Rattle.kp_lex.specs.Levels.{behind, levels_left, up_to, reach}
use Rattle.kp_tree_grammar.specs.declared.tree.Word.{Word}
use Rattle.kp_tree_grammar.specs.Symbols.{Tok, symbol_of, all_seen_in, is_left, is_right}
use Rattle.kp_tree_grammar.specs.Depth.{deep_case, deep}
use Rattle.kp_tree_grammar.proofs.KindTests.{name_fails, keyword_fails}

no_bracket : {W : Type 0} (d : ℕ) (l r : Bool) (here : List (Tok W)) (go : ℕ → Option (List (Tok W))) → l ≡ false → r ≡ false → deep_case d l r here go ≡ go d
no_bracket zero l r here go e k = rw (e, k) refl
no_bracket (suc d) l r here go e k = rw (e, k) refl

-- a token opens a level too many to the grammar just where it does to the cutting
deep_by : {W : Type 0} (d : ℕ) (k : TokenKind) (w : List ℕ) (here : List (Tok W)) (go : ℕ → Option (List (Tok W))) → deep_case d (is_left (symbol_of k w)) (is_right (symbol_of k w)) here go ≡ levels_left (behind d k) (Some here) go
unfolding symbol_of
deep_by zero kinds.Left w here go = refl
deep_by (suc d) kinds.Left w here go = refl
deep_by zero kinds.Right w here go = refl
deep_by (suc d) kinds.Right w here go = refl
deep_by d kinds.Dash w here go = no_bracket d false false here go refl refl
deep_by d kinds.Equal w here go = no_bracket d false false here go refl refl
deep_by d kinds.Variable w here go = no_bracket d false false here go refl refl
deep_by d kinds.Name w here go = no_bracket d _ _ here go (name_fails is_left w refl refl) (name_fails is_right w refl refl)
deep_by d kinds.Keyword w here go = no_bracket d _ _ here go (keyword_fails is_left w refl refl refl) (keyword_fails is_right w refl refl refl)

-- all tokens are kept, up to the text's end; or the last that is kept opens a level too many
abbrev pub Kept : List ℕ → ℕ → List Token → Type 0
Kept text d ts = ((up_to d ts ≡ ts) × ((end : ℕ) → reach d ts end ≡ end)) ⊎ ((rest : List Token) × (us : List (Tok Word)) × (ts ≡ up_to d ts ++ rest) × (deep d (all_seen_in text (up_to d ts)) ≡ Some us) × (0 < length us))

deep_first : (text : List ℕ) (d : ℕ) (t : Token) (ts : List Token) → deep d (all_seen_in text (t ∷ ts)) ≡ levels_left (behind d t.kind) (Some (all_seen_in text (t ∷ ts))) (λ n. deep n (all_seen_in text ts))
deep_first text d t ts = deep_by d t.kind (folded text t) (all_seen_in text (t ∷ ts)) (λ n. deep n (all_seen_in text ts))

kept_is : (text : List ℕ) (d : ℕ) (ts front rest : List Token) (us : List (Tok Word)) → up_to d ts ≡ front → ts ≡ front ++ rest → deep d (all_seen_in text front) ≡ Some us → 0 < length us → Kept text d ts
kept_is text d ts front rest us e is over some =
    inr (rest, us, subst (λ (fs : List Token). ts ≡ fs ++ rest) (sym e) is, subst (λ (fs : List Token). deep d (all_seen_in text fs) ≡ Some us) (sym e) over, some)

kept_more : (text : List ℕ) (d n : ℕ) (t : Token) (ts : List Token) → behind d t.kind ≡ Some n → Kept text n ts → Kept text d (t ∷ ts)
kept_more text d n t ts e (inl h) = inl (rw e (ap (λ (us : List Token). t ∷ us) h.0), λ end. rw e (h.1 end))
kept_more text d n t ts e (inr h) =
    kept_is text d (t ∷ ts) (t ∷ up_to n ts) h.0 h.1 (rw e refl) (ap (λ (us : List Token). t ∷ us) h.2) (deep_first text d t (up_to n ts) ∙ rw e h.3) h.4

kept_by : (text : List ℕ) (d : ℕ) (t : Token) (ts : List Token) (o : Option ℕ) → behind d t.kind ≡ o → ((n : ℕ) → Kept text n ts) → Kept text d (t ∷ ts)
kept_by text d t ts None e h = kept_is text d (t ∷ ts) (t ∷ []) ts (all_seen_in text (t ∷ [])) (rw e refl) refl (deep_first text d t [] ∙ rw e refl) (omega arith)
kept_by text d t ts (Some n) e h = kept_more text d n t ts e (h n)

pub kept : (text : List ℕ) (d : ℕ) (ts : List Token) → Kept text d ts
kept text d [] = inl (refl, λ end. refl)
kept text d (t ∷ ts) = kept_by text d t ts (behind d t.kind) refl (λ n. kept text n ts)
