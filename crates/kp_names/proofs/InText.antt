-- The first fault of a tree that reads lies in its text.
use Rattle.std.proofs.Common.{◌≡◌, ◌≤◌, ℕ, zero, suc, List, [], ◌∷◌, length, Some, None, slice_get, refl, sym, ◌∙◌, subst, arith, inl, inr}
use Rattle.kp_base.specs.Lists.{Member}
use Rattle.kp_lex.specs.declared.token.Token.{Token}
use Rattle.kp_lex.specs.Cutting.{Cut}
use Rattle.kp_lex.specs.Spans.{IsTokenOf}
use Rattle.kp_lex.proofs.Public.{each_span_is_a_token}
use Rattle.kp_tree_grammar.specs.declared.tree.Word.{Word}
use Rattle.kp_tree_grammar.specs.Trees.{Domain, Problem}
use Rattle.kp_tree_grammar.specs.Symbols.{all_seen_in}
use Rattle.kp_tree_grammar.specs.Grammar as grammar
use Rattle.kp_tree_grammar.specs.Texts.{ReadsAs}
use Rattle.kp_names_semantics.specs.Faults.{Fault, byte_of, domain_faults, problem_faults}
use Rattle.kp_names.specs.Noted.{noted}
use Rattle.kp_names.proofs.Held.{OfTokens, held}
use Rattle.kp_names.proofs.Within.{Early, EarlyFault, AreEarly, domain_early, problem_early}
use Rattle.kp_names.proofs.FirstFault.{is_first, noted_first}

tokens_from : (text : List ℕ) (ts : List Token) → ((i : ℕ) (t : Token) → slice_get ts i ≡ Some t → IsTokenOf text t) → OfTokens (Early (length text)) (all_seen_in text ts)
tokens_from text [] h = tt
tokens_from text (t ∷ ts) h = ((let it = h zero t refl in let some = it.not_empty in let end = it.within in omega arith), tokens_from text ts (λ i u e. h (suc i) u e))

-- each token of a text begins within it
tokens_early : {text : List ℕ} (ts : List Token) → Cut 0 text ts → OfTokens (Early (length text)) (all_seen_in text ts)
tokens_early {text} ts h = tokens_from text ts (λ i t e. each_span_is_a_token ts i t h e)

member_early : (n : ℕ) (fs : List Fault) (f : Fault) → AreEarly n fs → Member fs f → byte_of f ≤ n
member_early n [] f h m = absurd m
member_early n (g ∷ gs) f h m = elim m [ inl e ↦ subst (EarlyFault n) e h.0 | inr r ↦ member_early n gs f h.1 r ]

first_early : (n : ℕ) (fs : List Fault) (f : Fault) → AreEarly n fs → noted None fs ≡ Some f → byte_of f ≤ n
first_early n fs f h e = member_early n fs f h (is_first fs f (sym (noted_first fs) ∙ e)).among

pub in_domain : (text : List ℕ) (d : Domain Word) (p : Problem Word) (f : Fault) → ReadsAs grammar.domain text d → noted None (domain_faults d p) ≡ Some f → byte_of f ≤ length text
in_domain text d p f r e = first_early (length text) (domain_faults d p) f (domain_early (length text) d p (held (Early (length text)) r.reads (tokens_early r.tokens r.cut)).0) e

pub in_problem : (text : List ℕ) (d : Domain Word) (p : Problem Word) (f : Fault) → ReadsAs grammar.problem text p → noted None (problem_faults d p) ≡ Some f → byte_of f ≤ length text
in_problem text d p f r e = first_early (length text) (problem_faults d p) f (problem_early (length text) d p (held (Early (length text)) r.reads (tokens_early r.tokens r.cut)).0) e
