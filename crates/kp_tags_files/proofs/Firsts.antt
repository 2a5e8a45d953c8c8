-- The first token of a file that is refused.
use Rattle.std.proofs.Common.{◌≡◌, ℕ, suc, ◌≤◌, ◌<◌, ◌⊎◌, inl, inr, List, ◌∷◌, length, drop, None, ap, arith}
use Rattle.std.proofs.lemmas.Bool.{cases_lt}
use Rattle.kp_tree_grammar.specs.declared.tree.Word.{Word}
use Rattle.kp_tree_grammar.specs.Language.{Atom, Tok, fact, At, stop, Reads, StopsWhole, within_form, after_form}
use Rattle.kp_tree_grammar.proofs.Public.{whole_stops_once}
use Rattle.kp_tags_files.specs.Grammar.{MergeTree, merges, name_of_atom}
use Rattle.kp_tags_files.specs.Numbers.{Numbers}
use Rattle.kp_tags_files.specs.MergesFiles.{AtomStands, IsRefused, stops, no_ground_atom, IsFirstRefused}
use Rattle.kp_tags_files.specs.Parts.{Walk, Reaches, Halts, stopped, unknown}
use Rattle.kp_tags_files.proofs.Walks.{has_bracket, passes, each_has_number}

module _ {number : Numbers} {all : List (Tok Word)} where
  -- no atom without a number stands before the end of a walk
  pub none_before : {e : ℕ} {near there : List (Tok Word)} {a : Atom Word} → Walk number 0 all e near → AtomStands all there a → number (name_of_atom a) ≡ None → length there ≤ length near
  none_before {near = near} {there = there} {a = a} w s none = go (cases_lt (length near) (length there)) where
    go : (length near < length there) ⊎ (length there ≤ length near) → length there ≤ length near
    go (inl less) = absurd (each_has_number s.reads none w s.before s.split (omega (arith, s.inside)) less)
    go (inr more) = more

  -- the grammar stops
  module _ {at : At Word} {e : ℕ} {near : List (Tok Word)} (h : StopsWhole merges all at) (w : Walk number 0 all e near) (n : length near ≤ suc (length at.tokens)) where
    none_before_stop : (there : List (Tok Word)) → IsRefused number all there → length there ≤ length at.tokens
    none_before_stop _ (stops other k) = let same : other ≡ at = whole_stops_once _ _ merges all other at k h in omega (arith, ap (λ (x : At Word). length x.tokens) same)
    none_before_stop _ (no_ground_atom there a s none) = omega (arith, n, none_before w s none, has_bracket s.reads)

    pub first_by_stop : IsFirstRefused number all at.tokens
    first_by_stop = record { refused = stops at h; first = none_before_stop }

  -- an atom has no number
  module _ {e : ℕ} {here behind : List (Tok Word)} {a : Atom Word} (r : Reaches merges all (drop 1 here)) (w : Walk number 0 all (suc e) here) (f : Reads fact here a behind) (none : number (name_of_atom a) ≡ None) where
    no_stop_before : {at : At Word} → StopsWhole merges all at → length at.tokens ≤ length (drop 1 here)
    no_stop_before {at = at} (within_form k) = r.stops at k
    no_stop_before (after_form {t = t} {rest = rest} {x = x} k) = r.reads x (t ∷ rest) k

    none_before_atom : (there : List (Tok Word)) → IsRefused number all there → length there ≤ length (drop 1 here)
    none_before_atom _ (stops at k) = no_stop_before k
    none_before_atom _ (no_ground_atom there b s no_number) = omega (arith, none_before w s no_number, has_bracket s.reads, has_bracket f)

    pub first_by_atom : IsFirstRefused number all (drop 1 here)
    first_by_atom =
        let p = passes w in
        record {
          refused = no_ground_atom here a (record { before = p.before; split = p.split; inside = omega (arith, p.count); behind = behind; reads = f }) none;
          first = none_before_atom;
        }

  -- so where merges are refused first
  pub first_is : {here : List (Tok Word)} → Halts number 0 merges all here → IsFirstRefused number all here
  first_is (stopped h w n) = first_by_stop (within_form h) w n
  first_is (unknown r w f none) = first_by_atom r w f none

  -- or where more is left behind them
  pub first_behind : {t : Tok Word} {rest : List (Tok Word)} {tree : List MergeTree} → Reads merges all tree (t ∷ rest) → Walk number 0 all 0 (t ∷ rest) → IsFirstRefused number all (t ∷ rest)
  first_behind {t = t} {rest = rest} h w = first_by_stop {at = stop (t ∷ rest)} (after_form h) w (omega arith)
