-- The facts of one tag after a list of actions, without merges.
use Rattle.std.proofs.Common.{◌≡◌, ℕ, Bool, true, false, not, ◌&&◌, ◌||◌, List, [], ◌∷◌, ◌++◌, Option, Some, None, slice_get, refl}
use Rattle.std.proofs.lemmas.Bool.{false≢true}
use Rattle.kp_base.specs.declared.lit.Lit.{Lit}
use Rattle.kp_base.specs.declared.ground.Action.{Action}
use Rattle.kp_base.specs.declared.ground.Ground.{Ground}
use Rattle.kp_base.specs.Planning.{negated, State, Valuation, holds, fires, after, next, state_after, facts_after, IsRelevant}
use Rattle.kp_base.proofs.Lists.{member_at}
use Rattle.kp_law_tagged_machine.proofs.Exact.{persists_exact as persists_where_none_fires_against}
use Rattle.kp_law_tagged_machine.proofs.Monotone.{Within as IsWithinFor, facts_more}
use Rattle.kp_law_tagged_machine.proofs.Relevance.{relevant_links}

-- the facts after an action, if there is such an action
abbrev pub facts_next : Option Action → Valuation → Valuation
facts_next None k = k
facts_next (Some a) k = facts_after a k

-- the facts after the actions
abbrev pub facts_run : Ground → Valuation → List ℕ → Valuation
facts_run g k [] = k
facts_run g k (n ∷ ns) = facts_run g (facts_next (slice_get g.actions n) k) ns

pub facts_run_push : (g : Ground) (k : Valuation) (ns : List ℕ) (n : ℕ) → facts_run g k (ns ++ n ∷ []) ≡ facts_next (slice_get g.actions n) (facts_run g k ns)
facts_run_push g k [] n = refl
facts_run_push g k (x ∷ ns) n = facts_run_push g (facts_next (slice_get g.actions x) k) ns n

-- what is relevant to a literal before the actions decides it afterwards
pub facts_run_more : (g : Ground) (ns : List ℕ) (k j : Valuation) (m : Lit) → IsWithinFor (IsRelevant g.actions) k j m → facts_run g k ns m ≡ true → facts_run g j ns m ≡ true
facts_run_more g [] k j m within h = within m (IsRelevant.itself m) h
facts_run_more g (n ∷ ns) k j m within h =
    facts_run_more g ns (facts_next (slice_get g.actions n) k) (facts_next (slice_get g.actions n) j) m (λ l r e. one (slice_get g.actions n) refl l r e) h
  where
    one : (o : Option Action) → slice_get g.actions n ≡ o → (l : Lit) → IsRelevant g.actions l m → facts_next o k l ≡ true → facts_next o j l ≡ true
    one None is l r e = within l r e
    one (Some a) is l r e = facts_more (IsRelevant g.actions) a (relevant_links g.actions a (member_at g.actions n a is)) k j l (λ c rc. within c (IsRelevant.onward c l m rc r)) e

-- ---- states

-- what is true after an action is a fact after it, where it began with what is true
true_is_fact : (a : Action) (s : State) (l : Lit) → holds (after a s) l ≡ true → facts_after a (holds s) l ≡ true
true_is_fact a s l h =
    rw (persists_where_none_fires_against a.effects s l) (by_sign l.positive h)
  where
    deleted_or_gone : (f d t : Bool) → not (f || (t && not d)) ≡ true → (d || (not t && not f)) ≡ true
    deleted_or_gone true d t h = absurd (false≢true h)
    deleted_or_gone false true t h = refl
    deleted_or_gone false false true h = h
    deleted_or_gone false false false h = refl

    by_sign : (b : Bool) → holds (after a s) (record { atom = l.atom; positive = b }) ≡ true → (let m : Lit = record { atom = l.atom; positive = b } in fires a.effects (holds s) m || (holds s m && not (fires a.effects (holds s) (negated m)))) ≡ true
    by_sign true h = h
    by_sign false h = deleted_or_gone _ _ _ h

-- so it is after a list of actions
pub facts_run_true : (g : Ground) (ns : List ℕ) (s : State) (l : Lit) → holds (state_after g s ns) l ≡ true → facts_run g (holds s) ns l ≡ true
facts_run_true g [] s l h = h
facts_run_true g (n ∷ ns) s l h =
    facts_run_more g ns (holds (next (slice_get g.actions n) s)) (facts_next (slice_get g.actions n) (holds s)) l (λ m r. one (slice_get g.actions n) m) (facts_run_true g ns (next (slice_get g.actions n) s) l h)
  where
    one : (o : Option Action) (m : Lit) → holds (next o s) m ≡ true → facts_next o (holds s) m ≡ true
    one None m e = e
    one (Some a) m e = true_is_fact a s m e
