-- From what cutting gives to what is promised of it.
use Rattle.std.proofs.Common.{◌≡◌, ℕ, List, Result, Ok, Err, MatchResult, IfOk, length, subst, refl, ap, inl, inr, ◌∙◌}
use Rattle.kp_base.specs.declared.refused.Part.{Part}
use Rattle.kp_base.specs.declared.refused.Stop.{Stop}
use Rattle.kp_base.specs.declared.refused.Stop.TheVariants as stops
use Rattle.kp_base.specs.declared.refused.Refused.TheVariants as refusals
use Rattle.kp_lex.specs.declared.token.Token.{Token}
use Rattle.kp_lex.specs.Cutting.{Cut, BadAt}
use Rattle.kp_lex.specs.Places.{place_of}
use Rattle.kp_lex.specs.Spans.{InOrder}
use Rattle.kp_lex.specs.Scanning.{cut, Fails}
use Rattle.kp_lex.specs.Answers.{IsRight, GivesTokens, RefusesAt}
use Rattle.kp_lex.proofs.Exact.{Tells, cut_tells, cut_is, bad_is}
use Rattle.kp_lex.proofs.Spans.{in_text}

-- what the scanner gives
abbrev pub Given : Part → List ℕ → Result (List Token) Stop → Type 0
Given part text r = MatchResult r (λ ts. cut 0 text ≡ Ok ts) (λ e. Fails part text e (cut 0 text))

pub right : (part : Part) (text : List ℕ) (r : Result (List Token) Stop) → Given part text r → IsRight part text r
right part text (Ok ts) e = subst (λ (o : Result (List Token) ℕ). Tells 0 text o) e (cut_tells 0 text)
right part text (Err stops.Memory) e = tt
right part text (Err (stops.Refused (refusals.BadToken p))) e = (e.0, (subst (λ (o : Result (List Token) ℕ). Tells 0 text o) e.1.0 (cut_tells 0 text), e.1.1))
right part text (Err (stops.Refused _)) e = absurd e

pub gives : (part : Part) (text : List ℕ) (r : Result (List Token) Stop) → Given part text r → (ts : List Token) → Cut 0 text ts → GivesTokens ts r
gives part text (Ok us) e ts h = let same : cut 0 text ≡ Ok ts = cut_is h in inl cc
gives part text (Err stops.Memory) e ts h = inr refl
gives part text (Err (stops.Refused (refusals.BadToken p))) e ts h =
    let same : cut 0 text ≡ Ok ts = cut_is h in
    let other : cut 0 text ≡ Err e.0 = e.1.0 in
    absurd cc
gives part text (Err (stops.Refused _)) e ts h = absurd e

pub refuses : (part : Part) (text : List ℕ) (r : Result (List Token) Stop) → Given part text r → (i : ℕ) → BadAt 0 text i → RefusesAt part text i r
refuses part text (Ok ts) e i h = let same : cut 0 text ≡ Err i = bad_is h in absurd cc
refuses part text (Err stops.Memory) e i h = inr refl
refuses part text (Err (stops.Refused (refusals.BadToken p))) e i h =
    let same : cut 0 text ≡ Err i = bad_is h in
    let other : cut 0 text ≡ Err e.0 = e.1.0 in
    let at : e.0 ≡ i = cc (same, other) in
    inl (ap (λ q. Err (stops.Refused (refusals.BadToken q))) (e.1.1 ∙ ap (place_of part text) at))
refuses part text (Err (stops.Refused _)) e i h = absurd e

pub spans : (part : Part) (text : List ℕ) (r : Result (List Token) Stop) → Given part text r → IfOk r (λ ts. InOrder 0 ts (length text))
spans part text (Ok ts) e = in_text (subst (λ (o : Result (List Token) ℕ). Tells 0 text o) e (cut_tells 0 text))
spans part text (Err s) e = tt
